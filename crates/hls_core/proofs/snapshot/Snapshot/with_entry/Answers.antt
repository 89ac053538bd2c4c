-- The log has room for one more entry: it has as many as that of the state, which has room.
use Rattle.std.proofs.Common.{arith, ap, length}
use Rattle.hls_core_laws.specs.State.{State}
use Rattle.hls_core.proofs.snapshot.Snapshot.with_entry.Goals as goal

pub pushed-requires : goal.pushed-requires
pushed-requires c = omega (arith, c.requires.room, c.self.invariant.all, ap (λ (s : State). length s.log) c.self.view_is)
