-- The rendition state that is stored at a number is the one that the snapshot's state has there.
use Rattle.std.proofs.Common.{◌<◌, length, arith}
use Rattle.hls_core.proofs.Cited.{at_read, at_map}
use Rattle.hls_core.proofs.Taken.{side_at}
use Rattle.hls_core.proofs.snapshot.Snapshot.rendition.Goals as goal

pub returns-clause-some : goal.returns-clause-some
returns-clause-some c =
    let below : c.args.rendition < length c.self.inside.rendition_states.items = omega arith in
    rw c.deref-rendition_state.ensures
    (side_at c.self.inside _ c.args.rendition _ c.self.view_is c.self.invariant
    (at_map (λ a. a.value) c.self.inside.rendition_states.items c.args.rendition _ (at_read _ _ _ below c.index.ensures)))
