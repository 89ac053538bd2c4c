-- A connection stays consistent after a read, whether it succeeded or failed, and after memory was allocated for it.
use Rattle.std.proofs.Math.Logic.{∥∥₁_map}
use Rattle.hls_connection.specs.Traces.{IsConsistentTrace, trace_of}
use Rattle.hls_connection.proofs.connection.Connection.read_from.Goals as goal

pub invariant_of-self : goal.invariant_of-self
invariant_of-self g c = record { holds = ∥∥₁_map c.args.self.now.holds (λ h. rw c.allocate.ensures.trace h) }

pub invariant_of-self-then-is_err : goal.invariant_of-self-then-is_err
invariant_of-self-then-is_err g c = record {
  holds = ∥∥₁_map c.args.self.now.holds (λ h.
      let woken : IsConsistentTrace (trace_of c.allocate.new.self) = rw c.allocate.ensures.trace h in
      let held = c.read_from-read.ensures.holds (rw c.deref_mut-active.ensures.value (rw c.in-Active.is at woken)) in
      rw c.release.ensures held);
}

pub invariant_of-self-else-is_err : goal.invariant_of-self-else-is_err
invariant_of-self-else-is_err g c = record {
  holds = ∥∥₁_map c.args.self.now.holds (λ h.
      let woken : IsConsistentTrace (trace_of c.allocate.new.self) = rw c.allocate.ensures.trace h in
      c.read_from-read.ensures.holds (rw c.deref_mut-active.ensures.value (rw c.in-Active.is at woken)));
}
