-- A connection stays consistent when some of its waiting bytes are sent.
use Rattle.std.proofs.{Common.{subst, sym}, Math.Logic.∥∥₁_map}
use Rattle.hls_connection.{specs.Traces.{IsConsistentTrace, trace_of}, proofs.TraceLaws.sends_holds}
use Rattle.hls_connection.proofs.connection.Connection.mark_sent.Goals as goal

pub invariant_of-self : goal.invariant_of-self
invariant_of-self c = record {
  holds = ∥∥₁_map c.args.self.now.holds (λ h. subst IsConsistentTrace (sym c.mark_sent.ensures) (sends_holds (trace_of c.args.self.now.memory) c.args.count h));
}
