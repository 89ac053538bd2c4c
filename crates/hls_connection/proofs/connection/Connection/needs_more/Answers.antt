-- A connection that is idle or blocked, isn't over and has nothing to send needs more of its stream, which hasn't ended.
use Rattle.std.proofs.Math.Logic.{∥∥₁_map}
use Rattle.hls_connection.{specs.Traces.trace_of, proofs.{HoldLaws.needs_of, SessionLaws.rests_before}}
use Rattle.hls_connection.proofs.connection.Connection.needs_more.Goals as goal

pub returns : goal.returns
returns c =
    let lacks = rests_before (trace_of c.args.self.now.memory) c.requires.nothing c.requires.continues c.requires.idle_or_blocked in
    record { unended = lacks.0; needs = ∥∥₁_map c.args.self.now.holds (λ h. needs_of h lacks.1) }
