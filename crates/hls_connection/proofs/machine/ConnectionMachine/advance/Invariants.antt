-- The steps so far advance the connection, and lowered the number of steps left by at least their number.
use Rattle.std.proofs.Common.{◌≡◌, ◌+◌, ◌≤◌, None}
use Rattle.hls_connection.specs.{Waits.{IsDeadline, deadline_in}, Traces.{Advances, trace_at, trace_steps_left}}
use Rattle.hls_connection.proofs.machine.ConnectionMachine.advance.Given as goal

abbrev pub invariant-loop : goal.invariant-loop
invariant-loop g l = record {
  advances : Advances g.K.Keeper.other_actors (g.K.Keeper.known l.initial.keeper) (trace_at l.initial.self l.initial.input.unread) (g.K.Keeper.known l.keeper) (trace_at l.self l.input.unread);
  deadline : IsDeadline l.initial.now None (deadline_in l.self.state);
  room : l.input.room ≡ l.initial.input.room;
  lowers : l.counter + trace_steps_left (trace_at l.self l.input.unread) ≤ trace_steps_left (trace_at l.initial.self l.initial.input.unread);
}
