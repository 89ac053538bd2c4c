-- The remaining events fit the state so far, and lead from it to the state to which all events lead from the opening state.
use Rattle.std.proofs.Common.{◌≡◌, drop}
use Rattle.hls_core_laws.specs.Runs.{first_state, replayed_state, AreFitting}
use Rattle.hls_core.proofs.replay.replay.Given as goal

abbrev pub invariant-loop-pair : goal.invariant-loop-pair
invariant-loop-pair l = record {
  progress : replayed_state l.state.value (drop l.pair-index l.events) ≡ replayed_state (first_state l.fn.config) l.events;
  fitting : AreFitting l.state.value (drop l.pair-index l.events);
}
