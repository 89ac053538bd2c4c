-- By the queue's rule, any pass may take the state out.
use Rattle.hls_turn.proofs.Steps.{takes}
use Rattle.hls_turn.proofs.state_queue.take_state.Goals as goal

pub pop_as-requires-clause-rule : goal.pop_as-requires-clause-rule
pop_as-requires-clause-rule g c = (takes _ _, λ items views kept at. tt)
