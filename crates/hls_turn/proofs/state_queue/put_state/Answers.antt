-- A pass that holds the state, or is the first, may put it in by the queue's rule, and the queue is empty then.
use Rattle.hls_turn.proofs.Steps.{puts, empty_at_put}
use Rattle.hls_turn.proofs.state_queue.put_state.Goals as goal

pub push_as-requires-clause-rule : goal.push_as-requires-clause-rule
push_as-requires-clause-rule g c = (puts _ _ _ c.args.state c.requires.may, empty_at_put _ _ c.args.state c.requires.may)
