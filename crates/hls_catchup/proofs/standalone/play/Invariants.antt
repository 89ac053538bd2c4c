-- Before each round, the state and the answers so far are those to which the actions so far lead.
use Rattle.hls_catchup.proofs.Plays.{IsPlayedTo}
use Rattle.hls_catchup.proofs.standalone.play.Given as goal

abbrev pub invariant-loop-action : goal.invariant-loop-action
invariant-loop-action l = IsPlayedTo l.fn.config l.actions l.action-index l.state.value l.answers.items
