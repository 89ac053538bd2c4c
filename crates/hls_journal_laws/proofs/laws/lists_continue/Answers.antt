-- After a live playlist that was sent before a restart, that of the restored channel is valid as a later one.
use Rattle.hls_journal_laws.proofs.Continued.{lists-continue}
use Rattle.hls_journal_laws.proofs.laws.lists_continue.Goals as goal

pub returns : goal.returns
returns c = lists-continue c.restored_states_follow.ensures c.based_lists_follow.ensures
