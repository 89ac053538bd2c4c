-- After a live playlist by paths that was sent before a restart, that of the restored channel is valid as a later one.
use Rattle.hls_journal_laws.proofs.Continued.{path-lists-continue}
use Rattle.hls_journal_laws.proofs.laws.path_lists_continue.Goals as goal

pub returns : goal.returns
returns c = path-lists-continue c.restored_states_follow.ensures c.path_lists_follow.ensures
