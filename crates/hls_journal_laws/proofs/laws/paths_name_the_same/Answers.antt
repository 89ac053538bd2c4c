-- A path names the same units with the same bytes after a restart as before, unless the first of them is trimmed.
use Rattle.hls_journal_laws.proofs.Continued.{paths-name-the-same}
use Rattle.hls_journal_laws.proofs.laws.paths_name_the_same.Goals as goal

pub returns : goal.returns
returns c = paths-name-the-same c.restored_states_follow.ensures c.paths_never_change.ensures
