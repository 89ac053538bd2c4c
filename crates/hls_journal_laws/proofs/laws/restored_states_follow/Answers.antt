-- The state that the records of some events restore is the one that these events lead to, and it follows each state before.
use Rattle.hls_journal_laws.proofs.Continued.{restored-states-follow}
use Rattle.hls_journal_laws.proofs.laws.restored_states_follow.Goals as goal

pub returns : goal.returns
returns c = restored-states-follow c.runs_follow.ensures
