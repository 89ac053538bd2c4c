-- Whatever the records and the stored media are, a restored state is a state of the configuration, and follows the opening state.
use Rattle.hls_journal_laws.proofs.States.{restored-states-are-states}
use Rattle.hls_journal_laws.proofs.laws.restored_states_are_states.Goals as goal

pub returns : goal.returns
returns c = restored-states-are-states
