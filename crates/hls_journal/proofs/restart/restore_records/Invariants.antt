-- Before each round, the state is what the records so far restore, and `number` is how many they are.
use Rattle.std.proofs.Common.{◌≡◌, take}
use Rattle.hls_core_laws.specs.Runs.{first_state}
use Rattle.hls_journal_laws.specs.Restored.{Restores}
use Rattle.hls_journal.specs.Recalling.{floors_at}
use Rattle.hls_journal.proofs.restart.restore_records.Given as goal

abbrev pub invariant-loop-body : goal.invariant-loop-body
invariant-loop-body l = Restores (floors_at l.floors.items) l.media (first_state l.fn.config) (take l.body-index l.bodies) l.state.value × (l.number ≡ l.body-index)
