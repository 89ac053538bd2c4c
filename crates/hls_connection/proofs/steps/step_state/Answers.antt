-- A step that makes the next part of a response makes progress: fewer steps are left.
use Rattle.std.proofs.Common.{arith}
use Rattle.hls_connection.proofs.HoldLaws.{turns_on}
use Rattle.hls_connection.proofs.steps.step_state.Goals as goal

pub returns-in-Write-clause-turns : goal.returns-in-Write-clause-turns
returns-in-Write-clause-turns g c = rw c.in-Write.is (turns_on c.step_writing.ensures.continues (omega (arith, c.step_writing.ensures.lowers)))
