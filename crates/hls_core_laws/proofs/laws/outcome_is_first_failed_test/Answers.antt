-- The outcome of an event is that of the first of its tests that holds, in their order.
use Rattle.hls_core_laws.proofs.TestLists.{outcome_by_tests}
use Rattle.hls_core_laws.proofs.laws.outcome_is_first_failed_test.Goals as goal

pub returns : goal.returns
returns c = outcome_by_tests
