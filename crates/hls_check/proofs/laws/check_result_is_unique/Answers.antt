-- A certificate has at most one result: its verdict, or its first fault with that fault's numbers.
use Rattle.hls_check.proofs.OneAnswer.{one_answer}
use Rattle.hls_check.proofs.laws.check_result_is_unique.Goals as goal

pub returns : goal.returns
returns c = one_answer
