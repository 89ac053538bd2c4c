-- A certificate passes the check in parallel exactly if it is good.
use Rattle.hls_check.proofs.GoodAnswers.{good_from_ok, ok_from_good}
use Rattle.hls_check.proofs.checker.check_rows.Goals as goal

pub returns-clause-good : goal.returns-clause-good
returns-clause-good g c = (
  good_from_ok _ _ c.check_in_parallel.ensures.answer,
  ok_from_good _ c.check_in_parallel.ensures.form.table _ c.check_in_parallel.ensures.answer,
)
