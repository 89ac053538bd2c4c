-- A certificate passes the check exactly if it is good.
use Rattle.hls_check.proofs.GoodAnswers.{good_from_ok, ok_from_good}
use Rattle.hls_check.proofs.checker.check.Goals as goal

pub returns-clause-good : goal.returns-clause-good
returns-clause-good c = (
  good_from_ok _ _ c.check_sequentially.ensures.answer,
  ok_from_good _ c.check_sequentially.ensures.form.table _ c.check_sequentially.ensures.answer,
)
