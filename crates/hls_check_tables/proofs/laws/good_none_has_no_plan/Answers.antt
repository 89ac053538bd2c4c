-- If a certificate of no cut is good, its table has no plan.
use Rattle.hls_check_tables.proofs.Walks.{no_plan_from_good}
use Rattle.hls_check_tables.proofs.laws.good_none_has_no_plan.Goals as goal

pub returns : goal.returns
returns c = no_plan_from_good
