-- If a certificate of a cut is good, its plan is optimal: no plan of its table costs less.
use Rattle.hls_check_tables.proofs.Walks.{least_from_good}
use Rattle.hls_check_tables.proofs.laws.good_cut_is_least.Goals as goal

pub returns : goal.returns
returns c = least_from_good
