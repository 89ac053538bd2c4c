-- By induction on the takes.
use Rattle.hls_rates.proofs.laws.rate_bounds_what_is_taken.Goals as goal
use Rattle.hls_rates.proofs.Takes.{bounded}

pub returns : goal.returns
returns c = bounded
