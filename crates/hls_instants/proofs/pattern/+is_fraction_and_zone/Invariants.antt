-- The recursion ends: each further call may read one digit fewer.
use Rattle.hls_instants.proofs.pattern.+is_fraction_and_zone.Given as goal

abbrev pub decreases-is_fraction_and_zone : goal.decreases-is_fraction_and_zone
decreases-is_fraction_and_zone l = l.digits
