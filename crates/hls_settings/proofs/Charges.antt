-- A charge in its range yields a rule for a listing.
use Rattle.std.proofs.Common.{ℕ, ◌≤◌, Option, Some, None, arith}
use Rattle.hls_check_tables.specs.Tables.{charge_limit, charge_of, rule_of}
use Rattle.hls_settings.specs.Options.{IsCharge}

-- the rule with a charge in range has a charge in range
pub rule_in_range : (charge : Option ℕ) → IsCharge charge → charge_of (rule_of charge) ≤ charge_limit
rule_in_range None good = omega arith
rule_in_range (Some charge) good = good
