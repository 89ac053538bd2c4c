-- The result of a planner, and what it says about its table.

use Rattle.std.specs.Prelude.{length}
use Rattle.hls_plan.specs.declared.planned.Planned.{Planned}
use Rattle.hls_plan.specs.declared.planned.Planned.TheVariants.{Cut, NoCut}
use Rattle.hls_check_tables.specs.Tables.{Table}
use Rattle.hls_check_tables.specs.Plans.{plan_cost, IsLeast, HasNoPlan}
use Rattle.hls_check_tables.specs.Certificates.{ClaimData, CutClaim, NoneClaim, CertificateData, IsForm}
use Rattle.hls_plan.specs.Paths.{HasLeastPrices, HasReachable}

-- the claim of the result's certificate
abbrev pub planned_claim : Table → Planned → ClaimData
planned_claim t (Cut plan prices) = CutClaim (plan_cost t plan.items) plan.items prices.items
planned_claim t (NoCut closed) = NoneClaim closed.items

-- the certificate of the result over the table itself
abbrev pub certificate_of : Table → Planned → CertificateData
certificate_of t planned = record { table = t; shown = planned_claim t planned }

-- the result's claim can be written as text
abbrev pub HasClaimForm : Table → Planned → Type 0
HasClaimForm t planned = IsForm (length t.places) (planned_claim t planned)

-- the plan is optimal, or there is none
abbrev pub IsBest : Table → Planned → Type 0
IsBest t (Cut plan prices) = IsLeast t plan.items
IsBest t (NoCut closed) = HasNoPlan t

-- prices are the least costs of exactly the places that can be reached, and the closed set is the set of those
abbrev pub HasExactPrices : Table → Planned → Type 0
HasExactPrices t (Cut plan prices) = HasLeastPrices t prices.items
HasExactPrices t (NoCut closed) = HasReachable t closed.items
