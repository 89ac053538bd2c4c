-- The canonical text of a certificate: its lines, each with one spelling. Version 1 is rule 1; in version 2 the second line gives the rule.
use Rattle.std.specs.Prelude.{ℕ, ◌+◌, ◌<◌, List, [], ◌∷◌, ◌++◌, length, map, codes, Option, Some, None, Bool, true, false}
use Rattle.hls_check_tables.specs.declared.cost_rule.CostRule.{CostRule}
use Rattle.hls_check_tables.specs.declared.cost_rule.CostRule.TheVariants.{Deviation, Charged}
use Rattle.hls_check_tables.specs.declared.goal.Goal.{Goal}
use Rattle.hls_check_tables.specs.declared.spot.Spot.{Spot}
use Rattle.hls_check_tables.specs.declared.certificate.Claim.{Claim}
use Rattle.hls_check_tables.specs.declared.certificate.Claim.TheVariants.{Cut, NoCut}
use Rattle.hls_check_tables.specs.Tables.{Table}
use Rattle.hls_check_tables.specs.Certificates.{CertificateData, ClaimData, CutClaim, NoneClaim}
use Rattle.hls_text.specs.Lines.{text_of_lines}
use Rattle.hls_text.specs.Numbers.{numbers_text, number_line}

-- the first line of version 1
abbrev pub header_line : List ℕ
header_line = codes "HLS-CUT-CERTIFICATE 1"

-- the first line of version 2, before the line of its rule
abbrev pub ruled_header_line : List ℕ
ruled_header_line = codes "HLS-CUT-CERTIFICATE 2"

-- the line that says that the table has no plan
abbrev pub none_line : List ℕ
none_line = codes "none"

-- the last line
abbrev pub end_line : List ℕ
end_line = codes "end"

-- the line of rule 2, with its charge for each segment in microseconds
abbrev pub charge_line : ℕ → List ℕ
charge_line n = number_line (codes "rule 2 ") n

-- the line of the target, in seconds
abbrev pub target_line : ℕ → List ℕ
target_line n = number_line (codes "target ") n

-- the line of the preferred length, in microseconds
abbrev pub preferred_line : ℕ → List ℕ
preferred_line n = number_line (codes "preferred ") n

-- the line of the number of renditions
abbrev pub renditions_line : ℕ → List ℕ
renditions_line n = number_line (codes "renditions ") n

-- the line of the number of places
abbrev pub places_line : ℕ → List ℕ
places_line n = number_line (codes "places ") n

-- the line of a cut's cost, in microseconds
abbrev pub cut_line : ℕ → List ℕ
cut_line n = number_line (codes "cut ") n

-- the line of a place of the closed set
abbrev pub closed_line : ℕ → List ℕ
closed_line p = number_line (codes "closed ") p

-- the line of a plan: the numbers of its places
abbrev pub plan_line : List ℕ → List ℕ
plan_line plan = codes "plan " ++ numbers_text plan

-- a place of a table, by its number, with its price in microseconds
pub record PricedPlace : Type 0 where
  pub place : ℕ
  pub price : ℕ

-- this place with this price
abbrev pub priced_place : ℕ → ℕ → PricedPlace
priced_place place price = record { place = place; price = price }

-- the line of a place and its price
abbrev pub price_line : PricedPlace → List ℕ
price_line p = codes "price " ++ numbers_text (p.place ∷ p.price ∷ [])

-- the numbers of a spot after its fragment number
abbrev pub fields_after_fragment : Spot → List ℕ
fields_after_fragment s = s.prev_end ∷ s.start ∷ s.run_in ∷ s.run_out ∷ []

-- the numbers of a place line, spot by spot
unfoldable pub place_numbers : List Spot → List ℕ
place_numbers [] = []
place_numbers (s ∷ spots) =
    s.fragment ∷ s.prev_end ∷ s.start ∷ s.run_in ∷ s.run_out ∷ place_numbers spots

-- a place's line in the table: the five numbers of each of its spots
abbrev pub place_line : List Spot → List ℕ
place_line place = numbers_text (place_numbers place)

-- the places of a list of prices that have one; the list begins at place p
unfoldable pub priced_places_from : ℕ → List (Option ℕ) → List PricedPlace
priced_places_from p [] = []
priced_places_from p (None ∷ prices) = priced_places_from (p + 1) prices
priced_places_from p (Some v ∷ prices) = record { place = p; price = v } ∷ priced_places_from (p + 1) prices

-- the places of a closed set; the list of its flags begins at place p
unfoldable pub closed_places_from : ℕ → List Bool → List ℕ
closed_places_from p [] = []
closed_places_from p (false ∷ closed) = closed_places_from (p + 1) closed
closed_places_from p (true ∷ closed) = p ∷ closed_places_from (p + 1) closed

-- the version lines, which include the rule
abbrev pub rule_lines : CostRule → List (List ℕ)
rule_lines Deviation = header_line ∷ []
rule_lines (Charged charge) = ruled_header_line ∷ charge_line charge ∷ []

-- the header lines: the version with the rule, the target, the preferred length, and the numbers of renditions and places
abbrev pub head_lines : Goal → ℕ → ℕ → List (List ℕ)
head_lines goal renditions count =
    rule_lines goal.rule
    ++ (target_line goal.target ∷ preferred_line goal.preferred ∷ renditions_line renditions ∷ places_line count ∷ [])

-- the lines of a table: the header lines, then one for each place
unfoldable pub table_lines : Table → List (List ℕ)
table_lines t = head_lines t.goal t.renditions (length t.places) ++ map place_line t.places

-- the lines of a claim: for a cut its cost, its plan and the prices; for no cut `none` and the closed set; then `end`
unfoldable pub claim_lines : ClaimData → List (List ℕ)
claim_lines (CutClaim total plan prices) =
    cut_line total ∷ plan_line plan ∷ (map price_line (priced_places_from 0 prices) ++ (end_line ∷ []))
claim_lines (NoneClaim closed) = none_line ∷ (map closed_line (closed_places_from 0 closed) ++ (end_line ∷ []))

-- the lines of a certificate: its table's, then its claim's
unfoldable pub lines : CertificateData → List (List ℕ)
lines c = table_lines c.table ++ claim_lines c.shown

-- the text of the certificate
unfoldable pub text : CertificateData → List ℕ
text c = text_of_lines (lines c)

-- a claim can be written: the plan of a cut isn't empty
abbrev pub IsShowable : Claim → Type 0
IsShowable (Cut cost plan prices) = 0 < length plan.items
IsShowable (NoCut closed) = Unit {0}
