-- For the proofs of this crate; no public clause cites it.
-- The progress of a reader: the lines that it has read, and which lines may come next.
use Rattle.std.specs.Prelude.{◌≡◌, ℕ, ◌+◌, ◌^◌, ◌<◌, ◌≤◌, List, [], ◌∷◌, ◌++◌, length, map, All, Option, Bool, ◌⊎◌, Result, Ok, Err}
use Rattle.hls_check_tables.specs.declared.cost_rule.CostRule.{CostRule}
use Rattle.hls_check_tables.specs.declared.cost_rule.CostRule.TheVariants.{Deviation, Charged}
use Rattle.hls_check_tables.specs.declared.goal.Goal.{Goal}
use Rattle.hls_check_tables.specs.declared.spot.Spot.{Spot}
use Rattle.hls_check_tables.specs.declared.cert_fault.CertFault.{CertFault}
use Rattle.hls_check_tables.specs.Tables.{Table, IsTable, IsPlaceOf, IsGoal, charge_of, table_of, target_limit, preferred_limit, charge_limit, rendition_limit, place_limit}
use Rattle.hls_check_tables.specs.Certificates.{CertificateData, ClaimData, CutClaim, NoneClaim, IsCertificate, IsPriceInRange}
use Rattle.hls_text.specs.Lines.{cut_text}
use Rattle.hls_check.specs.declared.certificate_head.CertificateHead.{CertificateHead}
use Rattle.hls_check.specs.declared.wrong_line.WrongLine.{WrongLine}
use Rattle.hls_check.specs.WrongLines.{IsFirstWrongLine, IsCertificateText, IsReadFault, IsReadResult}
use Rattle.hls_check.specs.Text.{header_line, ruled_header_line, charge_line, rule_lines, target_line, preferred_line, renditions_line, places_line, cut_line, none_line, end_line, plan_line, price_line, closed_line, place_line, head_lines, table_lines, lines, PricedPlace, priced_places_from, closed_places_from}

-- the header lines of this header
abbrev pub lines_of_head : CertificateHead → List (List ℕ)
lines_of_head h = head_lines h.goal h.renditions h.count

-- the certificate of this table and this claim
abbrev pub certificate_with : Table → ClaimData → CertificateData
certificate_with t shown = record { table = t; shown = shown }

-- Which line a reader expects next, with what it has read so far. At the rule it has read the first line of version 2; `AtEnd`
-- follows the last line.
pub data ReadingStage : Type 0 where
  AtHeader : ReadingStage
  AtRule : ReadingStage
  AtTarget : (rule : CostRule) → ReadingStage
  AtPreferred : (rule : CostRule) (target : ℕ) → ReadingStage
  AtRenditions : (goal : Goal) → ReadingStage
  AtCount : (goal : Goal) (renditions : ℕ) → ReadingStage
  AtPlace : (head : CertificateHead) (places : List (List Spot)) → ReadingStage
  AtClaim : (table : Table) → ReadingStage
  AtPlan : (table : Table) (total : ℕ) → ReadingStage
  AtPrice : (table : Table) (total : ℕ) (plan : List ℕ) (prices : List (Option ℕ)) → ReadingStage
  AtClosed : (table : Table) (closed : List Bool) → ReadingStage
  AtEnd : (certificate : CertificateData) → ReadingStage

-- the lines that were read before this stage
abbrev pub lines_before : ReadingStage → List (List ℕ)
lines_before AtHeader = []
lines_before AtRule = ruled_header_line ∷ []
lines_before (AtTarget rule) = rule_lines rule
lines_before (AtPreferred rule target) = rule_lines rule ++ (target_line target ∷ [])
lines_before (AtRenditions goal) = rule_lines goal.rule ++ (target_line goal.target ∷ preferred_line goal.preferred ∷ [])
lines_before (AtCount goal renditions) =
    rule_lines goal.rule ++ (target_line goal.target ∷ preferred_line goal.preferred ∷ renditions_line renditions ∷ [])
lines_before (AtPlace head places) = lines_of_head head ++ map place_line places
lines_before (AtClaim table) = table_lines table
lines_before (AtPlan table total) = table_lines table ++ (cut_line total ∷ [])
lines_before (AtPrice table total plan prices) =
    table_lines table ++ (cut_line total ∷ plan_line plan ∷ map price_line (priced_places_from 0 prices))
lines_before (AtClosed table closed) = table_lines table ++ (none_line ∷ map closed_line (closed_places_from 0 closed))
lines_before (AtEnd certificate) = lines certificate

-- a charge is from 0 to an hour, in microseconds
abbrev pub IsCharge : ℕ → Type 0
IsCharge n = (0 ≤ n) × (n ≤ charge_limit)

-- a rule's charge is at most an hour, in microseconds
abbrev pub IsRule : CostRule → Type 0
IsRule rule = charge_of rule ≤ charge_limit

-- a target is from 1 second to an hour, in seconds
abbrev pub IsTarget : ℕ → Type 0
IsTarget n = (1 ≤ n) × (n ≤ target_limit)

-- a preferred length is from 1 microsecond to an hour, in microseconds
abbrev pub IsPreferred : ℕ → Type 0
IsPreferred n = (1 ≤ n) × (n ≤ preferred_limit)

-- a number of renditions is from 1 to 16
abbrev pub IsRenditionCount : ℕ → Type 0
IsRenditionCount n = (1 ≤ n) × (n ≤ rendition_limit)

-- a number of places is from 2 to 16384
abbrev pub IsPlaceCount : ℕ → Type 0
IsPlaceCount n = (2 ≤ n) × (n ≤ place_limit)

-- what the header lines say is in its ranges
pub record IsHead (h : CertificateHead) : Type 0 where
  pub goal : IsGoal h.goal
  pub renditions : IsRenditionCount h.renditions
  pub count : IsPlaceCount h.count

-- these are places of the table that the header announces, and at least one more is to be read
pub record AreFirstPlaces (h : CertificateHead) (places : List (List Spot)) : Type 0 where
  pub head : IsHead h
  pub room : length places < h.count
  pub each : All (IsPlaceOf h.renditions) places

-- one more than the last place that has a price, or p if none has one
abbrev pub place_after_priced : ℕ → List PricedPlace → ℕ
place_after_priced p [] = p
place_after_priced p (q ∷ rest) = place_after_priced (q.place + 1) rest

-- one more than the last place of a closed set, or p if it has none
abbrev pub place_after_closed : ℕ → List ℕ → ℕ
place_after_closed p [] = p
place_after_closed p (q ∷ rest) = place_after_closed (q + 1) rest

-- a cost is below 2^53, and a plan isn't empty and has only places below `count`
pub record IsPlanForm (count total : ℕ) (plan : List ℕ) : Type 0 where
  pub total_small : total < 2 ^ 53
  pub not_empty : 0 < length plan
  pub in_range : All (λ p. p < count) plan

-- the prices that were read of a table of `count` places; the list ends with the last of them
pub record AreFirstPrices (count : ℕ) (prices : List (Option ℕ)) : Type 0 where
  pub within : length prices ≤ count
  pub ends_after_last : length prices ≡ place_after_priced 0 (priced_places_from 0 prices)
  pub small : All IsPriceInRange prices

-- the flags of the closed set that were read of a table of `count` places; the list ends with its last place
pub record AreFirstClosed (count : ℕ) (closed : List Bool) : Type 0 where
  pub within : length closed ≤ count
  pub ends_after_last : length closed ≡ place_after_closed 0 (closed_places_from 0 closed)

-- what was read up to this stage is in its ranges
abbrev pub IsStage : ReadingStage → Type 0
IsStage AtHeader = Unit {0}
IsStage AtRule = Unit {0}
IsStage (AtTarget rule) = IsRule rule
IsStage (AtPreferred rule target) = IsRule rule × IsTarget target
IsStage (AtRenditions goal) = IsGoal goal
IsStage (AtCount goal renditions) = IsGoal goal × IsRenditionCount renditions
IsStage (AtPlace head places) = AreFirstPlaces head places
IsStage (AtClaim table) = IsTable table
IsStage (AtPlan table total) = IsTable table × (total < 2 ^ 53)
IsStage (AtPrice table total plan prices) =
    IsTable table × IsPlanForm (length table.places) total plan × AreFirstPrices (length table.places) prices
IsStage (AtClosed table closed) = IsTable table × AreFirstClosed (length table.places) closed
IsStage (AtEnd certificate) = IsCertificate certificate

-- a line that spells a number in a range
pub record IsNumberLine (spelling : ℕ → List ℕ) (IsGood : ℕ → Type 0) (line : List ℕ) : Type 0 where
  pub number : ℕ
  pub good : IsGood number
  pub is : line ≡ spelling number

-- a line is the line of some place of this many renditions
pub record IsPlaceLine (renditions : ℕ) (line : List ℕ) : Type 0 where
  pub place : List Spot
  pub good : IsPlaceOf renditions place
  pub is : line ≡ place_line place

-- a line is the plan line of some plan that isn't empty and has only places below `count`
pub record IsPlanLine (count : ℕ) (line : List ℕ) : Type 0 where
  pub plan : List ℕ
  pub not_empty : 0 < length plan
  pub in_range : All (λ p. p < count) plan
  pub is : line ≡ plan_line plan

-- a line is the price line of some place in `low..count`
pub record IsPriceLine (low count : ℕ) (line : List ℕ) : Type 0 where
  pub priced_place : PricedPlace
  pub above : low ≤ priced_place.place
  pub below : priced_place.place < count
  pub small : priced_place.price < 2 ^ 53
  pub is : line ≡ price_line priced_place

-- a line is the line of the closed set for some place in `low..count`
pub record IsClosedLine (low count : ℕ) (line : List ℕ) : Type 0 where
  pub place : ℕ
  pub above : low ≤ place
  pub below : place < count
  pub is : line ≡ closed_line place

-- a line may come next at this stage
abbrev pub IsNext : ReadingStage → List ℕ → Type 0
IsNext AtHeader line = (line ≡ header_line) ⊎ (line ≡ ruled_header_line)
IsNext AtRule line = IsNumberLine charge_line IsCharge line
IsNext (AtTarget rule) line = IsNumberLine target_line IsTarget line
IsNext (AtPreferred rule target) line = IsNumberLine preferred_line IsPreferred line
IsNext (AtRenditions goal) line = IsNumberLine renditions_line IsRenditionCount line
IsNext (AtCount goal renditions) line = IsNumberLine places_line IsPlaceCount line
IsNext (AtPlace head places) line = IsPlaceLine head.renditions line
IsNext (AtClaim table) line = (line ≡ none_line) ⊎ IsNumberLine cut_line (λ n. n < 2 ^ 53) line
IsNext (AtPlan table total) line = IsPlanLine (length table.places) line
IsNext (AtPrice table total plan prices) line =
    (line ≡ end_line) ⊎ IsPriceLine (length prices) (length table.places) line
IsNext (AtClosed table closed) line =
    (line ≡ end_line) ⊎ IsClosedLine (length closed) (length table.places) line
IsNext (AtEnd certificate) line = ⊥

-- a reader of a text is at this stage: it has read `lines_read` lines, and `rest` remains
pub record IsReadUpTo (s : ReadingStage) (bytes rest : List ℕ) (lines_read : ℕ) : Type 0 where
  pub is_stage : IsStage s
  pub lines : (cut_text bytes).lines ≡ lines_before s ++ (cut_text rest).lines
  pub tail : (cut_text bytes).tail ≡ (cut_text rest).tail
  pub count : lines_read ≡ length (lines_before s)

-- line n, which follows the first `lines_read` lines, is missing or not valid
abbrev pub IsWrongLineAfter : (List ℕ → Type 0) → List ℕ → ℕ → ℕ → Type 0
IsWrongLineAfter IsGood rest lines_read n =
    (n ≡ lines_read + 1) × ((line : List ℕ) (after : List (List ℕ)) → (cut_text rest).lines ≡ line ∷ after → IsGood line → ⊥)

-- the same, or an allocation failure, for a reader that allocates
abbrev pub IsWrongLineOrMemory : (List ℕ → Type 0) → List ℕ → ℕ → CertFault → Type 0
IsWrongLineOrMemory IsGood rest lines_read fault = IsReadFault (IsWrongLineAfter IsGood rest lines_read) (Unit {0}) fault

-- the result of reading a text: its certificate, its first wrong line, or an allocation failure
abbrev pub Builds : List ℕ → Result CertificateData CertFault → Type 0
Builds bytes (Ok c) = IsReadResult bytes (Ok c)
Builds bytes (Err fault) = IsReadFault (IsFirstWrongLine bytes) (Unit {0}) fault

-- the result of scanning a text: it is a certificate's, or its first wrong line
abbrev pub Scans : List ℕ → Result (Unit {0}) WrongLine → Type 0
Scans bytes (Ok done) = IsCertificateText bytes
Scans bytes (Err wrong) = IsFirstWrongLine bytes wrong.line

-- a table's places were skipped, and its claim comes next
pub record SkipsPlaces (head : CertificateHead) (bytes rest : List ℕ) (lines_read : ℕ) : Type 0 where
  pub places : List (List Spot)
  pub count : length places ≡ head.count
  pub at : IsReadUpTo (AtClaim (table_of head.goal head.renditions places)) bytes rest lines_read

-- a goal was read, and the number of renditions comes next
abbrev pub HasGoal : List ℕ → Goal → List ℕ → ℕ → Type 0
HasGoal bytes goal rest lines_read = IsReadUpTo (AtRenditions goal) bytes rest lines_read

-- the header lines were read, and the first place comes next
abbrev pub HasHead : List ℕ → CertificateHead → List ℕ → ℕ → Type 0
HasHead bytes head rest lines_read = IsReadUpTo (AtPlace head []) bytes rest lines_read

-- a table's places were read, which begin after `first` lines, and its claim comes next
abbrev pub HasPlaces : CertificateHead → List ℕ → ℕ → List (List Spot) → List ℕ → Type 0
HasPlaces head bytes first places rest =
    IsReadUpTo (AtClaim (table_of head.goal head.renditions places)) bytes rest (first + head.count)

-- the certificate of a table and a cut was read to its end
abbrev pub EndsCut : List ℕ → Table → ℕ → List ℕ → List (Option ℕ) → List ℕ → ℕ → Type 0
EndsCut bytes t total plan prices rest lines_read = IsReadUpTo (AtEnd (certificate_with t (CutClaim total plan prices))) bytes rest lines_read

-- the certificate of a table and a closed set was read to its end
abbrev pub EndsNone : List ℕ → Table → List Bool → List ℕ → ℕ → Type 0
EndsNone bytes t closed rest lines_read = IsReadUpTo (AtEnd (certificate_with t (NoneClaim closed))) bytes rest lines_read

-- reading a text stops with this fault
abbrev pub StopsBuilding : List ℕ → CertFault → Type 0
StopsBuilding bytes fault = Builds bytes (Err fault)

-- scanning a text stops with this first wrong line
abbrev pub StopsScanning : List ℕ → WrongLine → Type 0
StopsScanning bytes wrong = IsFirstWrongLine bytes wrong.line

-- the clause holds for every text whose rule was read and whose rest is this
abbrev pub WhenAtTarget : CostRule → List ℕ → ℕ → (List ℕ → Type 0) → Type 0
WhenAtTarget rule rest lines_read Then = (bytes : List ℕ) → IsReadUpTo (AtTarget rule) bytes rest lines_read → Then bytes

-- the clause holds for every text whose goal was read, which is this one, and whose rest is this
abbrev pub WhenAtRenditions : Goal → List ℕ → ℕ → (List ℕ → Type 0) → Type 0
WhenAtRenditions goal rest lines_read Then = (bytes : List ℕ) → HasGoal bytes goal rest lines_read → Then bytes

-- the clause holds for every text whose header was read, which is this one, and whose rest is this
abbrev pub WhenAtPlace : CertificateHead → List ℕ → ℕ → (List ℕ → Type 0) → Type 0
WhenAtPlace head rest lines_read Then = (bytes : List ℕ) → IsReadUpTo (AtPlace head []) bytes rest lines_read → Then bytes

-- the clause holds for every text whose table was read, which has `count` places, and whose rest is this
abbrev pub WhenAtClaim : ℕ → List ℕ → ℕ → (List ℕ → Type 0) → Type 0
WhenAtClaim count rest lines_read Then = (bytes : List ℕ) (t : Table) → length t.places ≡ count → IsReadUpTo (AtClaim t) bytes rest lines_read → Then bytes

-- the same after the line of a cut's cost as well
abbrev pub WhenAtPlan : ℕ → List ℕ → ℕ → (List ℕ → Type 0) → Type 0
WhenAtPlan count rest lines_read Then =
    (bytes : List ℕ) (t : Table) (total : ℕ) → length t.places ≡ count → IsReadUpTo (AtPlan t total) bytes rest lines_read → Then bytes

-- the same after the plan line as well; the clause also takes the relation that the certificate of this cut was read to its end
abbrev pub WhenAtPrice : ℕ → List ℕ → ℕ → (List ℕ → (List (Option ℕ) → List ℕ → ℕ → Type 0) → Type 0) → Type 0
WhenAtPrice count rest lines_read Then =
    (bytes plan : List ℕ) (t : Table) (total : ℕ) → length t.places ≡ count → IsReadUpTo (AtPrice t total plan []) bytes rest lines_read →
    Then bytes (EndsCut bytes t total plan)

-- the same after the table and the line `none`; the clause also takes the relation that the certificate of no cut was read to its end
abbrev pub WhenAtClosed : ℕ → List ℕ → ℕ → (List ℕ → (List Bool → List ℕ → ℕ → Type 0) → Type 0) → Type 0
WhenAtClosed count rest lines_read Then =
    (bytes : List ℕ) (t : Table) → length t.places ≡ count → IsReadUpTo (AtClosed t []) bytes rest lines_read →
    Then bytes (EndsNone bytes t)
