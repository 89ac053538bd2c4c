-- Each stage of reading begins some certificate's text: what was read is completed by blank places, by no prices, or by an empty set.
use Rattle.std.proofs.Common.{◌≡◌, refl, sym, ◌∙◌, ap, ap₂, ℕ, zero, suc, ◌+◌, ◌-◌, ◌^◌, ◌<◌, ◌≤◌, Bool, true, false, List, [], ◌∷◌, ◌++◌, length, map, All, arith, append_assoc, drop, replicate, Option, Some, None}
use Rattle.std.proofs.lemmas.List.Elements.{All-cons, All-nil, All-append, All-replicate}
use Rattle.std.proofs.lemmas.List.{length-append, length-replicate, map-append}
use Rattle.hls_check_tables.specs.declared.cost_rule.CostRule.{CostRule}
use Rattle.hls_check_tables.specs.declared.cost_rule.CostRule.TheVariants.{Deviation, Charged}
use Rattle.hls_check_tables.specs.declared.goal.Goal.{Goal}
use Rattle.hls_check_tables.specs.declared.spot.Spot.{Spot}
use Rattle.hls_check_tables.specs.Tables.{Table, IsTable, IsSpotInRange, IsPlaceOf, IsGoal, goal_of, no_spot}
use Rattle.hls_check_tables.specs.Certificates.{CertificateData, CutClaim, NoneClaim, IsCertificate, IsPriceInRange}
use Rattle.hls_check.specs.Text.{rule_lines, target_line, preferred_line, renditions_line, cut_line, none_line, plan_line, price_line, closed_line, place_line, end_line, head_lines, table_lines, claim_lines, lines, PricedPlace, priced_places_from, closed_places_from}
use Rattle.hls_check.specs.WrongLines.{BeginsCertificate}
use Rattle.hls_check.specs.declared.certificate_head.CertificateHead.{CertificateHead}
use Rattle.hls_check.specs.Stages.{ReadingStage, AtHeader, AtRule, AtTarget, AtPreferred, AtRenditions, AtCount, AtPlace, AtClaim, AtPlan, AtPrice, AtClosed, AtEnd, lines_of_head, lines_before, IsStage, IsHead, AreFirstPlaces, IsPlanForm, AreFirstPrices, AreFirstClosed, IsRule, IsTarget, IsRenditionCount}
use Rattle.hls_check.proofs.Nexts.{behind_rule, rule_first}
use Rattle.hls_check.proofs.Stagings.{IsOpen}

-- a place of zeros in each rendition
abbrev blank : ℕ → List Spot
blank renditions = replicate renditions no_spot

-- a blank place is a place of its number of renditions
blank_good : (renditions : ℕ) → IsPlaceOf renditions (blank renditions)
blank_good renditions = record {
  count = length-replicate renditions no_spot;
  spots = All-replicate IsSpotInRange renditions no_spot
      (record {
        fragment_small = omega arith;
        prev_end_small = omega arith;
        start_small = omega arith;
        run_in_small = omega arith;
        run_out_small = omega arith;
      });
}

-- the table of a header and some places, with blank places up to the announced number
abbrev completed : CertificateHead → List (List Spot) → Table
completed h places = record {
  goal = h.goal;
  renditions = h.renditions;
  places = places ++ replicate (h.count - length places) (blank h.renditions);
}

-- the completed places are as many as the header announces
completed_count : (h : CertificateHead) (places : List (List Spot)) → length places ≤ h.count →
    length (places ++ replicate (h.count - length places) (blank h.renditions)) ≡ h.count
completed_count h places room =
    simp (length-append, length-replicate) (omega arith)

-- the completed table is in its ranges
completed_good : (h : CertificateHead) (places : List (List Spot)) → IsHead h → length places ≤ h.count →
    All (IsPlaceOf h.renditions) places → IsTable (completed h places)
completed_good h places good room each =
    let count : length (completed h places).places ≡ h.count = completed_count h places room in
    record {
      goal = good.goal;
      renditions = good.renditions;
      count = (omega (arith, good.count), omega (arith, good.count));
      places = All-append (IsPlaceOf h.renditions) places (replicate (h.count - length places) (blank h.renditions)) each
          (All-replicate (IsPlaceOf h.renditions) (h.count - length places) (blank h.renditions) (blank_good h.renditions));
    }

-- the certificate of a table with the claim that there is no cut, and an empty closed set
abbrev uncut : Table → CertificateData
uncut t = record { table = t; shown = NoneClaim (replicate (length t.places) false) }

-- the certificate of a table without a cut has the form of a certificate
uncut_good : (t : Table) → IsTable t → IsCertificate (uncut t)
uncut_good t good = record { table = good; form = length-replicate (length t.places) false }

-- a header of this goal and two places
abbrev head_of : Goal → ℕ → CertificateHead
head_of goal renditions = record { goal = goal; renditions = renditions; count = 2 }

-- a table of two blank places
abbrev first_table : Goal → ℕ → Table
first_table goal renditions = completed (head_of goal renditions) []

-- the certificate of two blank places without a cut
abbrev first_of : Goal → ℕ → CertificateData
first_of goal renditions = uncut (first_table goal renditions)

-- the certificate of two blank places has the form of one, if its goal and its number of renditions are in range
first_good : (goal : Goal) (renditions : ℕ) → IsGoal goal → IsRenditionCount renditions → IsCertificate (first_of goal renditions)
first_good goal renditions g r =
    uncut_good (first_table goal renditions)
    (completed_good (head_of goal renditions) [] (record { goal = g; renditions = r; count = (omega arith, omega arith) })
    (omega arith) (All-nil (IsPlaceOf renditions)))

-- the lines of the certificate of two blank places after those of its rule
abbrev first_rest : Goal → ℕ → List (List ℕ)
first_rest goal renditions = behind_rule (first_table goal renditions) (claim_lines (first_of goal renditions).shown)

-- the lines of the certificate of two blank places are those of its rule, then the others
first_lines : (goal : Goal) (renditions : ℕ) → lines (first_of goal renditions) ≡ rule_lines goal.rule ++ first_rest goal renditions
unfolding lines
first_lines goal renditions = rule_first (first_table goal renditions) (claim_lines (first_of goal renditions).shown)

-- with a rule in range, a target of 1 s and a preferred length of 1 microsecond are a goal
rule_goal : (rule : CostRule) → IsRule rule → IsGoal (goal_of 1 1 rule)
rule_goal rule good = record { target = (omega arith, omega arith); preferred = (omega arith, omega arith); charge = good }

-- the lines of a rule in range begin some certificate
rule_begins : (rule : CostRule) → IsRule rule → BeginsCertificate (rule_lines rule)
rule_begins rule good = record {
  certificate = first_of (goal_of 1 1 rule) 1;
  is_certificate = first_good (goal_of 1 1 rule) 1 (rule_goal rule good) (omega arith, omega arith);
  more = first_rest (goal_of 1 1 rule) 1;
  is = first_lines (goal_of 1 1 rule) 1;
}

-- the lines of a rule and a target in range begin some certificate
target_begins : (rule : CostRule) (target : ℕ) → IsRule rule → IsTarget target → BeginsCertificate (rule_lines rule ++ (target_line target ∷ []))
target_begins rule target good t =
    let goal : Goal = goal_of target 1 rule in
    record {
      certificate = first_of goal 1;
      is_certificate = first_good goal 1 (record { target = t; preferred = (omega arith, omega arith); charge = good }) (omega arith, omega arith);
      more = drop 1 (first_rest goal 1);
      is = first_lines goal 1 ∙ sym (append_assoc (rule_lines rule) (target_line target ∷ []) (drop 1 (first_rest goal 1)));
    }

-- the lines of a goal in range begin some certificate
goal_begins : (goal : Goal) → IsGoal goal → BeginsCertificate (rule_lines goal.rule ++ (target_line goal.target ∷ preferred_line goal.preferred ∷ []))
goal_begins goal good = record {
  certificate = first_of goal 1;
  is_certificate = first_good goal 1 good (omega arith, omega arith);
  more = drop 2 (first_rest goal 1);
  is = first_lines goal 1
      ∙ sym (append_assoc (rule_lines goal.rule) (target_line goal.target ∷ preferred_line goal.preferred ∷ []) (drop 2 (first_rest goal 1)));
}

-- the lines of a goal and a number of renditions in range begin some certificate
renditions_begin : (goal : Goal) (renditions : ℕ) → IsGoal goal → IsRenditionCount renditions →
    BeginsCertificate (rule_lines goal.rule ++ (target_line goal.target ∷ preferred_line goal.preferred ∷ renditions_line renditions ∷ []))
renditions_begin goal renditions good r = record {
  certificate = first_of goal renditions;
  is_certificate = first_good goal renditions good r;
  more = drop 3 (first_rest goal renditions);
  is = first_lines goal renditions
      ∙ sym (append_assoc (rule_lines goal.rule) (target_line goal.target ∷ preferred_line goal.preferred ∷ renditions_line renditions ∷ [])
      (drop 3 (first_rest goal renditions)));
}

-- a header and some of its places begin some certificate
places_begin : (h : CertificateHead) (places : List (List Spot)) → AreFirstPlaces h places → BeginsCertificate (lines_of_head h ++ map place_line places)
unfolding lines table_lines
places_begin h places good =
    let room : length places < h.count = good.room in
    let count : length (completed h places).places ≡ h.count = completed_count h places (omega arith) in
    let blanks : List (List ℕ) = map place_line (replicate (h.count - length places) (blank h.renditions)) in
    let shown : List (List ℕ) = claim_lines (uncut (completed h places)).shown in
    record {
      certificate = uncut (completed h places);
      is_certificate = uncut_good (completed h places) (completed_good h places good.head (omega arith) good.each);
      more = blanks ++ shown;
      is = append_assoc (head_lines h.goal h.renditions (length (completed h places).places)) (map place_line (completed h places).places) shown
          ∙ ap₂ (λ (n : ℕ) (xs : List (List ℕ)). head_lines h.goal h.renditions n ++ xs) count
          (ap (λ (xs : List (List ℕ)). xs ++ shown)
          (map-append place_line places (replicate (h.count - length places) (blank h.renditions)))
          ∙ append_assoc (map place_line places) blanks shown)
          ∙ sym (append_assoc (lines_of_head h) (map place_line places) (blanks ++ shown));
    }

-- places without a price at the end of a list of prices add no price line
pub unpriced : (k : ℕ) (prices : List (Option ℕ)) (n : ℕ) → priced_places_from k (prices ++ replicate n None) ≡ priced_places_from k prices
unfolding priced_places_from
unpriced k [] zero = refl
unpriced k [] (suc n) = unpriced (k + 1) [] n
unpriced k (None ∷ prices) n = unpriced (k + 1) prices n
unpriced k (Some v ∷ prices) n = ap (λ (ps : List PricedPlace). record { place = k; price = v } ∷ ps) (unpriced (k + 1) prices n)

-- places outside the set at the end of a list of flags add no line
pub left_out : (k : ℕ) (closed : List Bool) (n : ℕ) → closed_places_from k (closed ++ replicate n false) ≡ closed_places_from k closed
unfolding closed_places_from
left_out k [] zero = refl
left_out k [] (suc n) = left_out (k + 1) [] n
left_out k (false ∷ closed) n = left_out (k + 1) closed n
left_out k (true ∷ closed) n = ap (λ (ps : List ℕ). k ∷ ps) (left_out (k + 1) closed n)

-- the certificate of a cut with the prices that were read; the other places have none
abbrev priced_out : Table → ℕ → List ℕ → List (Option ℕ) → CertificateData
priced_out t total plan prices =
    record { table = t; shown = CutClaim total plan (prices ++ replicate (length t.places - length prices) None) }

-- the certificate of a cut with the prices that were read has the form of one, if its plan and its prices are in range
priced_good : (t : Table) (total : ℕ) (plan : List ℕ) (prices : List (Option ℕ)) → IsTable t →
    IsPlanForm (length t.places) total plan → length prices ≤ length t.places → All IsPriceInRange prices →
    IsCertificate (priced_out t total plan prices)
priced_good t total plan prices table planned within small = record {
  table = table;
  form = record {
    total_small = planned.total_small;
    not_empty = planned.not_empty;
    in_range = planned.in_range;
    one_each = simp (length-append, length-replicate) (omega arith);
    prices_small = All-append IsPriceInRange prices (replicate (length t.places - length prices) None) small
        (All-replicate IsPriceInRange (length t.places - length prices) None tt);
  };
}

-- a table, a cut's cost, a plan and some prices begin some certificate
price_begins : (t : Table) (total : ℕ) (plan : List ℕ) (prices : List (Option ℕ)) → IsTable t →
    IsPlanForm (length t.places) total plan → AreFirstPrices (length t.places) prices →
    BeginsCertificate (table_lines t ++ (cut_line total ∷ plan_line plan ∷ map price_line (priced_places_from 0 prices)))
unfolding lines claim_lines
price_begins t total plan prices table planned good = record {
  certificate = priced_out t total plan prices;
  is_certificate = priced_good t total plan prices table planned good.within good.small;
  more = end_line ∷ [];
  is =
      ap (λ (ps : List PricedPlace). table_lines t ++ (cut_line total ∷ plan_line plan ∷ (map price_line ps ++ (end_line ∷ []))))
      (unpriced 0 prices (length t.places - length prices))
      ∙ sym (append_assoc (table_lines t) (cut_line total ∷ plan_line plan ∷ map price_line (priced_places_from 0 prices)) (end_line ∷ []));
}

-- a plan of place 0 alone has the form of a plan
first_place : (t : Table) → IsTable t → (total : ℕ) → total < 2 ^ 53 → IsPlanForm (length t.places) total (0 ∷ [])
first_place t good total small = record {
  total_small = small;
  not_empty = omega arith;
  in_range = All-cons (λ (p : ℕ). p < length t.places) 0 [] (omega (arith, good.count)) (All-nil (λ (p : ℕ). p < length t.places));
}

-- a table and a cut's cost begin some certificate
cost_begins : (t : Table) (total : ℕ) → IsTable t → total < 2 ^ 53 → BeginsCertificate (table_lines t ++ (cut_line total ∷ []))
unfolding lines claim_lines
cost_begins t total good small = record {
  certificate = priced_out t total (0 ∷ []) [];
  is_certificate = priced_good t total (0 ∷ []) [] good (first_place t good total small) (omega arith) (All-nil IsPriceInRange);
  more = drop 1 (claim_lines (priced_out t total (0 ∷ []) []).shown);
  is = sym (append_assoc (table_lines t) (cut_line total ∷ []) (drop 1 (claim_lines (priced_out t total (0 ∷ []) []).shown)));
}

-- a table, the line `none` and some places of a closed set begin some certificate
closed_begins : (t : Table) (closed : List Bool) → IsTable t → AreFirstClosed (length t.places) closed →
    BeginsCertificate (table_lines t ++ (none_line ∷ map closed_line (closed_places_from 0 closed)))
unfolding lines claim_lines
closed_begins t closed table good =
    let within : length closed ≤ length t.places = good.within in
    record {
      certificate = record { table = t; shown = NoneClaim (closed ++ replicate (length t.places - length closed) false) };
      is_certificate = record { table = table; form = simp (length-append, length-replicate) (omega arith) };
      more = end_line ∷ [];
      is =
          ap (λ (ps : List ℕ). table_lines t ++ (none_line ∷ (map closed_line ps ++ (end_line ∷ []))))
          (left_out 0 closed (length t.places - length closed))
          ∙ sym (append_assoc (table_lines t) (none_line ∷ map closed_line (closed_places_from 0 closed)) (end_line ∷ []));
    }

-- the lines that were read before any stage begin some certificate
pub stage_begins : (s : ReadingStage) → IsOpen s → IsStage s → BeginsCertificate (lines_before s)
unfolding lines table_lines
stage_begins AtHeader open_ good = record {
  certificate = first_of (goal_of 1 1 Deviation) 1;
  is_certificate = first_good (goal_of 1 1 Deviation) 1 (rule_goal Deviation (omega arith)) (omega arith, omega arith);
  more = lines (first_of (goal_of 1 1 Deviation) 1);
  is = refl;
}
stage_begins AtRule open_ good = record {
  certificate = first_of (goal_of 1 1 (Charged 0)) 1;
  is_certificate = first_good (goal_of 1 1 (Charged 0)) 1 (rule_goal (Charged 0) (omega arith)) (omega arith, omega arith);
  more = drop 1 (lines (first_of (goal_of 1 1 (Charged 0)) 1));
  is = refl;
}
stage_begins (AtTarget rule) open_ good = rule_begins rule good
stage_begins (AtPreferred rule target) open_ good = target_begins rule target good.0 good.1
stage_begins (AtRenditions goal) open_ good = goal_begins goal good
stage_begins (AtCount goal renditions) open_ good = renditions_begin goal renditions good.0 good.1
stage_begins (AtPlace head places) open_ good = places_begin head places good
stage_begins (AtClaim table) open_ good = record {
  certificate = uncut table;
  is_certificate = uncut_good table good;
  more = claim_lines (uncut table).shown;
  is = refl;
}
stage_begins (AtPlan table total) open_ good = cost_begins table total good.0 good.1
stage_begins (AtPrice table total plan prices) open_ good = price_begins table total plan prices good.0 good.1 good.2
stage_begins (AtClosed table closed) open_ good = closed_begins table closed good.0 good.1
stage_begins (AtEnd certificate) open_ good = absurd open_
