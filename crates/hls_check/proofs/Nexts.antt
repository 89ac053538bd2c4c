-- In each certificate whose text begins with the lines that were read, the next line is one that may come next.
use Rattle.std.proofs.Common.{◌≡◌, refl, sym, ◌∙◌, ap, subst, ℕ, ◌+◌, ◌<◌, ◌≤◌, List, [], ◌∷◌, ◌++◌, length, map, All, append_assoc, arith, inl, inr, get_or, drop, codes, ◌⊎◌}
use Rattle.std.proofs.lemmas.List.Elements.{All-head, All-tail}
use Rattle.hls_check_tables.specs.declared.cost_rule.CostRule.{CostRule}
use Rattle.hls_check_tables.specs.declared.cost_rule.CostRule.TheVariants.{Deviation, Charged}
use Rattle.hls_check_tables.specs.declared.spot.Spot.{Spot}
use Rattle.hls_check_tables.specs.Tables.{Table, IsTable, IsPlaceOf, charge_of}
use Rattle.hls_check.specs.Text.{header_line, ruled_header_line, rule_lines, target_line, preferred_line, renditions_line, places_line, end_line, price_line, closed_line, place_line, head_lines, table_lines, PricedPlace}
use Rattle.hls_check.specs.Stages.{IsPlaceLine, IsPriceLine, IsClosedLine, place_after_priced, place_after_closed}
use Rattle.hls_check.proofs.Spellings.{number_same, other_first, RisesFrom, ClimbsFrom, priced_line_same}

-- there is a next line among these, and it is valid
abbrev pub Next : (List ℕ → Type 0) → List (List ℕ) → Type 0
Next IsGood [] = ⊥
Next IsGood (line ∷ more) = IsGood line

-- if fewer places were read than a certificate with the same lines has, its next line is a place line
pub place_next : (renditions : ℕ) (ps qs : List (List Spot)) (tail xs : List (List ℕ)) → length qs < length ps →
    All (IsPlaceOf renditions) ps → map place_line ps ++ tail ≡ map place_line qs ++ xs → Next (IsPlaceLine renditions) xs
place_next renditions [] qs tail xs h good e = absurd (omega arith)
place_next renditions (p ∷ ps) [] tail xs h good e =
    subst (Next (IsPlaceLine renditions)) e (record { place = p; good = All-head (IsPlaceOf renditions) p ps good; is = refl })
place_next renditions (p ∷ ps) (q ∷ qs) tail xs h good e =
    let tails : map place_line ps ++ tail ≡ map place_line qs ++ xs = ap (drop 1) e in
    place_next renditions ps qs tail xs (omega arith) (All-tail (IsPlaceOf renditions) p ps good) tails

-- if as many places were read as there are, the lines after them agree
pub places_passed : (ps qs : List (List Spot)) (tail xs : List (List ℕ)) → length ps ≡ length qs →
    map place_line ps ++ tail ≡ map place_line qs ++ xs → tail ≡ xs
places_passed [] [] tail xs h e = e
places_passed [] (q ∷ qs) tail xs h e = absurd (omega arith)
places_passed (p ∷ ps) [] tail xs h e = absurd (omega arith)
places_passed (p ∷ ps) (q ∷ qs) tail xs h e = places_passed ps qs tail xs (omega arith) (ap (drop 1) e)

-- the first lines of the two versions differ
pub other_version : header_line ≡ ruled_header_line → ⊥
other_version e =
    let last : get_or header_line 20 0 ≡ get_or ruled_header_line 20 0 = ap (λ (line : List ℕ). get_or line 20 0) e in
    omega (arith, last)

-- lists of lines that begin with the lines of a rule each, and are equal, have the same rule and the same lines after it
pub rules_same : (r s : CostRule) (xs ys : List (List ℕ)) → charge_of r ≤ 3600000000 → charge_of s ≤ 3600000000 →
    rule_lines r ++ xs ≡ rule_lines s ++ ys → (r ≡ s) × (xs ≡ ys)
rules_same Deviation Deviation xs ys r_small s_small e = (refl, ap (drop 1) e)
rules_same Deviation (Charged b) xs ys r_small s_small e =
    absurd (other_version (ap (λ (ls : List (List ℕ)). get_or ls 0 []) e))
rules_same (Charged a) Deviation xs ys r_small s_small e =
    absurd (other_version (sym (ap (λ (ls : List (List ℕ)). get_or ls 0 []) e)))
rules_same (Charged a) (Charged b) xs ys r_small s_small e = (
  ap Charged (number_same (codes "rule 2 ") a b (omega arith) (omega arith) (ap (λ (ls : List (List ℕ)). get_or ls 1 []) e)),
  ap (drop 2) e,
)

-- the lines of a table after its rule, then `tail`
abbrev pub behind_rule : Table → List (List ℕ) → List (List ℕ)
behind_rule t tail =
    target_line t.goal.target ∷ preferred_line t.goal.preferred ∷ renditions_line t.renditions ∷ places_line (length t.places)
    ∷ (map place_line t.places ++ tail)

-- the lines of a table, then `tail`, are the lines of its rule and the lines after the rule
pub rule_first : (t : Table) (tail : List (List ℕ)) → table_lines t ++ tail ≡ rule_lines t.goal.rule ++ behind_rule t tail
unfolding table_lines
rule_first t tail =
    append_assoc (head_lines t.goal t.renditions (length t.places)) (map place_line t.places) tail
    ∙ append_assoc (rule_lines t.goal.rule)
    (target_line t.goal.target ∷ preferred_line t.goal.preferred ∷ renditions_line t.renditions ∷ places_line (length t.places) ∷ [])
    (map place_line t.places ++ tail)

-- if lists of lines are equal and have the lines of the two counts after two others, the counts and the lines after them are equal
pub counts_same : (r n r' n' : ℕ) → r ≤ 16 → n ≤ 16384 → r' ≤ 16 → n' ≤ 16384 →
    (a b a' b' : List ℕ) (xs ys : List (List ℕ)) →
    a ∷ b ∷ renditions_line r ∷ places_line n ∷ xs ≡ a' ∷ b' ∷ renditions_line r' ∷ places_line n' ∷ ys →
    (r ≡ r') × (n ≡ n') × (xs ≡ ys)
counts_same r n r' n' r_small n_small r'_small n'_small a b a' b' xs ys e =
    let renditions : renditions_line r ≡ renditions_line r' = ap (λ (ls : List (List ℕ)). get_or ls 2 []) e in
    let places : places_line n ≡ places_line n' = ap (λ (ls : List (List ℕ)). get_or ls 3 []) e in
    let rest : xs ≡ ys = ap (drop 4) e in (
      number_same (codes "renditions ") r r' (omega arith) (omega arith) renditions,
      number_same (codes "places ") n n' (omega arith) (omega arith) places,
      rest,
    )

-- tables whose texts begin with the same lines have one rule and the same numbers of renditions and places, and the lines after their rules
-- agree
pub record AreAlike (t u : Table) (tail xs : List (List ℕ)) : Type 0 where
  pub rule : t.goal.rule ≡ u.goal.rule
  pub behind : behind_rule t tail ≡ behind_rule u xs
  pub renditions : t.renditions ≡ u.renditions
  pub count : length t.places ≡ length u.places
  pub places : map place_line t.places ++ tail ≡ map place_line u.places ++ xs

-- two tables with the same lines, each followed by more, agree in their rule and their counts
pub tables_alike : (t u : Table) (tail xs : List (List ℕ)) → IsTable t → IsTable u →
    table_lines t ++ tail ≡ table_lines u ++ xs → AreAlike t u tail xs
tables_alike t u tail xs t_good u_good e =
    let told : (t.goal.rule ≡ u.goal.rule) × (behind_rule t tail ≡ behind_rule u xs) =
    rules_same t.goal.rule u.goal.rule (behind_rule t tail) (behind_rule u xs) t_good.goal.charge u_good.goal.charge
    (sym (rule_first t tail) ∙ e ∙ rule_first u xs) in
    let counts : (t.renditions ≡ u.renditions) × (length t.places ≡ length u.places) × (map place_line t.places ++ tail ≡ map place_line u.places ++ xs) =
    counts_same t.renditions (length t.places) u.renditions (length u.places)
    t_good.renditions.1 t_good.count.1 u_good.renditions.1 u_good.count.1
    (target_line t.goal.target) (preferred_line t.goal.preferred) (target_line u.goal.target) (preferred_line u.goal.preferred)
    (map place_line t.places ++ tail) (map place_line u.places ++ xs) told.1 in
    record { rule = told.0; behind = told.1; renditions = counts.0; count = counts.1; places = counts.2 }

-- if the lines of two tables, each followed by more, are equal, the tables have as many places, and what follows them is equal
pub table_passed : (t u : Table) (tail xs : List (List ℕ)) → IsTable t → IsTable u →
    table_lines t ++ tail ≡ table_lines u ++ xs → (length t.places ≡ length u.places) × (tail ≡ xs)
table_passed t u tail xs t_good u_good e =
    let alike = tables_alike t u tail xs t_good u_good e in
    (alike.count, places_passed t.places u.places tail xs alike.count alike.places)

-- if some prices of a certificate were read, its next line is `end` or the price line of a later place
pub price_next : (k count : ℕ) (ps qs : List PricedPlace) (xs : List (List ℕ)) → count ≤ 16384 →
    RisesFrom k count ps → RisesFrom k count qs →
    map price_line ps ++ (end_line ∷ []) ≡ map price_line qs ++ xs →
    Next (λ line. (line ≡ end_line) ⊎ IsPriceLine (place_after_priced k qs) count line) xs
price_next k count [] [] xs few p_rises q_rises e =
    subst (Next (λ line. (line ≡ end_line) ⊎ IsPriceLine k count line)) e (inl refl)
price_next k count (p ∷ ps) [] xs few p_rises q_rises e =
    subst (Next (λ line. (line ≡ end_line) ⊎ IsPriceLine k count line)) e
    (inr (record { priced_place = p; above = p_rises.0; below = p_rises.1; small = p_rises.2; is = refl }))
price_next k count [] (q ∷ qs) xs few p_rises q_rises e =
    absurd (other_first end_line (price_line q) (λ z. omega (arith, z)) (ap (λ (ls : List (List ℕ)). get_or ls 0 []) e))
price_next k count (p ∷ ps) (q ∷ qs) xs few p_rises q_rises e =
    let first : price_line p ≡ price_line q = ap (λ (ls : List (List ℕ)). get_or ls 0 []) e in
    let p_place : p.place < count = p_rises.1 in
    let q_place : q.place < count = q_rises.1 in
    let same : (p.place ≡ q.place) × (p.price ≡ q.price) =
    priced_line_same p q (omega arith) p_rises.2 (omega arith) q_rises.2 first in
    let P : ℕ → Type 0 = λ n. RisesFrom (n + 1) count ps in
    price_next (q.place + 1) count ps qs xs few (subst P same.0 p_rises.3) q_rises.3 (ap (drop 1) e)

-- if some places of a certificate's closed set were read, its next line is `end` or the line of a later place of the set
pub closed_next : (k count : ℕ) (ps qs : List ℕ) (xs : List (List ℕ)) → count ≤ 16384 →
    ClimbsFrom k count ps → ClimbsFrom k count qs →
    map closed_line ps ++ (end_line ∷ []) ≡ map closed_line qs ++ xs →
    Next (λ line. (line ≡ end_line) ⊎ IsClosedLine (place_after_closed k qs) count line) xs
closed_next k count [] [] xs few p_climbs q_climbs e =
    subst (Next (λ line. (line ≡ end_line) ⊎ IsClosedLine k count line)) e (inl refl)
closed_next k count (p ∷ ps) [] xs few p_climbs q_climbs e =
    subst (Next (λ line. (line ≡ end_line) ⊎ IsClosedLine k count line)) e
    (inr (record { place = p; above = p_climbs.0; below = p_climbs.1; is = refl }))
closed_next k count [] (q ∷ qs) xs few p_climbs q_climbs e =
    absurd (other_first end_line (closed_line q) (λ z. omega (arith, z)) (ap (λ (ls : List (List ℕ)). get_or ls 0 []) e))
closed_next k count (p ∷ ps) (q ∷ qs) xs few p_climbs q_climbs e =
    let first : closed_line p ≡ closed_line q = ap (λ (ls : List (List ℕ)). get_or ls 0 []) e in
    let p_place : p < count = p_climbs.1 in
    let q_place : q < count = q_climbs.1 in
    let same : p ≡ q = number_same (codes "closed ") p q (omega arith) (omega arith) first in
    let P : ℕ → Type 0 = λ n. ClimbsFrom (n + 1) count ps in
    closed_next (q + 1) count ps qs xs few (subst P same p_climbs.2) q_climbs.2 (ap (drop 1) e)
