-- Each stage of reading: what follows it in every certificate that begins with the lines read.
use Rattle.std.proofs.Common.{◌≡◌, refl, sym, ◌∙◌, ap, subst, ℕ, ◌^◌, ◌<◌, ◌≤◌, Bool, List, [], ◌∷◌, ◌++◌, length, map, All, arith, append_assoc, append-nil, inl, inr, get_or, drop, Option, ◌⊎◌}
use Rattle.hls_check_tables.specs.declared.cost_rule.CostRule.{CostRule}
use Rattle.hls_check_tables.specs.declared.cost_rule.CostRule.TheVariants.{Deviation, Charged}
use Rattle.hls_check_tables.specs.declared.spot.Spot.{Spot}
use Rattle.hls_check_tables.specs.Tables.{Table, IsTable, IsPlaceOf, charge_of}
use Rattle.hls_check_tables.specs.Certificates.{CertificateData, ClaimData, CutClaim, NoneClaim, IsForm, IsCertificate}
use Rattle.hls_check.specs.Text.{header_line, ruled_header_line, charge_line, rule_lines, target_line, preferred_line, renditions_line, places_line, cut_line, none_line, end_line, plan_line, price_line, closed_line, place_line, table_lines, claim_lines, lines, priced_places_from, closed_places_from}
use Rattle.hls_check.specs.declared.certificate_head.CertificateHead.{CertificateHead}
use Rattle.hls_check.specs.Stages.{ReadingStage, AtHeader, AtRule, AtTarget, AtPreferred, AtRenditions, AtCount, AtPlace, AtClaim, AtPlan, AtPrice, AtClosed, AtEnd, lines_of_head, lines_before, IsStage, IsNext, IsCharge, IsNumberLine, IsPlaceLine, IsPlanLine, IsPriceLine, IsClosedLine, AreFirstPlaces, AreFirstPrices, AreFirstClosed, place_after_priced, place_after_closed}
use Rattle.hls_check.proofs.Spellings.{other_first, priced_rises, members_climb}
use Rattle.hls_check.proofs.Nexts.{Next, other_version, behind_rule, rules_same, rule_first, place_next, counts_same, table_passed, price_next, closed_next}

-- at this stage a further line must follow
abbrev pub IsOpen : ReadingStage → Type 0
IsOpen AtHeader = Unit {0}
IsOpen AtRule = Unit {0}
IsOpen (AtTarget rule) = Unit {0}
IsOpen (AtPreferred rule target) = Unit {0}
IsOpen (AtRenditions goal) = Unit {0}
IsOpen (AtCount goal renditions) = Unit {0}
IsOpen (AtPlace head places) = Unit {0}
IsOpen (AtClaim table) = Unit {0}
IsOpen (AtPlan table total) = Unit {0}
IsOpen (AtPrice table total plan prices) = Unit {0}
IsOpen (AtClosed table closed) = Unit {0}
IsOpen (AtEnd certificate) = ⊥

-- the first line of a certificate is that of version 1 or of version 2
at_header : (rule : CostRule) (more xs : List (List ℕ)) → rule_lines rule ++ more ≡ xs →
    Next (λ line. (line ≡ header_line) ⊎ (line ≡ ruled_header_line)) xs
at_header Deviation more xs e = subst (Next (λ line. (line ≡ header_line) ⊎ (line ≡ ruled_header_line))) e (inl refl)
at_header (Charged charge) more xs e = subst (Next (λ line. (line ≡ header_line) ⊎ (line ≡ ruled_header_line))) e (inr refl)

-- after the first line of version 2 the line of its charge follows
at_rule : (rule : CostRule) (more xs : List (List ℕ)) → charge_of rule ≤ 3600000000 → rule_lines rule ++ more ≡ ruled_header_line ∷ xs →
    Next (IsNumberLine charge_line IsCharge) xs
at_rule Deviation more xs small e = absurd (other_version (ap (λ (ls : List (List ℕ)). get_or ls 0 []) e))
at_rule (Charged charge) more xs small e =
    subst (Next (IsNumberLine charge_line IsCharge)) (ap (drop 1) e) (record { number = charge; good = (omega arith, small); is = refl })

-- if a certificate's lines begin with a rule and some more lines, its lines after the rule begin with those
past_rule : (c : CertificateData) → IsCertificate c → (rule : CostRule) → charge_of rule ≤ 3600000000 → (front xs : List (List ℕ)) →
    lines c ≡ (rule_lines rule ++ front) ++ xs → behind_rule c.table (claim_lines c.shown) ≡ front ++ xs
unfolding lines
past_rule c valid rule small front xs e =
    (rules_same c.table.goal.rule rule (behind_rule c.table (claim_lines c.shown)) (front ++ xs) valid.table.goal.charge small
    (sym (rule_first c.table (claim_lines c.shown)) ∙ e ∙ append_assoc (rule_lines rule) front xs)).1

-- while places remain, a place line follows
at_place : (h : CertificateHead) (places : List (List Spot)) → AreFirstPlaces h places → (c : CertificateData) → IsCertificate c →
    (xs : List (List ℕ)) → lines c ≡ (lines_of_head h ++ map place_line places) ++ xs → Next (IsPlaceLine h.renditions) xs
at_place h places good c valid xs e =
    let four : List (List ℕ) = target_line h.goal.target ∷ preferred_line h.goal.preferred ∷ renditions_line h.renditions ∷ places_line h.count ∷ [] in
    let behind : behind_rule c.table (claim_lines c.shown) ≡ four ++ (map place_line places ++ xs) =
    past_rule c valid h.goal.rule good.head.goal.charge four (map place_line places ++ xs)
    (e ∙ append_assoc (lines_of_head h) (map place_line places) xs) in
    let told : (c.table.renditions ≡ h.renditions) × (length c.table.places ≡ h.count)
    × (map place_line c.table.places ++ claim_lines c.shown ≡ map place_line places ++ xs) =
    counts_same c.table.renditions (length c.table.places) h.renditions h.count
    valid.table.renditions.1 valid.table.count.1 good.head.renditions.1 good.head.count.1
    (target_line c.table.goal.target) (preferred_line c.table.goal.preferred) (target_line h.goal.target) (preferred_line h.goal.preferred)
    (map place_line c.table.places ++ claim_lines c.shown) (map place_line places ++ xs) behind in
    let room : length places < h.count = good.room in
    let P : ℕ → Type 0 = λ r. All (IsPlaceOf r) c.table.places in
    place_next h.renditions c.table.places places (claim_lines c.shown) xs (omega arith) (subst P told.0 valid.table.places) told.2

-- a claim begins with `none` or with a cut's cost
at_claim : (count : ℕ) (shown : ClaimData) → IsForm count shown → (xs : List (List ℕ)) → claim_lines shown ≡ xs →
    Next (λ line. (line ≡ none_line) ⊎ IsNumberLine cut_line (λ n. n < 2 ^ 53) line) xs
unfolding claim_lines
at_claim count (CutClaim total plan prices) form xs e =
    subst (Next (λ line. (line ≡ none_line) ⊎ IsNumberLine cut_line (λ n. n < 2 ^ 53) line)) e
    (inr (record { number = total; good = form.total_small; is = refl }))
at_claim count (NoneClaim closed) form xs e =
    subst (Next (λ line. (line ≡ none_line) ⊎ IsNumberLine cut_line (λ n. n < 2 ^ 53) line)) e (inl refl)

-- after a cut's cost a plan line follows
at_plan : (count : ℕ) (shown : ClaimData) (total : ℕ) → IsForm count shown → (xs : List (List ℕ)) →
    claim_lines shown ≡ cut_line total ∷ xs → Next (IsPlanLine count) xs
unfolding claim_lines
at_plan count (CutClaim cost plan prices) total form xs e =
    subst (Next (IsPlanLine count)) (ap (drop 1) e)
    (record { plan = plan; not_empty = form.not_empty; in_range = form.in_range; is = refl })
at_plan count (NoneClaim closed) total form xs e =
    absurd (other_first none_line (cut_line total) (λ z. omega (arith, z)) (ap (λ (ls : List (List ℕ)). get_or ls 0 []) e))

-- after some prices a later price or `end` follows
at_price : (count : ℕ) (shown : ClaimData) (total : ℕ) (plan : List ℕ) (prices : List (Option ℕ)) → count ≤ 16384 →
    IsForm count shown → AreFirstPrices count prices → (xs : List (List ℕ)) →
    claim_lines shown ≡ cut_line total ∷ plan_line plan ∷ (map price_line (priced_places_from 0 prices) ++ xs) →
    Next (λ line. (line ≡ end_line) ⊎ IsPriceLine (place_after_priced 0 (priced_places_from 0 prices)) count line) xs
unfolding claim_lines
at_price count (CutClaim cost others all) total plan prices few form good xs e =
    let whole : length all ≡ count = form.one_each in
    let within : length prices ≤ count = good.within in
    price_next 0 count (priced_places_from 0 all) (priced_places_from 0 prices) xs few
    (priced_rises 0 count all (omega arith) form.prices_small)
    (priced_rises 0 count prices (omega arith) good.small) (ap (drop 2) e)
at_price count (NoneClaim closed) total plan prices few form good xs e =
    absurd (other_first none_line (cut_line total) (λ z. omega (arith, z)) (ap (λ (ls : List (List ℕ)). get_or ls 0 []) e))

-- after some places of the closed set a later place or `end` follows
at_closed : (count : ℕ) (shown : ClaimData) (closed : List Bool) → count ≤ 16384 → IsForm count shown → AreFirstClosed count closed →
    (xs : List (List ℕ)) → claim_lines shown ≡ none_line ∷ (map closed_line (closed_places_from 0 closed) ++ xs) →
    Next (λ line. (line ≡ end_line) ⊎ IsClosedLine (place_after_closed 0 (closed_places_from 0 closed)) count line) xs
unfolding claim_lines
at_closed count (CutClaim cost plan prices) closed few form good xs e =
    absurd (other_first none_line (cut_line cost) (λ z. omega (arith, z)) (sym (ap (λ (ls : List (List ℕ)). get_or ls 0 []) e)))
at_closed count (NoneClaim all) closed few form good xs e =
    let whole : length all ≡ count = form in
    let within : length closed ≤ count = good.within in
    closed_next 0 count (closed_places_from 0 all) (closed_places_from 0 closed) xs few
    (members_climb 0 count all (omega arith)) (members_climb 0 count closed (omega arith)) (ap (drop 1) e)

-- a certificate whose lines begin with those of a table has as many places, and its claim's lines follow the table's
behind_table : (t : Table) → IsTable t → (c : CertificateData) → IsCertificate c → (front xs : List (List ℕ)) →
    lines c ≡ (table_lines t ++ front) ++ xs →
    (length c.table.places ≡ length t.places) × (claim_lines c.shown ≡ front ++ xs)
unfolding lines
behind_table t good c valid front xs e =
    table_passed c.table t (claim_lines c.shown) (front ++ xs) valid.table good (e ∙ append_assoc (table_lines t) front xs)

-- in every certificate whose lines begin with those that were read, the next line is one that may come next
pub stage_next : (s : ReadingStage) → IsOpen s → IsStage s → (c : CertificateData) → IsCertificate c → (xs : List (List ℕ)) →
    lines c ≡ lines_before s ++ xs → Next (IsNext s) xs
unfolding lines
stage_next AtHeader open_ good c valid xs e =
    at_header c.table.goal.rule (behind_rule c.table (claim_lines c.shown)) xs (sym (rule_first c.table (claim_lines c.shown)) ∙ e)
stage_next AtRule open_ good c valid xs e =
    at_rule c.table.goal.rule (behind_rule c.table (claim_lines c.shown)) xs valid.table.goal.charge
    (sym (rule_first c.table (claim_lines c.shown)) ∙ e)
stage_next (AtTarget rule) open_ good c valid xs e =
    subst (Next (IsNext (AtTarget rule)))
    (past_rule c valid rule good [] xs (e ∙ ap (λ (ls : List (List ℕ)). ls ++ xs) (sym (append-nil (rule_lines rule)))))
    (record { number = c.table.goal.target; good = valid.table.goal.target; is = refl })
stage_next (AtPreferred rule target) open_ good c valid xs e =
    subst (Next (IsNext (AtPreferred rule target))) (ap (drop 1) (past_rule c valid rule good.0 (target_line target ∷ []) xs e))
    (record { number = c.table.goal.preferred; good = valid.table.goal.preferred; is = refl })
stage_next (AtRenditions g) open_ good c valid xs e =
    subst (Next (IsNext (AtRenditions g)))
    (ap (drop 2) (past_rule c valid g.rule good.charge (target_line g.target ∷ preferred_line g.preferred ∷ []) xs e))
    (record { number = c.table.renditions; good = valid.table.renditions; is = refl })
stage_next (AtCount g renditions) open_ good c valid xs e =
    subst (Next (IsNext (AtCount g renditions)))
    (ap (drop 3) (past_rule c valid g.rule good.0.charge
    (target_line g.target ∷ preferred_line g.preferred ∷ renditions_line renditions ∷ []) xs e))
    (record { number = length c.table.places; good = valid.table.count; is = refl })
stage_next (AtPlace head places) open_ good c valid xs e = at_place head places good c valid xs e
stage_next (AtClaim table) open_ good c valid xs e =
    let told : (length c.table.places ≡ length table.places) × (claim_lines c.shown ≡ xs) =
    table_passed c.table table (claim_lines c.shown) xs valid.table good e in
    at_claim (length c.table.places) c.shown valid.form xs told.1
stage_next (AtPlan table total) open_ good c valid xs e =
    let told : (length c.table.places ≡ length table.places) × (claim_lines c.shown ≡ cut_line total ∷ xs) =
    behind_table table good.0 c valid (cut_line total ∷ []) xs e in
    at_plan (length table.places) c.shown total (subst (λ (n : ℕ). IsForm n c.shown) told.0 valid.form) xs told.1
stage_next (AtPrice table total plan prices) open_ good c valid xs e =
    let told : (length c.table.places ≡ length table.places)
    × (claim_lines c.shown ≡ cut_line total ∷ plan_line plan ∷ (map price_line (priced_places_from 0 prices) ++ xs)) =
    behind_table table good.0 c valid (cut_line total ∷ plan_line plan ∷ map price_line (priced_places_from 0 prices)) xs e in
    let found : Next (λ line. (line ≡ end_line) ⊎ IsPriceLine (place_after_priced 0 (priced_places_from 0 prices)) (length table.places) line) xs =
    at_price (length table.places) c.shown total plan prices good.0.count.1
    (subst (λ (n : ℕ). IsForm n c.shown) told.0 valid.form) good.2 xs told.1 in
    subst (λ (n : ℕ). Next (λ line. (line ≡ end_line) ⊎ IsPriceLine n (length table.places) line) xs) (sym good.2.ends_after_last) found
stage_next (AtClosed table closed) open_ good c valid xs e =
    let told : (length c.table.places ≡ length table.places)
    × (claim_lines c.shown ≡ none_line ∷ (map closed_line (closed_places_from 0 closed) ++ xs)) =
    behind_table table good.0 c valid (none_line ∷ map closed_line (closed_places_from 0 closed)) xs e in
    let found : Next (λ line. (line ≡ end_line) ⊎ IsClosedLine (place_after_closed 0 (closed_places_from 0 closed)) (length table.places) line) xs =
    at_closed (length table.places) c.shown closed good.0.count.1
    (subst (λ (n : ℕ). IsForm n c.shown) told.0 valid.form) good.1 xs told.1 in
    subst (λ (n : ℕ). Next (λ line. (line ≡ end_line) ⊎ IsClosedLine n (length table.places) line) xs) (sym good.1.ends_after_last) found
stage_next (AtEnd certificate) open_ good c valid xs e = absurd open_
