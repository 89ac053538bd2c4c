-- The lines of a certificate are those of no other certificate, and no certificate's lines extend them.
use Rattle.std.proofs.Common.{◌≡◌, refl, sym, ◌∙◌, ap, ap₂, subst, ℕ, ◌+◌, ◌^◌, ◌<◌, ◌≤◌, Bool, true, false, List, [], ◌∷◌, ◌++◌, length, map, All, arith, append_assoc, get_or, drop, codes, Option, Some, None}
use Rattle.std.proofs.lemmas.List.Elements.{All-head, All-tail, All-cons, All-nil}
use Rattle.std.proofs.lemmas.List.{append_cancel_left}
use Rattle.hls_check_tables.specs.declared.cost_rule.CostRule.{CostRule}
use Rattle.hls_check_tables.specs.declared.goal.Goal.{Goal}
use Rattle.hls_check_tables.specs.declared.spot.Spot.{Spot}
use Rattle.hls_check_tables.specs.Tables.{Table, IsTable, IsPlaceOf, goal_of, table_of}
use Rattle.hls_check_tables.specs.Certificates.{CertificateData, ClaimData, CutClaim, NoneClaim, IsForm, IsCertificate}
use Rattle.hls_text.specs.Numbers.{numbers_text, ArePrintable}
use Rattle.hls_check.proofs.Cited.{IsSmall}
use Rattle.hls_check.specs.Text.{cut_line, none_line, end_line, price_line, closed_line, place_line, place_numbers, table_lines, claim_lines, lines, PricedPlace, priced_place, priced_places_from, closed_places_from}
use Rattle.hls_check.specs.Stages.{certificate_with}
use Rattle.hls_check.proofs.Spellings.{words_same, number_same, other_first, numbers_printable, place_same, RisesFrom, ClimbsFrom, priced_rises, members_climb, priced_line_same}
use Rattle.hls_check.proofs.Nexts.{tables_alike, places_passed}

-- lists of printable numbers with the same text are the same, if neither is empty
pub words_all : (ms ns : List ℕ) → ArePrintable ms → ArePrintable ns → 0 < length ms → 0 < length ns →
    numbers_text ms ≡ numbers_text ns → ms ≡ ns
words_all [] ns ms_small ns_small some others e = absurd (omega arith)
words_all (m ∷ ms) [] ms_small ns_small some others e = absurd (omega arith)
words_all (m ∷ ms) (n ∷ ns) ms_small ns_small some others e = words_same m n ms ns ms_small ns_small e

-- a place with spots has numbers
some_numbers : (place : List Spot) → 0 < length place → 0 < length (place_numbers place)
unfolding place_numbers
some_numbers [] some = absurd (omega arith)
some_numbers (s ∷ place) some = omega arith

-- places of the same number of renditions with the same line are the same
place_line_same : (renditions : ℕ) (p q : List Spot) → 1 ≤ renditions → IsPlaceOf renditions p → IsPlaceOf renditions q →
    place_line p ≡ place_line q → p ≡ q
place_line_same renditions p q some p_good q_good e =
    let p_count : length p ≡ renditions = p_good.count in
    let q_count : length q ≡ renditions = q_good.count in
    place_same p q (omega arith)
    (words_all (place_numbers p) (place_numbers q) (numbers_printable p p_good.spots) (numbers_printable q q_good.spots)
    (some_numbers p (omega arith)) (some_numbers q (omega arith)) e)

-- equally long lists of places with the same lines, each followed by more, are the same
places_same : (renditions : ℕ) (ps qs : List (List Spot)) (tail xs : List (List ℕ)) → 1 ≤ renditions →
    length ps ≡ length qs → All (IsPlaceOf renditions) ps → All (IsPlaceOf renditions) qs →
    map place_line ps ++ tail ≡ map place_line qs ++ xs → ps ≡ qs
places_same renditions [] [] tail xs some len p_good q_good e = refl
places_same renditions [] (q ∷ qs) tail xs some len p_good q_good e = absurd (omega arith)
places_same renditions (p ∷ ps) [] tail xs some len p_good q_good e = absurd (omega arith)
places_same renditions (p ∷ ps) (q ∷ qs) tail xs some len p_good q_good e =
    ap₂ (λ (y : List Spot) (ys : List (List Spot)). y ∷ ys)
    (place_line_same renditions p q some (All-head (IsPlaceOf renditions) p ps p_good) (All-head (IsPlaceOf renditions) q qs q_good)
    (ap (λ (ls : List (List ℕ)). get_or ls 0 []) e))
    (places_same renditions ps qs tail xs some (omega arith) (All-tail (IsPlaceOf renditions) p ps p_good)
    (All-tail (IsPlaceOf renditions) q qs q_good) (ap (drop 1) e))

-- goals of equal parts are equal
goal_made : (t p : ℕ) (r : CostRule) (t' p' : ℕ) (r' : CostRule) → t ≡ t' → p ≡ p' → r ≡ r' → goal_of t p r ≡ goal_of t' p' r'
goal_made t p r t' p' r' a b c = rw (a, b, c) refl

-- tables of equal parts are equal
table_made : (g : Goal) (r : ℕ) (ps : List (List Spot)) (g' : Goal) (r' : ℕ) (ps' : List (List Spot)) →
    g ≡ g' → r ≡ r' → ps ≡ ps' → table_of g r ps ≡ table_of g' r' ps'
table_made g r ps g' r' ps' a b c = rw (a, b, c) refl

-- two tables with the same lines, each followed by more, are the same, and so is what follows them
table_same : (t u : Table) (tail xs : List (List ℕ)) → IsTable t → IsTable u →
    table_lines t ++ tail ≡ table_lines u ++ xs → (t ≡ u) × (tail ≡ xs)
table_same t u tail xs t_good u_good e =
    let alike = tables_alike t u tail xs t_good u_good e in
    let t_target : t.goal.target ≤ 3600 = t_good.goal.target.1 in
    let u_target : u.goal.target ≤ 3600 = u_good.goal.target.1 in
    let t_preferred : t.goal.preferred ≤ 3600000000 = t_good.goal.preferred.1 in
    let u_preferred : u.goal.preferred ≤ 3600000000 = u_good.goal.preferred.1 in
    let goals : t.goal ≡ u.goal =
    goal_made t.goal.target t.goal.preferred t.goal.rule u.goal.target u.goal.preferred u.goal.rule
    (number_same (codes "target ") t.goal.target u.goal.target (omega arith) (omega arith) (ap (λ (ls : List (List ℕ)). get_or ls 0 []) alike.behind))
    (number_same (codes "preferred ") t.goal.preferred u.goal.preferred (omega arith) (omega arith) (ap (λ (ls : List (List ℕ)). get_or ls 1 []) alike.behind))
    alike.rule in
    let P : ℕ → Type 0 = λ r. All (IsPlaceOf r) t.places in (
      table_made t.goal t.renditions t.places u.goal u.renditions u.places goals alike.renditions
          (places_same u.renditions t.places u.places tail xs u_good.renditions.0 alike.count (subst P alike.renditions t_good.places) u_good.places alike.places),
      places_passed t.places u.places tail xs alike.count alike.places,
    )

-- priced places of equal parts are equal
priced_made : (a b a' b' : ℕ) → a ≡ a' → b ≡ b' → priced_place a b ≡ priced_place a' b'
priced_made a b a' b' p q = rw (p, q) refl

-- lines before an end line, which isn't one of them, determine their values, and no lines follow
ended_same : {A : Type 0} (line : A → List ℕ) (IsGood : A → Type 0) → ((x : A) → end_line ≡ line x → ⊥) →
    ((x y : A) → IsGood x → IsGood y → line x ≡ line y → x ≡ y) →
    (ps qs : List A) (xs : List (List ℕ)) → All IsGood ps → All IsGood qs →
    map line ps ++ (end_line ∷ []) ≡ (map line qs ++ (end_line ∷ [])) ++ xs → (ps ≡ qs) × (xs ≡ [])
ended_same line IsGood no_end told [] [] xs p_good q_good e = (refl, sym (ap (drop 1) e))
ended_same line IsGood no_end told (p ∷ ps) [] xs p_good q_good e =
    absurd (no_end p (sym (ap (λ (ls : List (List ℕ)). get_or ls 0 []) e)))
ended_same line IsGood no_end told [] (q ∷ qs) xs p_good q_good e =
    absurd (no_end q (ap (λ (ls : List (List ℕ)). get_or ls 0 []) e))
ended_same {A} line IsGood no_end told (p ∷ ps) (q ∷ qs) xs p_good q_good e =
    let same : p ≡ q =
    told p q (All-head IsGood p ps p_good) (All-head IsGood q qs q_good) (ap (λ (ls : List (List ℕ)). get_or ls 0 []) e) in
    let rest : (ps ≡ qs) × (xs ≡ []) =
    ended_same line IsGood no_end told ps qs xs (All-tail IsGood p ps p_good) (All-tail IsGood q qs q_good) (ap (drop 1) e) in
    (ap₂ (λ (y : A) (ys : List A). y ∷ ys) same rest.0, rest.1)

-- the place of a priced place is below `count`, and its price below 2^53
abbrev IsPricedIn : ℕ → PricedPlace → Type 0
IsPricedIn count p = (p.place < count) × (p.price < 2 ^ 53)

-- priced places that increase below `count` are each in range
rises_within : (k count : ℕ) (ps : List PricedPlace) → RisesFrom k count ps → All (IsPricedIn count) ps
rises_within k count [] rises = All-nil (IsPricedIn count)
rises_within k count (p ∷ ps) rises =
    All-cons (IsPricedIn count) p ps (rises.1, rises.2) (rises_within (p.place + 1) count ps rises.3)

-- price lines before the line `end` determine the prices, and no lines follow
price_lines_same : (k count : ℕ) (ps qs : List PricedPlace) (xs : List (List ℕ)) → count ≤ 16384 →
    RisesFrom k count ps → RisesFrom k count qs →
    map price_line ps ++ (end_line ∷ []) ≡ (map price_line qs ++ (end_line ∷ [])) ++ xs → (ps ≡ qs) × (xs ≡ [])
price_lines_same k count ps qs xs few p_rises q_rises e =
    ended_same price_line (IsPricedIn count) (λ p. other_first end_line (price_line p) (λ z. omega (arith, z)))
    (λ p q p_in q_in is.
    let p_place : p.place < count = p_in.0 in
    let q_place : q.place < count = q_in.0 in
    let same : (p.place ≡ q.place) × (p.price ≡ q.price) = priced_line_same p q (omega arith) p_in.1 (omega arith) q_in.1 is in
    priced_made p.place p.price q.place q.price same.0 same.1)
    ps qs xs (rises_within k count ps p_rises) (rises_within k count qs q_rises) e

-- places that increase below `count` are each below `count`
climbs_within : (k count : ℕ) (ps : List ℕ) → ClimbsFrom k count ps → All (λ p. p < count) ps
climbs_within k count [] climbs = All-nil (λ p. p < count)
climbs_within k count (p ∷ ps) climbs = All-cons (λ p. p < count) p ps climbs.1 (climbs_within (p + 1) count ps climbs.2)

-- lines of the closed set before the line `end` determine its places, and no lines follow
closed_lines_same : (k count : ℕ) (ps qs : List ℕ) (xs : List (List ℕ)) → count ≤ 16384 →
    ClimbsFrom k count ps → ClimbsFrom k count qs →
    map closed_line ps ++ (end_line ∷ []) ≡ (map closed_line qs ++ (end_line ∷ [])) ++ xs → (ps ≡ qs) × (xs ≡ [])
closed_lines_same k count ps qs xs few p_climbs q_climbs e =
    ended_same closed_line (λ p. p < count) (λ p. other_first end_line (closed_line p) (λ z. omega (arith, z)))
    (λ p q p_in q_in is. number_same (codes "closed ") p q (omega arith) (omega arith) is)
    ps qs xs (climbs_within k count ps p_climbs) (climbs_within k count qs q_climbs) e

-- the first place that has a price isn't before the place where the list of prices begins
priced_above : (j : ℕ) (prices : List (Option ℕ)) (r : PricedPlace) (rs : List PricedPlace) → priced_places_from j prices ≡ r ∷ rs → j ≤ r.place
unfolding priced_places_from
priced_above j [] r rs e = absurd cc
priced_above j (None ∷ prices) r rs e =
    let above : j + 1 ≤ r.place = priced_above (j + 1) prices r rs e in
    omega arith
priced_above j (Some v ∷ prices) r rs e =
    let first : priced_place j v ≡ r = cc in
    let place : j ≡ r.place = ap (λ (p : PricedPlace). p.place) first in
    omega arith

-- equally long lists of prices with the same priced places are the same
prices_same : (k : ℕ) (ps qs : List (Option ℕ)) → length ps ≡ length qs → priced_places_from k ps ≡ priced_places_from k qs → ps ≡ qs
unfolding priced_places_from
prices_same k [] [] len e = refl
prices_same k [] (q ∷ qs) len e = absurd (omega arith)
prices_same k (p ∷ ps) [] len e = absurd (omega arith)
prices_same k (None ∷ ps) (None ∷ qs) len e =
    ap (λ (ys : List (Option ℕ)). None ∷ ys) (prices_same (k + 1) ps qs (omega arith) e)
prices_same k (None ∷ ps) (Some w ∷ qs) len e =
    let above : k + 1 ≤ k = priced_above (k + 1) ps (priced_place k w) (priced_places_from (k + 1) qs) e in
    absurd (omega arith)
prices_same k (Some v ∷ ps) (None ∷ qs) len e =
    let above : k + 1 ≤ k = priced_above (k + 1) qs (priced_place k v) (priced_places_from (k + 1) ps) (sym e) in
    absurd (omega arith)
prices_same k (Some v ∷ ps) (Some w ∷ qs) len e =
    let first : priced_place k v ≡ priced_place k w = cc in
    let price : v ≡ w = ap (λ (p : PricedPlace). p.price) first in
    let rest : priced_places_from (k + 1) ps ≡ priced_places_from (k + 1) qs = cc in
    ap₂ (λ (y : ℕ) (ys : List (Option ℕ)). Some y ∷ ys) price (prices_same (k + 1) ps qs (omega arith) rest)

-- the first place of a set isn't before the place where the list of its flags begins
members_above : (j : ℕ) (closed : List Bool) (r : ℕ) (rs : List ℕ) → closed_places_from j closed ≡ r ∷ rs → j ≤ r
unfolding closed_places_from
members_above j [] r rs e = absurd cc
members_above j (false ∷ closed) r rs e =
    let above : j + 1 ≤ r = members_above (j + 1) closed r rs e in
    omega arith
members_above j (true ∷ closed) r rs e =
    let first : j ≡ r = cc in
    omega arith

-- equally long lists of flags with the same places are the same
closed_same : (k : ℕ) (ps qs : List Bool) → length ps ≡ length qs → closed_places_from k ps ≡ closed_places_from k qs → ps ≡ qs
unfolding closed_places_from
closed_same k [] [] len e = refl
closed_same k [] (q ∷ qs) len e = absurd (omega arith)
closed_same k (p ∷ ps) [] len e = absurd (omega arith)
closed_same k (false ∷ ps) (false ∷ qs) len e =
    ap (λ (ys : List Bool). false ∷ ys) (closed_same (k + 1) ps qs (omega arith) e)
closed_same k (false ∷ ps) (true ∷ qs) len e =
    let above : k + 1 ≤ k = members_above (k + 1) ps k (closed_places_from (k + 1) qs) e in
    absurd (omega arith)
closed_same k (true ∷ ps) (false ∷ qs) len e =
    let above : k + 1 ≤ k = members_above (k + 1) qs k (closed_places_from (k + 1) ps) (sym e) in
    absurd (omega arith)
closed_same k (true ∷ ps) (true ∷ qs) len e =
    let rest : closed_places_from (k + 1) ps ≡ closed_places_from (k + 1) qs = cc in
    ap (λ (ys : List Bool). true ∷ ys) (closed_same (k + 1) ps qs (omega arith) rest)

-- places below a count of at most 16384 are printable numbers
pub below_small : (count : ℕ) (ps : List ℕ) → count ≤ 16384 → All (λ p. p < count) ps → ArePrintable ps
below_small count [] few below = All-nil IsSmall
below_small count (p ∷ ps) few below =
    let first : p < count = All-head (λ (q : ℕ). q < count) p ps below in
    All-cons IsSmall p ps (omega arith) (below_small count ps few (All-tail (λ (q : ℕ). q < count) p ps below))

-- claims of a cut with equal parts are equal
cut_made : (a : ℕ) (b : List ℕ) (c : List (Option ℕ)) (a' : ℕ) (b' : List ℕ) (c' : List (Option ℕ)) →
    a ≡ a' → b ≡ b' → c ≡ c' → CutClaim a b c ≡ CutClaim a' b' c'
cut_made a b c a' b' c' p q r = rw (p, q, r) refl

-- if the lines of one claim begin with those of another for as many places, the claims are equal, and no lines follow
pub shown_same : (count : ℕ) (s z : ClaimData) (xs : List (List ℕ)) → count ≤ 16384 → IsForm count s → IsForm count z →
    claim_lines s ≡ claim_lines z ++ xs → (s ≡ z) × (xs ≡ [])
unfolding claim_lines
shown_same count (CutClaim a plan prices) (CutClaim b plan' prices') xs few s_good z_good e =
    let p_whole : length prices ≡ count = s_good.one_each in
    let q_whole : length prices' ≡ count = z_good.one_each in
    let priced_same : (priced_places_from 0 prices ≡ priced_places_from 0 prices') × (xs ≡ []) =
    price_lines_same 0 count (priced_places_from 0 prices) (priced_places_from 0 prices') xs few
    (priced_rises 0 count prices (omega arith) s_good.prices_small)
    (priced_rises 0 count prices' (omega arith) z_good.prices_small) (ap (drop 2) e) in
    let plans : plan ≡ plan' =
    words_all plan plan' (below_small count plan few s_good.in_range) (below_small count plan' few z_good.in_range)
    s_good.not_empty z_good.not_empty
    (append_cancel_left (codes "plan ") (numbers_text plan) (numbers_text plan') (ap (λ (ls : List (List ℕ)). get_or ls 1 []) e)) in
    let totals : a ≡ b =
    number_same (codes "cut ") a b s_good.total_small z_good.total_small (ap (λ (ls : List (List ℕ)). get_or ls 0 []) e) in
    (cut_made a plan prices b plan' prices' totals plans (prices_same 0 prices prices' (omega arith) priced_same.0), priced_same.1)
shown_same count (CutClaim a plan prices) (NoneClaim closed) xs few s_good z_good e =
    absurd (other_first none_line (cut_line a) (λ z. omega (arith, z)) (sym (ap (λ (ls : List (List ℕ)). get_or ls 0 []) e)))
shown_same count (NoneClaim closed) (CutClaim b plan' prices') xs few s_good z_good e =
    absurd (other_first none_line (cut_line b) (λ z. omega (arith, z)) (ap (λ (ls : List (List ℕ)). get_or ls 0 []) e))
shown_same count (NoneClaim closed) (NoneClaim closed') xs few s_good z_good e =
    let p_whole : length closed ≡ count = s_good in
    let q_whole : length closed' ≡ count = z_good in
    let same : (closed_places_from 0 closed ≡ closed_places_from 0 closed') × (xs ≡ []) =
    closed_lines_same 0 count (closed_places_from 0 closed) (closed_places_from 0 closed') xs few
    (members_climb 0 count closed (omega arith)) (members_climb 0 count closed' (omega arith)) (ap (drop 1) e) in
    (ap NoneClaim (closed_same 0 closed closed' (omega arith) same.0), same.1)

-- if the lines of one certificate begin with those of another, the certificates are equal, and no lines follow
pub lines_same : (c d : CertificateData) (xs : List (List ℕ)) → IsCertificate c → IsCertificate d → lines c ≡ lines d ++ xs →
    (c ≡ d) × (xs ≡ [])
unfolding lines
lines_same c d xs c_good d_good e =
    let told : (c.table ≡ d.table) × (claim_lines c.shown ≡ claim_lines d.shown ++ xs) =
    table_same c.table d.table (claim_lines c.shown) (claim_lines d.shown ++ xs) c_good.table d_good.table
    (e ∙ append_assoc (table_lines d.table) (claim_lines d.shown) xs) in
    let rest : (c.shown ≡ d.shown) × (xs ≡ []) =
    shown_same (length d.table.places) c.shown d.shown xs d_good.table.count.1
    (subst (λ (t : Table). IsForm (length t.places) c.shown) told.0 c_good.form) d_good.form told.1 in
    (ap₂ certificate_with told.0 rest.0, rest.1)
