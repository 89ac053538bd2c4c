-- Lines of a certificate differ by their words, and numbers by their spelling.
use Rattle.std.proofs.Common.{◌≡◌, refl, ap, ap₂, ℕ, ◌+◌, ◌^◌, ◌<◌, ◌≤◌, Bool, true, false, List, [], ◌∷◌, ◌++◌, length, All, arith, get_or, codes, Option, Some, None}
use Rattle.std.proofs.lemmas.List.Elements.{All-head, All-tail, All-cons, All-nil}
use Rattle.std.proofs.lemmas.List.{append_cancel_left}
use Rattle.hls_check_tables.specs.declared.spot.Spot.{Spot}
use Rattle.hls_check_tables.specs.Tables.{IsSpotInRange}
use Rattle.hls_check_tables.specs.Certificates.{IsPriceInRange}
use Rattle.hls_text.specs.Numbers.{spaced_numbers, numbers_text, ArePrintable, StartsWithNumber}
use Rattle.hls_check.proofs.Cited.{same_number, IsSmall, spaced_same, no_digit}
use Rattle.hls_check.specs.Text.{place_numbers, PricedPlace, price_line, priced_places_from, closed_places_from}

-- lists of printable numbers with the same text are the same, if neither is empty
pub words_same : (m n : ℕ) (ms ns : List ℕ) → ArePrintable (m ∷ ms) → ArePrintable (n ∷ ns) →
    numbers_text (m ∷ ms) ≡ numbers_text (n ∷ ns) → m ∷ ms ≡ n ∷ ns
unfolding numbers_text
words_same m n ms ns ms_small ns_small e =
    let here : StartsWithNumber (numbers_text (m ∷ ms)) m (spaced_numbers ms) =
    record { small = All-head IsSmall m ms ms_small; is = refl; ends = no_digit ms } in
    let there : StartsWithNumber (numbers_text (m ∷ ms)) n (spaced_numbers ns) =
    record { small = All-head IsSmall n ns ns_small; is = e; ends = no_digit ns } in
    let same : (m ≡ n) × (spaced_numbers ms ≡ spaced_numbers ns) =
    same_number (numbers_text (m ∷ ms)) m n (spaced_numbers ms) (spaced_numbers ns) here there in
    ap₂ (λ (x : ℕ) (xs : List ℕ). x ∷ xs) same.0
    (spaced_same ms ns (All-tail IsSmall m ms ms_small) (All-tail IsSmall n ns ns_small) same.1)

-- a number below 2^53 is printable
pub one_small : (n : ℕ) → n < 2 ^ 53 → ArePrintable (n ∷ [])
one_small n small = All-cons IsSmall n [] small (All-nil IsSmall)

-- lines of one word and a number below 2^53 are the same only if the numbers are
pub number_same : (word : List ℕ) (m n : ℕ) → m < 2 ^ 53 → n < 2 ^ 53 →
    word ++ numbers_text (m ∷ []) ≡ word ++ numbers_text (n ∷ []) → m ≡ n
number_same word m n m_small n_small e =
    let same : m ∷ [] ≡ n ∷ [] =
    words_same m n [] [] (one_small m m_small) (one_small n n_small)
    (append_cancel_left word (numbers_text (m ∷ [])) (numbers_text (n ∷ [])) e) in
    cc

-- texts with different first characters differ
pub other_first : (xs ys : List ℕ) → (get_or xs 0 0 ≡ get_or ys 0 0 → ⊥) → xs ≡ ys → ⊥
other_first xs ys differ e = differ (ap (λ (zs : List ℕ). get_or zs 0 0) e)

-- the numbers of a place are printable
pub numbers_printable : (place : List Spot) → All IsSpotInRange place → ArePrintable (place_numbers place)
unfolding place_numbers
numbers_printable [] spots = All-nil IsSmall
numbers_printable (s ∷ place) spots =
    let small : IsSpotInRange s = All-head IsSpotInRange s place spots in
    All-cons IsSmall s.fragment (s.prev_end ∷ s.start ∷ s.run_in ∷ s.run_out ∷ place_numbers place) small.fragment_small
    (All-cons IsSmall s.prev_end (s.start ∷ s.run_in ∷ s.run_out ∷ place_numbers place) small.prev_end_small
    (All-cons IsSmall s.start (s.run_in ∷ s.run_out ∷ place_numbers place) small.start_small
    (All-cons IsSmall s.run_in (s.run_out ∷ place_numbers place) small.run_in_small
    (All-cons IsSmall s.run_out (place_numbers place) small.run_out_small
    (numbers_printable place (All-tail IsSpotInRange s place spots))))))

-- the spot of these five numbers
abbrev five : ℕ → ℕ → ℕ → ℕ → ℕ → Spot
five a b c d e = record { fragment = a; prev_end = b; start = c; run_in = d; run_out = e }

-- spots of equal numbers are equal
spots_same : (a b c d e a' b' c' d' e' : ℕ) → a ≡ a' → b ≡ b' → c ≡ c' → d ≡ d' → e ≡ e' →
    five a b c d e ≡ five a' b' c' d' e'
spots_same a b c d e a' b' c' d' e' p q r s t = rw (p, q, r, s, t) refl

-- places with as many spots and the same numbers are the same
pub place_same : (ps qs : List Spot) → length ps ≡ length qs → place_numbers ps ≡ place_numbers qs → ps ≡ qs
unfolding place_numbers
place_same [] [] len e = refl
place_same [] (q ∷ qs) len e = absurd (omega arith)
place_same (p ∷ ps) [] len e = absurd (omega arith)
place_same (p ∷ ps) (q ∷ qs) len e =
    let a : p.fragment ≡ q.fragment = cc in
    let b : p.prev_end ≡ q.prev_end = cc in
    let c : p.start ≡ q.start = cc in
    let d : p.run_in ≡ q.run_in = cc in
    let f : p.run_out ≡ q.run_out = cc in
    let rest : place_numbers ps ≡ place_numbers qs = cc in
    ap₂ (λ (x : Spot) (xs : List Spot). x ∷ xs)
    (spots_same p.fragment p.prev_end p.start p.run_in p.run_out q.fragment q.prev_end q.start q.run_in q.run_out a b c d f)
    (place_same ps qs (omega arith) rest)

-- priced places in range whose numbers increase, are at least k and are below `count`
abbrev pub RisesFrom : ℕ → ℕ → List PricedPlace → Type 0
RisesFrom k count [] = Unit {0}
RisesFrom k count (p ∷ ps) =
    (k ≤ p.place) × (p.place < count) × (p.price < 2 ^ 53) × RisesFrom (p.place + 1) count ps

-- priced places that increase from k on also increase from any earlier number on
rises_later : (j k count : ℕ) (ps : List PricedPlace) → j ≤ k → RisesFrom k count ps → RisesFrom j count ps
rises_later j k count [] h rises = tt
rises_later j k count (p ∷ ps) h rises = (omega arith, rises.1, rises.2, rises.3)

-- the priced places of a list of prices increase from the place where the list begins
pub priced_rises : (k count : ℕ) (prices : List (Option ℕ)) → k + length prices ≤ count → All IsPriceInRange prices →
    RisesFrom k count (priced_places_from k prices)
unfolding priced_places_from
priced_rises k count [] h small = tt
priced_rises k count (None ∷ prices) h small =
    rises_later k (k + 1) count (priced_places_from (k + 1) prices) (omega arith)
    (priced_rises (k + 1) count prices (omega arith) (All-tail IsPriceInRange None prices small))
priced_rises k count (Some v ∷ prices) h small =
    let first : v < 2 ^ 53 = All-head IsPriceInRange (Some v) prices small in (
      omega arith,
      omega arith,
      first,
      priced_rises (k + 1) count prices (omega arith) (All-tail IsPriceInRange (Some v) prices small),
    )

-- places whose numbers increase, are at least k and are below `count`
abbrev pub ClimbsFrom : ℕ → ℕ → List ℕ → Type 0
ClimbsFrom k count [] = Unit {0}
ClimbsFrom k count (p ∷ ps) = (k ≤ p) × (p < count) × ClimbsFrom (p + 1) count ps

-- places that increase from k on also increase from any earlier number on
climbs_later : (j k count : ℕ) (ps : List ℕ) → j ≤ k → ClimbsFrom k count ps → ClimbsFrom j count ps
climbs_later j k count [] h climbs = tt
climbs_later j k count (p ∷ ps) h climbs = (omega arith, climbs.1, climbs.2)

-- the places of a set increase from the place where the list of its flags begins
pub members_climb : (k count : ℕ) (closed : List Bool) → k + length closed ≤ count →
    ClimbsFrom k count (closed_places_from k closed)
unfolding closed_places_from
members_climb k count [] h = tt
members_climb k count (false ∷ closed) h =
    climbs_later k (k + 1) count (closed_places_from (k + 1) closed) (omega arith) (members_climb (k + 1) count closed (omega arith))
members_climb k count (true ∷ closed) h = (omega arith, omega arith, members_climb (k + 1) count closed (omega arith))

-- price lines of numbers below 2^53 are the same only if the places and the prices are
pub priced_line_same : (p q : PricedPlace) → p.place < 2 ^ 53 → p.price < 2 ^ 53 → q.place < 2 ^ 53 → q.price < 2 ^ 53 →
    price_line p ≡ price_line q → (p.place ≡ q.place) × (p.price ≡ q.price)
priced_line_same p q a b c d e =
    let same : p.place ∷ p.price ∷ [] ≡ q.place ∷ q.price ∷ [] =
    words_same p.place q.place (p.price ∷ []) (q.price ∷ [])
    (All-cons IsSmall p.place (p.price ∷ []) a (one_small p.price b))
    (All-cons IsSmall q.place (q.price ∷ []) c (one_small q.price d))
    (append_cancel_left (codes "price ") (numbers_text (p.place ∷ p.price ∷ [])) (numbers_text (q.place ∷ q.price ∷ [])) e) in
    let first : p.place ≡ q.place = cc in
    let second : p.price ≡ q.price = cc in
    (first, second)
