-- What was written, line by line.
use Rattle.std.proofs.Common.{◌≡◌, refl, sym, ◌∙◌, ap, ℕ, ◌+◌, ◌<◌, ◌≤◌, arith, List, [], ◌∷◌, ◌++◌, length, map, drop, get_or, codes, Bool, true, false, Option, Some, None, add-one, append_assoc, append-nil}
use Rattle.std.specs.Fmt.{decimal}
use Rattle.std.proofs.Math.Seq.{drop-cons}
use Rattle.std.proofs.lemmas.List.{drop_all, map-append}
use Rattle.hls_check_tables.specs.declared.spot.Spot.{Spot}
use Rattle.hls_check_tables.specs.Tables.{Table}
use Rattle.hls_check_tables.specs.Certificates.{CertificateData, ClaimData, CutClaim, NoneClaim}
use Rattle.hls_text.specs.Lines.{text_of_lines}
use Rattle.hls_text.specs.Numbers.{numbers_text, spaced_numbers, number_line}
use Rattle.hls_check.proofs.Cited.{joined-append}
use Rattle.hls_check.specs.Text.{ruled_header_line, charge_line, rule_lines, target_line, preferred_line, renditions_line, places_line, cut_line, none_line, end_line, head_lines, table_lines, claim_lines, lines, text, fields_after_fragment, place_numbers, place_line, plan_line, closed_line, price_line, priced_place, priced_places_from, closed_places_from}

-- the text of one line is the line and a line feed
pub one_line : (line : List ℕ) → text_of_lines (line ∷ []) ≡ line ++ (10 ∷ [])
unfolding text_of_lines
one_line line = refl

-- a word and then a line feed write one line of that word
pub word_written : (old word a b : List ℕ) → a ≡ old ++ word → b ≡ a ++ (10 ∷ []) → b ≡ old ++ text_of_lines (word ∷ [])
unfolding text_of_lines
word_written old word a b a_is b_is = b_is ∙ ap (λ (xs : List ℕ). xs ++ (10 ∷ [])) a_is ∙ append_assoc old word (10 ∷ [])

-- a word, a number and then a line feed write one line
pub number_line_written : (old word : List ℕ) (n : ℕ) (a b c : List ℕ) → a ≡ old ++ word → b ≡ a ++ decimal n → c ≡ b ++ (10 ∷ []) →
    c ≡ old ++ text_of_lines (number_line word n ∷ [])
unfolding text_of_lines numbers_text spaced_numbers
number_line_written old word n a b c a_is b_is c_is =
    c_is ∙ ap (λ (xs : List ℕ). xs ++ (10 ∷ [])) (b_is ∙ ap (λ (xs : List ℕ). xs ++ decimal n) a_is)
    ∙ simp (append_assoc, append-nil)

-- four texts appended one after another are the four in sequence
four_joined : (old a b c d : List ℕ) → (((old ++ a) ++ b) ++ c) ++ d ≡ old ++ (a ++ (b ++ (c ++ d)))
four_joined old a b c d = simp append_assoc

-- the four numbers after a spot's fragment number, each after a space, are written
pub after_fragment_written : (old : List ℕ) (s : Spot) (b c d e : List ℕ) → b ≡ old ++ (32 ∷ decimal s.prev_end) →
    c ≡ b ++ (32 ∷ decimal s.start) → d ≡ c ++ (32 ∷ decimal s.run_in) → e ≡ d ++ (32 ∷ decimal s.run_out) →
    e ≡ old ++ spaced_numbers (fields_after_fragment s)
unfolding spaced_numbers
after_fragment_written old s b c d e b_is c_is d_is e_is =
    rw (e_is, d_is, c_is, b_is)
    (four_joined old (32 ∷ decimal s.prev_end) (32 ∷ decimal s.start) (32 ∷ decimal s.run_in) (32 ∷ decimal s.run_out)
    ∙ ap (λ (xs : List ℕ). old ++ ((32 ∷ decimal s.prev_end) ++ ((32 ∷ decimal s.start) ++ ((32 ∷ decimal s.run_in) ++ (32 ∷ xs)))))
    (sym (append-nil (decimal s.run_out))))

-- a text appended after a number is the number followed by that text
behind_number : (old number more a e : List ℕ) → a ≡ old ++ number → e ≡ a ++ more → e ≡ old ++ (number ++ more)
behind_number old number more a e a_is e_is = e_is ∙ ap (λ (xs : List ℕ). xs ++ more) a_is ∙ append_assoc old number more

-- a space, a spot's fragment number and its other numbers write a further spot
pub spot_written : (old : List ℕ) (s : Spot) (a e : List ℕ) → a ≡ old ++ (32 ∷ decimal s.fragment) → e ≡ a ++ spaced_numbers (fields_after_fragment s) →
    e ≡ old ++ spaced_numbers (place_numbers (s ∷ []))
unfolding place_numbers spaced_numbers
spot_written old s a e a_is e_is = behind_number old (32 ∷ decimal s.fragment) (spaced_numbers (fields_after_fragment s)) a e a_is e_is

-- a spot's fragment number and its other numbers write the first spot
pub first_spot_written : (old : List ℕ) (s : Spot) (a e : List ℕ) → a ≡ old ++ decimal s.fragment → e ≡ a ++ spaced_numbers (fields_after_fragment s) →
    e ≡ old ++ numbers_text (place_numbers (s ∷ []))
unfolding place_numbers spaced_numbers numbers_text
first_spot_written old s a e a_is e_is = behind_number old (decimal s.fragment) (spaced_numbers (fields_after_fragment s)) a e a_is e_is

-- the word `price`, a place, a space, a price and a line feed write a price line
pub price_written : (old : List ℕ) (place price : ℕ) (a b c d : List ℕ) → a ≡ old ++ codes "price " → b ≡ a ++ decimal place →
    c ≡ b ++ (32 ∷ decimal price) → d ≡ c ++ (10 ∷ []) → d ≡ old ++ text_of_lines (price_line (priced_place place price) ∷ [])
unfolding text_of_lines numbers_text spaced_numbers
price_written old place price a b c d a_is b_is c_is d_is =
    rw (d_is, c_is, b_is, a_is) (simp (append_assoc, append-nil))

-- if element i exists, a list without its first i elements is that element, then the list without its first i + 1
dropped : {X : Type 0} (xs : List X) (i : ℕ) (d : X) → i < length xs → drop i xs ≡ get_or xs i d ∷ drop (i + 1) xs
dropped xs i d small = drop-cons xs i d small ∙ ap (λ (j : ℕ). get_or xs i d ∷ drop j xs) (sym (add-one i))

-- if the text of a list is that of its first element, then that of the others, writing element i leaves the text from i + 1 on
pub each_more : {X : Type 0} (show : ℕ → List X → List ℕ) (d : X) → ((i : ℕ) (x : X) (xs : List X) → show i (x ∷ []) ++ show (i + 1) xs ≡ show i (x ∷ xs)) →
    (xs : List X) (i : ℕ) (out new whole : List ℕ) → i < length xs →
    new ≡ out ++ show i (get_or xs i d ∷ []) → out ++ show i (drop i xs) ≡ whole → new ++ show (i + 1) (drop (i + 1) xs) ≡ whole
each_more show d cons xs i out new whole small new_is left =
    ap (λ (ns : List ℕ). ns ++ show (i + 1) (drop (i + 1) xs)) new_is
    ∙ append_assoc out (show i (get_or xs i d ∷ [])) (show (i + 1) (drop (i + 1) xs))
    ∙ ap (λ (ns : List ℕ). out ++ ns) (cons i (get_or xs i d) (drop (i + 1) xs) ∙ ap (show i) (sym (dropped xs i d small)))
    ∙ left

-- when no elements remain, the whole text is written
pub each_done : {X : Type 0} (show : ℕ → List X → List ℕ) → ((i : ℕ) → show i [] ≡ []) →
    (xs : List X) (i : ℕ) (out whole : List ℕ) → length xs ≤ i → out ++ show i (drop i xs) ≡ whole → out ≡ whole
each_done show none xs i out whole all left =
    sym (append-nil out) ∙ ap (λ (ns : List ℕ). out ++ ns) (sym (none i)) ∙ ap (λ ys. out ++ show i ys) (sym (drop_all i xs all)) ∙ left

-- the lines of a closed set whose flags begin at place i
abbrev pub closed_text : ℕ → List Bool → List ℕ
closed_text i closed = text_of_lines (map closed_line (closed_places_from i closed))

-- the lines of a closed set are those of its first flag, then those of the others
pub closed_cons : (i : ℕ) (b : Bool) (closed : List Bool) → closed_text i (b ∷ []) ++ closed_text (i + 1) closed ≡ closed_text i (b ∷ closed)
unfolding text_of_lines closed_places_from
closed_cons i false closed = refl
closed_cons i true closed = append_assoc (closed_line i) (10 ∷ []) (closed_text (i + 1) closed)

-- an empty list of flags has no lines
pub closed_nil : (i : ℕ) → closed_text i [] ≡ []
unfolding text_of_lines closed_places_from
closed_nil i = refl

-- a place outside the set adds no line
pub not_member : (out : List ℕ) (i : ℕ) (b : Bool) → b ≡ false → out ≡ out ++ closed_text i (b ∷ [])
unfolding text_of_lines closed_places_from
not_member out i b e = rw e (sym (append-nil out))

-- a place of the set adds its line
pub a_member : (out new : List ℕ) (i : ℕ) (b : Bool) → b ≡ true → new ≡ out ++ text_of_lines (closed_line i ∷ []) → new ≡ out ++ closed_text i (b ∷ [])
unfolding text_of_lines closed_places_from
a_member out new i b e is = rw e is

-- the price lines of a list of prices that begins at place i
abbrev pub prices_text : ℕ → List (Option ℕ) → List ℕ
prices_text i prices = text_of_lines (map price_line (priced_places_from i prices))

-- the price lines of a list are those of its first price, then those of the others
pub prices_cons : (i : ℕ) (b : Option ℕ) (prices : List (Option ℕ)) → prices_text i (b ∷ []) ++ prices_text (i + 1) prices ≡ prices_text i (b ∷ prices)
unfolding text_of_lines priced_places_from
prices_cons i None prices = refl
prices_cons i (Some v) prices = append_assoc (price_line (priced_place i v)) (10 ∷ []) (prices_text (i + 1) prices)

-- an empty list of prices has no lines
pub prices_nil : (i : ℕ) → prices_text i [] ≡ []
unfolding text_of_lines priced_places_from
prices_nil i = refl

-- a place without a price adds no line
pub no_price_line : (out : List ℕ) (i : ℕ) (b : Option ℕ) → b ≡ None → out ≡ out ++ prices_text i (b ∷ [])
unfolding text_of_lines priced_places_from
no_price_line out i b e = rw e (sym (append-nil out))

-- a place with a price adds its price line
pub a_price_line : (out new : List ℕ) (i v : ℕ) (b : Option ℕ) → b ≡ Some v → new ≡ out ++ text_of_lines (price_line (priced_place i v) ∷ []) →
    new ≡ out ++ prices_text i (b ∷ [])
unfolding text_of_lines priced_places_from
a_price_line out new i v b e is = rw e is

-- after a space and number i of a plan the numbers from i + 1 on remain to be written
pub plan_more : (plan : List ℕ) (i : ℕ) (out new whole : List ℕ) → i < length plan → new ≡ out ++ (32 ∷ decimal (get_or plan i 0)) →
    out ++ spaced_numbers (drop i plan) ≡ whole → new ++ spaced_numbers (drop (i + 1) plan) ≡ whole
unfolding spaced_numbers
plan_more plan i out new whole small new_is left =
    ap (λ (xs : List ℕ). xs ++ spaced_numbers (drop (i + 1) plan)) new_is
    ∙ append_assoc out (32 ∷ decimal (get_or plan i 0)) (spaced_numbers (drop (i + 1) plan))
    ∙ ap (λ (xs : List ℕ). out ++ xs) (ap spaced_numbers (sym (dropped plan i 0 small)))
    ∙ left

-- the numbers of a spot, then those of the others, are the numbers of all
pub spaced_spot : (s : Spot) (spots : List Spot) →
    spaced_numbers (place_numbers (s ∷ [])) ++ spaced_numbers (place_numbers spots) ≡ spaced_numbers (place_numbers (s ∷ spots))
unfolding spaced_numbers place_numbers
spaced_spot s spots = simp (append_assoc, append-nil)

-- after spot i of a place the spots from i + 1 on remain to be written
pub spots_more : (spots : List Spot) (i : ℕ) (d : Spot) (out new whole : List ℕ) → i < length spots →
    new ≡ out ++ spaced_numbers (place_numbers (get_or spots i d ∷ [])) → out ++ spaced_numbers (place_numbers (drop i spots)) ≡ whole →
    new ++ spaced_numbers (place_numbers (drop (i + 1) spots)) ≡ whole
unfolding spaced_numbers place_numbers
spots_more spots i d out new whole small new_is left =
    each_more (λ (k : ℕ) (zs : List Spot). spaced_numbers (place_numbers zs)) d (λ (k : ℕ). spaced_spot) spots i out new whole small new_is left

-- when no spots remain, the place line is written
pub spots_done : (spots : List Spot) (i : ℕ) (out whole : List ℕ) → length spots ≤ i → out ++ spaced_numbers (place_numbers (drop i spots)) ≡ whole → out ≡ whole
unfolding spaced_numbers place_numbers
spots_done spots i out whole all left =
    each_done (λ (k : ℕ) (zs : List Spot). spaced_numbers (place_numbers zs)) (λ (k : ℕ). refl) spots i out whole all left

-- when no places of the plan remain, its numbers are written
pub plan_done : (plan : List ℕ) (i : ℕ) (out whole : List ℕ) → length plan ≤ i → out ++ spaced_numbers (drop i plan) ≡ whole → out ≡ whole
unfolding spaced_numbers
plan_done plan i out whole all left = each_done (λ (k : ℕ). spaced_numbers) (λ (k : ℕ). refl) plan i out whole all left

-- the word `plan`, the first number, the others with a space before each, and a line feed write a plan line
pub plan_written : (old plan a b c d : List ℕ) → 0 < length plan → a ≡ old ++ codes "plan " → b ≡ a ++ decimal (get_or plan 0 0) →
    c ≡ b ++ spaced_numbers (drop 1 plan) → d ≡ c ++ (10 ∷ []) → d ≡ old ++ text_of_lines (plan_line plan ∷ [])
unfolding text_of_lines numbers_text
plan_written old [] a b c d some a_is b_is c_is d_is = absurd (omega arith)
plan_written old (p ∷ plan) a b c d some a_is b_is c_is d_is =
    rw (d_is, c_is, b_is, a_is)
    (append_assoc ((old ++ codes "plan ") ++ decimal p) (spaced_numbers plan) (10 ∷ [])
    ∙ append_assoc (old ++ codes "plan ") (decimal p) (spaced_numbers plan ++ (10 ∷ []))
    ∙ append_assoc old (codes "plan ") (decimal p ++ (spaced_numbers plan ++ (10 ∷ [])))
    ∙ ap (λ (xs : List ℕ). old ++ (codes "plan " ++ xs)) (sym (append_assoc (decimal p) (spaced_numbers plan) (10 ∷ [])))
    ∙ ap (λ (xs : List ℕ). old ++ xs) (sym (append_assoc (codes "plan ") (decimal p ++ spaced_numbers plan) (10 ∷ []))))

-- five texts in sequence and then one more are six in sequence
five_then : (a b c d e xs : List ℕ) → (a ++ (b ++ (c ++ (d ++ e)))) ++ xs ≡ a ++ (b ++ (c ++ (d ++ (e ++ xs))))
five_then a b c d e xs = simp append_assoc

-- the numbers of a first spot are its five numbers with a space between each two
four_more : (s : Spot) (xs : List ℕ) → numbers_text (place_numbers (s ∷ [])) ++ xs ≡
    decimal s.fragment ++ (32 ∷ (decimal s.prev_end ++ (32 ∷ (decimal s.start ++ (32 ∷ (decimal s.run_in ++ (32 ∷ (decimal s.run_out ++ xs))))))))
unfolding numbers_text spaced_numbers place_numbers
four_more s xs =
    five_then (decimal s.fragment) (32 ∷ decimal s.prev_end) (32 ∷ decimal s.start) (32 ∷ decimal s.run_in) (32 ∷ (decimal s.run_out ++ [])) xs
    ∙ ap (λ (ys : List ℕ). decimal s.fragment ++ (32 ∷ (decimal s.prev_end ++ (32 ∷ (decimal s.start ++ (32 ∷ (decimal s.run_in ++ (32 ∷ (ys ++ xs)))))))))
    (append-nil (decimal s.run_out))

-- the first spot of a place and then the others' numbers are the numbers of the place
pub spots_parts : (old : List ℕ) (s : Spot) (others : List Spot) →
    (old ++ numbers_text (place_numbers (s ∷ []))) ++ spaced_numbers (place_numbers others) ≡ old ++ numbers_text (place_numbers (s ∷ others))
unfolding numbers_text spaced_numbers place_numbers
spots_parts old s others =
    append_assoc old (numbers_text (place_numbers (s ∷ []))) (spaced_numbers (place_numbers others))
    ∙ ap (λ (xs : List ℕ). old ++ xs) (four_more s (spaced_numbers (place_numbers others)))

-- the first spot of a place and then the others write the place's numbers
pub spots_written : (old : List ℕ) (spots : List Spot) (d : Spot) (a b : List ℕ) → 0 < length spots →
    a ≡ old ++ numbers_text (place_numbers (get_or spots 0 d ∷ [])) → b ≡ a ++ spaced_numbers (place_numbers (drop 1 spots)) →
    b ≡ old ++ numbers_text (place_numbers spots)
spots_written old [] d a b some a_is b_is = absurd (omega arith)
spots_written old (s ∷ spots) d a b some a_is b_is =
    b_is ∙ ap (λ (xs : List ℕ). xs ++ spaced_numbers (place_numbers spots)) a_is ∙ spots_parts old s spots

-- a place without spots has no numbers
pub no_spots : (out : List ℕ) (spots : List Spot) → length spots ≡ 0 → out ≡ out ++ numbers_text (place_numbers spots)
unfolding numbers_text place_numbers
no_spots out [] none = sym (append-nil out)
no_spots out (s ∷ spots) none = absurd (omega arith)

-- the text of some lines and then that of others are the text of both lists in sequence
pub lines_more : (old a b : List ℕ) (xs ys : List (List ℕ)) → a ≡ old ++ text_of_lines xs → b ≡ a ++ text_of_lines ys → b ≡ old ++ text_of_lines (xs ++ ys)
lines_more old a b xs ys a_is b_is =
    b_is ∙ ap (λ (zs : List ℕ). zs ++ text_of_lines ys) a_is ∙ append_assoc old (text_of_lines xs) (text_of_lines ys)
    ∙ ap (λ (zs : List ℕ). old ++ zs) (sym (joined-append xs ys))

-- after the line of place i the lines of the places from i + 1 on remain to be written
pub places_more : (places : List (List Spot)) (i : ℕ) (place : List Spot) (out new whole : List ℕ) → i < length places →
    place ≡ get_or places i place → new ≡ out ++ text_of_lines (place_line place ∷ []) → out ++ text_of_lines (map place_line (drop i places)) ≡ whole →
    new ++ text_of_lines (map place_line (drop (i + 1) places)) ≡ whole
unfolding text_of_lines
places_more places i place out new whole small is new_is left =
    let first : drop i places ≡ place ∷ drop (i + 1) places =
    dropped places i place small ∙ ap (λ (p : List Spot). p ∷ drop (i + 1) places) (sym is) in
    ap (λ (xs : List ℕ). xs ++ text_of_lines (map place_line (drop (i + 1) places))) new_is
    ∙ append_assoc out (place_line place ++ (10 ∷ [])) (text_of_lines (map place_line (drop (i + 1) places)))
    ∙ ap (λ (xs : List ℕ). out ++ xs)
    (append_assoc (place_line place) (10 ∷ []) (text_of_lines (map place_line (drop (i + 1) places)))
    ∙ ap (λ (ps : List (List Spot)). text_of_lines (map place_line ps)) (sym first))
    ∙ left

-- when no places remain, their lines are written
pub places_done : (places : List (List Spot)) (i : ℕ) (out whole : List ℕ) → length places ≤ i →
    out ++ text_of_lines (map place_line (drop i places)) ≡ whole → out ≡ whole
unfolding text_of_lines
places_done places i out whole all left =
    sym (append-nil out) ∙ ap (λ (ps : List (List Spot)). out ++ text_of_lines (map place_line ps)) (sym (drop_all i places all)) ∙ left

-- a cut's cost, its plan line, the price lines and the line `end` write the claim of a cut
pub cut_written : (old : List ℕ) (cost : ℕ) (plan : List ℕ) (prices : List (Option ℕ)) (a b c d : List ℕ) →
    a ≡ old ++ text_of_lines (cut_line cost ∷ []) → b ≡ a ++ text_of_lines (plan_line plan ∷ []) → c ≡ b ++ text_of_lines (map price_line (priced_places_from 0 prices)) →
    d ≡ c ++ text_of_lines (end_line ∷ []) → d ≡ old ++ text_of_lines (claim_lines (CutClaim cost plan prices))
unfolding claim_lines
cut_written old cost plan prices a b c d a_is b_is c_is d_is =
    lines_more old c d (cut_line cost ∷ plan_line plan ∷ map price_line (priced_places_from 0 prices)) (end_line ∷ [])
    (lines_more old b c (cut_line cost ∷ plan_line plan ∷ []) (map price_line (priced_places_from 0 prices))
    (lines_more old a b (cut_line cost ∷ []) (plan_line plan ∷ []) a_is b_is) c_is) d_is

-- the line `none`, the lines of the closed set and the line `end` write the claim of no cut
pub none_written : (old : List ℕ) (closed : List Bool) (a b c : List ℕ) → a ≡ old ++ text_of_lines (none_line ∷ []) →
    b ≡ a ++ text_of_lines (map closed_line (closed_places_from 0 closed)) → c ≡ b ++ text_of_lines (end_line ∷ []) → c ≡ old ++ text_of_lines (claim_lines (NoneClaim closed))
unfolding claim_lines
none_written old closed a b c a_is b_is c_is =
    lines_more old b c (none_line ∷ map closed_line (closed_places_from 0 closed)) (end_line ∷ [])
    (lines_more old a b (none_line ∷ []) (map closed_line (closed_places_from 0 closed)) a_is b_is) c_is

-- the first line of version 2 and the line of the charge write rule 2
pub rule_written : (old : List ℕ) (charge : ℕ) (a b : List ℕ) → a ≡ old ++ text_of_lines (ruled_header_line ∷ []) →
    b ≡ a ++ text_of_lines (charge_line charge ∷ []) → b ≡ old ++ text_of_lines (ruled_header_line ∷ charge_line charge ∷ [])
rule_written old charge a b a_is b_is = lines_more old a b (ruled_header_line ∷ []) (charge_line charge ∷ []) a_is b_is

-- the lines of the rule, the target, the preferred length and the two counts write the header
pub head_written : (old : List ℕ) (t : Table) (a b c d e : List ℕ) → a ≡ old ++ text_of_lines (rule_lines t.goal.rule) →
    b ≡ a ++ text_of_lines (target_line t.goal.target ∷ []) → c ≡ b ++ text_of_lines (preferred_line t.goal.preferred ∷ []) →
    d ≡ c ++ text_of_lines (renditions_line t.renditions ∷ []) → e ≡ d ++ text_of_lines (places_line (length t.places) ∷ []) →
    e ≡ old ++ text_of_lines (head_lines t.goal t.renditions (length t.places))
head_written old t a b c d e a_is b_is c_is d_is e_is =
    lines_more old a e (rule_lines t.goal.rule)
    (target_line t.goal.target ∷ preferred_line t.goal.preferred ∷ renditions_line t.renditions ∷ places_line (length t.places) ∷ []) a_is
    (lines_more a d e (target_line t.goal.target ∷ preferred_line t.goal.preferred ∷ renditions_line t.renditions ∷ []) (places_line (length t.places) ∷ [])
    (lines_more a c d (target_line t.goal.target ∷ preferred_line t.goal.preferred ∷ []) (renditions_line t.renditions ∷ [])
    (lines_more a b c (target_line t.goal.target ∷ []) (preferred_line t.goal.preferred ∷ []) b_is c_is) d_is) e_is)

-- the header and the place lines write a table
pub table_written : (old : List ℕ) (t : Table) (e f : List ℕ) → e ≡ old ++ text_of_lines (head_lines t.goal t.renditions (length t.places)) →
    f ≡ e ++ text_of_lines (map place_line t.places) → f ≡ old ++ text_of_lines (table_lines t)
unfolding table_lines
table_written old t e f e_is f_is = lines_more old e f (head_lines t.goal t.renditions (length t.places)) (map place_line t.places) e_is f_is

-- the lines of a certificate's table and then those of its claim are its text
pub text_written : (c : CertificateData) (s : ClaimData) (a b : List ℕ) → c.shown ≡ s → a ≡ text_of_lines (table_lines c.table) → b ≡ a ++ text_of_lines (claim_lines s) → b ≡ text c
unfolding text lines
text_written c s a b is a_is b_is =
    lines_more [] a b (table_lines c.table) (claim_lines s) a_is b_is ∙ ap (λ (z : ClaimData). text_of_lines (table_lines c.table ++ claim_lines z)) (sym is)

-- the text of a certificate is that of its header, then that of the places' lines and the claim's
pub text_parts : (c : CertificateData) → text c ≡ text_of_lines (head_lines c.table.goal c.table.renditions (length c.table.places)) ++ text_of_lines (map place_line c.table.places ++ claim_lines c.shown)
unfolding text lines table_lines
text_parts c =
    let head = head_lines c.table.goal c.table.renditions (length c.table.places) in
    ap text_of_lines (append_assoc head (map place_line c.table.places) (claim_lines c.shown))
    ∙ joined-append head (map place_line c.table.places ++ claim_lines c.shown)

-- writing the lines of some places, with the other places and `behind` still to come, keeps the whole text
pub places_parts : (old new : List ℕ) (front rest : List (List Spot)) (behind : List (List ℕ)) → new ≡ old ++ text_of_lines (map place_line front)
    → new ++ text_of_lines (map place_line rest ++ behind) ≡ old ++ text_of_lines (map place_line (front ++ rest) ++ behind)
places_parts old new front rest behind written =
    ap (λ (t : List ℕ). t ++ text_of_lines (map place_line rest ++ behind)) written
    ∙ append_assoc old (text_of_lines (map place_line front)) (text_of_lines (map place_line rest ++ behind))
    ∙ ap (λ (t : List ℕ). old ++ t) (sym (joined-append (map place_line front) (map place_line rest ++ behind)))
    ∙ ap (λ (ls : List (List ℕ)). old ++ text_of_lines ls) (sym (append_assoc (map place_line front) (map place_line rest) behind))
    ∙ ap (λ (ls : List (List ℕ)). old ++ text_of_lines (ls ++ behind)) (sym (map-append place_line front rest))
