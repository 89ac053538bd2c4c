-- A place line, spot by spot: what is read, and when it isn't there.
use Rattle.std.proofs.Common.{◌≡◌, refl, sym, ◌∙◌, ap, subst, ℕ, ◌+◌, ◌-◌, ◌^◌, ◌<◌, ◌≤◌, false, List, [], ◌∷◌, ◌++◌, length, drop, All, arith, append_assoc}
use Rattle.std.specs.Fmt.{decimal}
use Rattle.std.proofs.lemmas.List.{length-append}
use Rattle.std.proofs.lemmas.List.Elements.{All-head, All-tail, All-cons, All-nil, All-append}
use Rattle.hls_check_tables.specs.declared.spot.Spot.{Spot}
use Rattle.hls_check_tables.specs.Tables.{IsSpotInRange, IsPlaceOf}
use Rattle.hls_text.specs.Lines.{cut_text, text_of_lines, IsFirstLine}
use Rattle.hls_text.specs.Numbers.{numbers_text, spaced_numbers, begins_with_digit, StartsWithNumber, StartsWithNoNumber, StartsWithSpacedNumber}
use Rattle.hls_check.proofs.Cited.{same_number, clean_words, joined_lines, no_end, no_digit_behind, front_spaced, same_spaced}
use Rattle.hls_check.specs.Text.{place_numbers, place_line}
use Rattle.hls_check.specs.Stages.{IsWrongLineAfter, IsPlaceLine}
use Rattle.hls_check.specs.SpotTexts.{IsFirstSpot, IsNextSpot}
use Rattle.hls_check.proofs.Spellings.{numbers_printable}
use Rattle.hls_check.proofs.Written.{spaced_spot, spots_parts}

-- the spot of these numbers: fragment, end before the cut, start after it, and the gap counts at both
abbrev pub spot : ℕ → ℕ → ℕ → ℕ → ℕ → Spot
spot a b c d e = record { fragment = a; prev_end = b; start = c; run_in = d; run_out = e }

-- the numbers of a spot from `prev_end` on
abbrev from_prev_end : Spot → List ℕ
from_prev_end s = s.prev_end ∷ s.start ∷ s.run_in ∷ s.run_out ∷ []

-- the numbers of a spot from `start` on
abbrev from_start : Spot → List ℕ
from_start s = s.start ∷ s.run_in ∷ s.run_out ∷ []

-- the gap counts of a spot
abbrev from_run_in : Spot → List ℕ
from_run_in s = s.run_in ∷ s.run_out ∷ []

-- the last number of a spot
abbrev from_run_out : Spot → List ℕ
from_run_out s = s.run_out ∷ []

-- a text of a space and a number, then further spaced numbers, is all of these numbers with their spaces
spaced_onto : (text : List ℕ) (n : ℕ) (ns after rest : List ℕ) → StartsWithSpacedNumber text n after → after ≡ spaced_numbers ns ++ rest →
    text ≡ spaced_numbers (n ∷ ns) ++ rest
unfolding spaced_numbers
spaced_onto text n ns after rest at is =
    at.is ∙ ap (λ (xs : List ℕ). 32 ∷ (decimal n ++ xs)) is ∙ ap (λ (xs : List ℕ). 32 ∷ xs) (sym (append_assoc (decimal n) (spaced_numbers ns) rest))

-- a number and then four more, each after a space, are the first spot of a text
pub spot_read : (text : List ℕ) (a b c d e : ℕ) (after_a after_b after_c after_d rest : List ℕ) → StartsWithNumber text a after_a →
    StartsWithSpacedNumber after_a b after_b → StartsWithSpacedNumber after_b c after_c → StartsWithSpacedNumber after_c d after_d → StartsWithSpacedNumber after_d e rest →
    IsFirstSpot text (spot a b c d e) rest
unfolding numbers_text spaced_numbers place_numbers
spot_read text a b c d e after_a after_b after_c after_d rest at_a at_b at_c at_d at_e =
    let four : after_a ≡ spaced_numbers (b ∷ c ∷ d ∷ e ∷ []) ++ rest =
    spaced_onto after_a b (c ∷ d ∷ e ∷ []) after_b rest at_b
    (spaced_onto after_b c (d ∷ e ∷ []) after_c rest at_c
    (spaced_onto after_c d (e ∷ []) after_d rest at_d (spaced_onto after_d e [] rest rest at_e refl))) in
    record {
      small = record {
        fragment_small = at_a.small;
        prev_end_small = at_b.small;
        start_small = at_c.small;
        run_in_small = at_d.small;
        run_out_small = at_e.small;
      };
      is = at_a.is ∙ ap (λ (xs : List ℕ). decimal a ++ xs) four ∙ sym (append_assoc (decimal a) (spaced_numbers (b ∷ c ∷ d ∷ e ∷ [])) rest);
      ends = at_e.ends;
    }

-- if a text begins with spaced numbers, then after reading one number it begins with the remaining ones
next_told : (text : List ℕ) (m n : ℕ) (after ns rest : List ℕ) → StartsWithSpacedNumber text m after → text ≡ spaced_numbers (n ∷ ns) ++ rest →
    n < 2 ^ 53 → begins_with_digit rest ≡ false → after ≡ spaced_numbers ns ++ rest
next_told text m n after ns rest at is small ends =
    let there : StartsWithSpacedNumber text n (spaced_numbers ns ++ rest) =
    subst (λ (xs : List ℕ). StartsWithSpacedNumber xs n (spaced_numbers ns ++ rest)) (sym is) (front_spaced n ns rest small ends) in
    (same_spaced text m n after (spaced_numbers ns ++ rest) at there).1

-- a text that begins with no spaced number doesn't begin with a list of spaced numbers
not_spaced : (text : List ℕ) (n : ℕ) (ns rest : List ℕ) → ((m : ℕ) (after : List ℕ) → StartsWithSpacedNumber text m after → ⊥) →
    text ≡ spaced_numbers (n ∷ ns) ++ rest → n < 2 ^ 53 → begins_with_digit rest ≡ false → ⊥
not_spaced text n ns rest none is small ends =
    none n (spaced_numbers ns ++ rest) (subst (λ (xs : List ℕ). StartsWithSpacedNumber xs n (spaced_numbers ns ++ rest)) (sym is) (front_spaced n ns rest small ends))

-- a text with a first spot begins with its fragment number, and its other numbers follow
first_number : (text : List ℕ) (s : Spot) (rest : List ℕ) → IsFirstSpot text s rest → StartsWithNumber text s.fragment (spaced_numbers (from_prev_end s) ++ rest)
unfolding numbers_text place_numbers
first_number text s rest at = record {
  small = at.small.fragment_small;
  is = at.is ∙ append_assoc (decimal s.fragment) (spaced_numbers (from_prev_end s)) rest;
  ends = no_digit_behind (from_prev_end s) rest at.ends;
}

-- after the fragment number of a first spot its other numbers follow
past_fragment : (text : List ℕ) (s : Spot) (rest : List ℕ) (a : ℕ) (after_a : List ℕ) → IsFirstSpot text s rest → StartsWithNumber text a after_a →
    after_a ≡ spaced_numbers (from_prev_end s) ++ rest
past_fragment text s rest a after_a at at_a =
    (same_number text a s.fragment after_a (spaced_numbers (from_prev_end s) ++ rest) at_a (first_number text s rest at)).1

-- after the fragment number and `prev_end` of a first spot its other three numbers follow
past_prev_end : (text : List ℕ) (s : Spot) (rest : List ℕ) (a b : ℕ) (after_a after_b : List ℕ) → IsFirstSpot text s rest →
    StartsWithNumber text a after_a → StartsWithSpacedNumber after_a b after_b → after_b ≡ spaced_numbers (from_start s) ++ rest
past_prev_end text s rest a b after_a after_b at at_a at_b =
    next_told after_a b s.prev_end after_b (from_start s) rest at_b (past_fragment text s rest a after_a at at_a)
    at.small.prev_end_small at.ends

-- after the fragment number, `prev_end` and `start` of a first spot its gap counts follow
past_start : (text : List ℕ) (s : Spot) (rest : List ℕ) (a b c : ℕ) (after_a after_b after_c : List ℕ) → IsFirstSpot text s rest →
    StartsWithNumber text a after_a → StartsWithSpacedNumber after_a b after_b → StartsWithSpacedNumber after_b c after_c → after_c ≡ spaced_numbers (from_run_in s) ++ rest
past_start text s rest a b c after_a after_b after_c at at_a at_b at_c =
    next_told after_b c s.start after_c (from_run_in s) rest at_c (past_prev_end text s rest a b after_a after_b at at_a at_b)
    at.small.start_small at.ends

-- after `run_in` of a first spot its `run_out` follows
past_run_in : (text : List ℕ) (s : Spot) (rest : List ℕ) (a b c d : ℕ) (after_a after_b after_c after_d : List ℕ) → IsFirstSpot text s rest →
    StartsWithNumber text a after_a → StartsWithSpacedNumber after_a b after_b → StartsWithSpacedNumber after_b c after_c → StartsWithSpacedNumber after_c d after_d →
    after_d ≡ spaced_numbers (from_run_out s) ++ rest
past_run_in text s rest a b c d after_a after_b after_c after_d at at_a at_b at_c at_d =
    next_told after_c d s.run_in after_d (from_run_out s) rest at_d (past_start text s rest a b c after_a after_b after_c at at_a at_b at_c)
    at.small.run_in_small at.ends

-- a text that begins with no number has no first spot
pub no_fragment : (text : List ℕ) → StartsWithNoNumber text → (s : Spot) (rest : List ℕ) → IsFirstSpot text s rest → ⊥
no_fragment text none s rest at = none s.fragment (spaced_numbers (from_prev_end s) ++ rest) (first_number text s rest at)

-- a text has no first spot if no spaced number follows its fragment number
pub no_prev_end : (text : List ℕ) (a : ℕ) (after_a : List ℕ) → StartsWithNumber text a after_a →
    ((n : ℕ) (after : List ℕ) → StartsWithSpacedNumber after_a n after → ⊥) → (s : Spot) (rest : List ℕ) → IsFirstSpot text s rest → ⊥
no_prev_end text a after_a at_a none s rest at =
    not_spaced after_a s.prev_end (from_start s) rest none (past_fragment text s rest a after_a at at_a) at.small.prev_end_small at.ends

-- a text has no first spot if no spaced number follows its `prev_end`
pub no_start : (text : List ℕ) (a b : ℕ) (after_a after_b : List ℕ) → StartsWithNumber text a after_a → StartsWithSpacedNumber after_a b after_b →
    ((n : ℕ) (after : List ℕ) → StartsWithSpacedNumber after_b n after → ⊥) → (s : Spot) (rest : List ℕ) → IsFirstSpot text s rest → ⊥
no_start text a b after_a after_b at_a at_b none s rest at =
    not_spaced after_b s.start (from_run_in s) rest none (past_prev_end text s rest a b after_a after_b at at_a at_b)
    at.small.start_small at.ends

-- a text has no first spot if no spaced number follows its `start`
pub no_run_in : (text : List ℕ) (a b c : ℕ) (after_a after_b after_c : List ℕ) → StartsWithNumber text a after_a → StartsWithSpacedNumber after_a b after_b →
    StartsWithSpacedNumber after_b c after_c → ((n : ℕ) (after : List ℕ) → StartsWithSpacedNumber after_c n after → ⊥) →
    (s : Spot) (rest : List ℕ) → IsFirstSpot text s rest → ⊥
no_run_in text a b c after_a after_b after_c at_a at_b at_c none s rest at =
    not_spaced after_c s.run_in (from_run_out s) rest none (past_start text s rest a b c after_a after_b after_c at at_a at_b at_c)
    at.small.run_in_small at.ends

-- a text has no first spot if no spaced number follows its `run_in`
pub no_run_out : (text : List ℕ) (a b c d : ℕ) (after_a after_b after_c after_d : List ℕ) → StartsWithNumber text a after_a → StartsWithSpacedNumber after_a b after_b →
    StartsWithSpacedNumber after_b c after_c → StartsWithSpacedNumber after_c d after_d → ((n : ℕ) (after : List ℕ) → StartsWithSpacedNumber after_d n after → ⊥) →
    (s : Spot) (rest : List ℕ) → IsFirstSpot text s rest → ⊥
no_run_out text a b c d after_a after_b after_c after_d at_a at_b at_c at_d none s rest at =
    not_spaced after_d s.run_out [] rest none (past_run_in text s rest a b c d after_a after_b after_c after_d at at_a at_b at_c at_d)
    at.small.run_out_small at.ends

-- a space and then a first spot are a further spot of a place line
pub next_spot : (text numbers : List ℕ) (s : Spot) (rest : List ℕ) → text ≡ 32 ∷ numbers → IsFirstSpot numbers s rest → IsNextSpot text s rest
unfolding numbers_text spaced_numbers place_numbers
next_spot text numbers s rest is at =
    record { small = at.small; is = is ∙ ap (λ (xs : List ℕ). 32 ∷ xs) at.is; ends = at.ends }

-- after its space a further spot is the first spot of the text
pub behind_space : (text numbers : List ℕ) (s : Spot) (rest : List ℕ) → text ≡ 32 ∷ numbers → IsNextSpot text s rest → IsFirstSpot numbers s rest
unfolding numbers_text spaced_numbers place_numbers
behind_space text numbers s rest is at =
    record { small = at.small; is = ap (drop 1) (sym is ∙ at.is); ends = at.ends }

-- a text that doesn't begin with a space has no further spot
pub without_space : (text : List ℕ) → ((rest : List ℕ) → text ≡ 32 ∷ rest → ⊥) → (s : Spot) (rest : List ℕ) → IsNextSpot text s rest → ⊥
unfolding numbers_text spaced_numbers place_numbers
without_space text none s rest at = none (numbers_text (place_numbers (s ∷ [])) ++ rest) at.is

-- two first spots of one text leave the same rest
same_first_rest : (text : List ℕ) (s t : Spot) (xs ys : List ℕ) → IsFirstSpot text s xs → IsFirstSpot text t ys → xs ≡ ys
unfolding spaced_numbers
same_first_rest text s t xs ys here there =
    let a : spaced_numbers (from_prev_end s) ++ xs ≡ spaced_numbers (from_prev_end t) ++ ys =
    past_fragment text t ys s.fragment (spaced_numbers (from_prev_end s) ++ xs) there (first_number text s xs here) in
    let b : spaced_numbers (from_start s) ++ xs ≡ spaced_numbers (from_start t) ++ ys =
    next_told (spaced_numbers (from_prev_end s) ++ xs) s.prev_end t.prev_end (spaced_numbers (from_start s) ++ xs) (from_start t) ys
    (front_spaced s.prev_end (from_start s) xs here.small.prev_end_small here.ends) a there.small.prev_end_small there.ends in
    let c : spaced_numbers (from_run_in s) ++ xs ≡ spaced_numbers (from_run_in t) ++ ys =
    next_told (spaced_numbers (from_start s) ++ xs) s.start t.start (spaced_numbers (from_run_in s) ++ xs) (from_run_in t) ys
    (front_spaced s.start (from_run_in s) xs here.small.start_small here.ends) b there.small.start_small there.ends in
    let d : spaced_numbers (from_run_out s) ++ xs ≡ spaced_numbers (from_run_out t) ++ ys =
    next_told (spaced_numbers (from_run_in s) ++ xs) s.run_in t.run_in (spaced_numbers (from_run_out s) ++ xs) (from_run_out t) ys
    (front_spaced s.run_in (from_run_out s) xs here.small.run_in_small here.ends) c there.small.run_in_small there.ends in
    next_told (spaced_numbers (from_run_out s) ++ xs) s.run_out t.run_out xs [] ys
    (front_spaced s.run_out [] xs here.small.run_out_small here.ends) d there.small.run_out_small there.ends

-- `count` spots of a place remain to be read in `rest`, and `after` follows the place's line
pub record IsLeft (count : ℕ) (rest after : List ℕ) : Type 0 where
  pub others : List Spot
  pub number : length others ≡ count
  pub small : All IsSpotInRange others
  pub is : rest ≡ spaced_numbers (place_numbers others) ++ (10 ∷ after)

-- r spots of a place line were read, and `rest` remains of the text
pub record SpotsRead (renditions : ℕ) (text : List ℕ) (spots : List Spot) (rest : List ℕ) (r : ℕ) : Type 0 where
  pub count : length spots ≡ r
  pub small : All IsSpotInRange spots
  pub some : 1 ≤ r
  pub is : text ≡ place_line spots ++ rest
  pub ends : begins_with_digit rest ≡ false
  pub left : (place : List Spot) (after : List ℕ) → IsPlaceOf renditions place → text ≡ place_line place ++ (10 ∷ after) →
      (count : ℕ) → count + r ≡ renditions → IsLeft count rest after

-- a place line is its first spot's numbers, then the others' with a space before each number
line_parts : (s : Spot) (others : List Spot) (after : List ℕ) →
    place_line (s ∷ others) ++ (10 ∷ after) ≡ numbers_text (place_numbers (s ∷ [])) ++ (spaced_numbers (place_numbers others) ++ (10 ∷ after))
line_parts s others after =
    ap (λ (xs : List ℕ). xs ++ (10 ∷ after)) (sym (spots_parts [] s others))
    ∙ append_assoc (numbers_text (place_numbers (s ∷ []))) (spaced_numbers (place_numbers others)) (10 ∷ after)

-- the first spot of a place line is the first spot of the text
first_there : (text : List ℕ) (s : Spot) (others : List Spot) (after : List ℕ) → All IsSpotInRange (s ∷ others) →
    text ≡ place_line (s ∷ others) ++ (10 ∷ after) → IsFirstSpot text s (spaced_numbers (place_numbers others) ++ (10 ∷ after))
first_there text s others after small is = record {
  small = All-head IsSpotInRange s others small;
  is = is ∙ line_parts s others after;
  ends = no_digit_behind (place_numbers others) (10 ∷ after) refl;
}

-- a text without a first spot begins with no place line
pub no_first_spot : (renditions : ℕ) (text : List ℕ) → 1 ≤ renditions → ((s : Spot) (rest : List ℕ) → IsFirstSpot text s rest → ⊥) →
    (place : List Spot) (after : List ℕ) → IsPlaceOf renditions place → text ≡ place_line place ++ (10 ∷ after) → ⊥
no_first_spot renditions text some none [] after good is =
    let count : 0 ≡ renditions = good.count in
    absurd (omega arith)
no_first_spot renditions text some none (s ∷ others) after good is =
    none s (spaced_numbers (place_numbers others) ++ (10 ∷ after)) (first_there text s others after good.spots is)

-- after the first spot of a place line, the spots of the other renditions remain
first_left : (renditions : ℕ) (text : List ℕ) (s : Spot) (rest : List ℕ) → 1 ≤ renditions → IsFirstSpot text s rest →
    (place : List Spot) (after : List ℕ) → IsPlaceOf renditions place → text ≡ place_line place ++ (10 ∷ after) →
    (count : ℕ) → count + 1 ≡ renditions → IsLeft count rest after
first_left renditions text s rest some at [] after good is count whole =
    let none : 0 ≡ renditions = good.count in
    absurd (omega arith)
first_left renditions text s rest some at (t ∷ others) after good is count whole =
    let all : length (t ∷ others) ≡ renditions = good.count in
    record {
      others = others;
      number = omega arith;
      small = All-tail IsSpotInRange t others good.spots;
      is = same_first_rest text s t rest (spaced_numbers (place_numbers others) ++ (10 ∷ after)) at (first_there text t others after good.spots is);
    }

-- after the first spot of a text one spot of a place line has been read
pub one_read : (renditions : ℕ) (text : List ℕ) (s : Spot) (rest : List ℕ) → 1 ≤ renditions → IsFirstSpot text s rest →
    SpotsRead renditions text (s ∷ []) rest 1
one_read renditions text s rest some at = record {
  count = refl;
  small = All-cons IsSpotInRange s [] at.small (All-nil IsSpotInRange);
  some = omega arith;
  is = at.is;
  ends = at.ends;
  left = first_left renditions text s rest some at;
}

-- if spots remain, the text continues with the first of them
next_there : (rest : List ℕ) (s : Spot) (others : List Spot) (after : List ℕ) → All IsSpotInRange (s ∷ others) →
    rest ≡ spaced_numbers (place_numbers (s ∷ others)) ++ (10 ∷ after) → IsNextSpot rest s (spaced_numbers (place_numbers others) ++ (10 ∷ after))
next_there rest s others after small is = record {
  small = All-head IsSpotInRange s others small;
  is = is ∙ ap (λ (xs : List ℕ). xs ++ (10 ∷ after)) (sym (spaced_spot s others))
      ∙ append_assoc (spaced_numbers (place_numbers (s ∷ []))) (spaced_numbers (place_numbers others)) (10 ∷ after);
  ends = no_digit_behind (place_numbers others) (10 ∷ after) refl;
}

-- if the text doesn't continue with a spot, no spots remain
not_left : (rest : List ℕ) (others : List Spot) (after : List ℕ) → 0 < length others → All IsSpotInRange others →
    rest ≡ spaced_numbers (place_numbers others) ++ (10 ∷ after) → ((s : Spot) (more : List ℕ) → IsNextSpot rest s more → ⊥) → ⊥
not_left rest [] after some small is none = absurd (omega arith)
not_left rest (s ∷ others) after some small is none =
    none s (spaced_numbers (place_numbers others) ++ (10 ∷ after)) (next_there rest s others after small is)

-- if the text doesn't continue with a spot while renditions remain, it begins with no place line
pub no_next_spot : (renditions : ℕ) (text : List ℕ) (spots : List Spot) (rest : List ℕ) (r : ℕ) → SpotsRead renditions text spots rest r →
    r < renditions → ((s : Spot) (more : List ℕ) → IsNextSpot rest s more → ⊥) →
    (place : List Spot) (after : List ℕ) → IsPlaceOf renditions place → text ≡ place_line place ++ (10 ∷ after) → ⊥
no_next_spot renditions text spots rest r read below none place after good is =
    let at : IsLeft (renditions - r) rest after = read.left place after good is (renditions - r) (omega arith) in
    let number : length at.others ≡ renditions - r = at.number in
    not_left rest at.others after (omega arith) at.small at.is none

-- two further spots at the start of one text leave the same rest
same_next_rest : (text : List ℕ) (s t : Spot) (xs ys : List ℕ) → IsNextSpot text s xs → IsNextSpot text t ys → xs ≡ ys
unfolding numbers_text spaced_numbers place_numbers
same_next_rest text s t xs ys here there =
    same_first_rest (numbers_text (place_numbers (s ∷ [])) ++ xs) s t xs ys
    (behind_space text (numbers_text (place_numbers (s ∷ [])) ++ xs) s xs here.is here)
    (behind_space text (numbers_text (place_numbers (s ∷ [])) ++ xs) t ys here.is there)

-- after one of the remaining spots one spot fewer remains
next_left : (rest : List ℕ) (s : Spot) (next : List ℕ) (others : List Spot) (after : List ℕ) (count : ℕ) → IsNextSpot rest s next →
    length others ≡ count + 1 → All IsSpotInRange others → rest ≡ spaced_numbers (place_numbers others) ++ (10 ∷ after) → IsLeft count next after
next_left rest s next [] after count at number small is = absurd (omega arith)
next_left rest s next (t ∷ others) after count at number small is =
    record {
      others = others;
      number = omega arith;
      small = All-tail IsSpotInRange t others small;
      is = same_next_rest rest s t next (spaced_numbers (place_numbers others) ++ (10 ∷ after)) at (next_there rest t others after small is);
    }

-- the numbers of some spots, then those of one more, are the numbers of the longer list
spots_longer : (spots : List Spot) (s : Spot) →
    spaced_numbers (place_numbers spots) ++ spaced_numbers (place_numbers (s ∷ [])) ≡ spaced_numbers (place_numbers (spots ++ (s ∷ [])))
unfolding spaced_numbers place_numbers
spots_longer [] s = refl
spots_longer (t ∷ spots) s =
    ap (λ (xs : List ℕ). xs ++ spaced_numbers (place_numbers (s ∷ []))) (sym (spaced_spot t spots))
    ∙ append_assoc (spaced_numbers (place_numbers (t ∷ []))) (spaced_numbers (place_numbers spots)) (spaced_numbers (place_numbers (s ∷ [])))
    ∙ ap (λ (xs : List ℕ). spaced_numbers (place_numbers (t ∷ [])) ++ xs) (spots_longer spots s)
    ∙ spaced_spot t (spots ++ (s ∷ []))

-- a place line and the numbers of one more spot are the place line with that spot
line_longer : (spots : List Spot) (s : Spot) (next : List ℕ) → 0 < length spots →
    place_line spots ++ (spaced_numbers (place_numbers (s ∷ [])) ++ next) ≡ place_line (spots ++ (s ∷ [])) ++ next
line_longer [] s next some = absurd (omega arith)
line_longer (t ∷ spots) s next some =
    sym (append_assoc (place_line (t ∷ spots)) (spaced_numbers (place_numbers (s ∷ []))) next)
    ∙ ap (λ (xs : List ℕ). xs ++ next)
    (ap (λ (xs : List ℕ). xs ++ spaced_numbers (place_numbers (s ∷ []))) (sym (spots_parts [] t spots))
    ∙ append_assoc (numbers_text (place_numbers (t ∷ []))) (spaced_numbers (place_numbers spots)) (spaced_numbers (place_numbers (s ∷ [])))
    ∙ ap (λ (xs : List ℕ). numbers_text (place_numbers (t ∷ [])) ++ xs) (spots_longer spots s)
    ∙ spots_parts [] t (spots ++ (s ∷ [])))

-- after a further spot one more spot of a place line has been read
pub one_more_read : (renditions : ℕ) (text : List ℕ) (spots : List Spot) (rest : List ℕ) (r : ℕ) (s : Spot) (next : List ℕ) →
    SpotsRead renditions text spots rest r → IsNextSpot rest s next → SpotsRead renditions text (spots ++ (s ∷ [])) next (r + 1)
one_more_read renditions text spots rest r s next read at = record {
  count = simp length-append (omega (arith, read.count));
  small = All-append IsSpotInRange spots (s ∷ []) read.small (All-cons IsSpotInRange s [] at.small (All-nil IsSpotInRange));
  some = omega arith;
  is = read.is ∙ ap (λ (xs : List ℕ). place_line spots ++ xs) at.is ∙ line_longer spots s next (omega (arith, read.count, read.some));
  ends = at.ends;
  left = λ place after good is count whole.
      let left : IsLeft (count + 1) rest after = read.left place after good is (count + 1) (omega (arith, whole)) in
      next_left rest s next left.others after count at left.number left.small left.is;
}

-- if a line feed follows the spots of all renditions, they are a place, and the text begins with its line
pub place_taken : (renditions : ℕ) (text : List ℕ) (spots : List Spot) (rest after : List ℕ) → SpotsRead renditions text spots rest renditions →
    rest ≡ 10 ∷ after → IsPlaceOf renditions spots × (text ≡ place_line spots ++ (10 ∷ after))
place_taken renditions text spots rest after read is =
    (record { count = read.count; spots = read.small }, read.is ∙ ap (λ (xs : List ℕ). place_line spots ++ xs) is)

-- if no spots remain, a line feed follows
none_left : (rest : List ℕ) (others : List Spot) (after : List ℕ) → length others ≡ 0 → rest ≡ spaced_numbers (place_numbers others) ++ (10 ∷ after) →
    rest ≡ 10 ∷ after
unfolding spaced_numbers place_numbers
none_left rest [] after none is = is
none_left rest (s ∷ others) after none is = absurd (omega arith)

-- if no line feed follows the spots of all renditions, the text begins with no place line
pub no_end_of_line : (renditions : ℕ) (text : List ℕ) (spots : List Spot) (rest : List ℕ) → SpotsRead renditions text spots rest renditions →
    ((after : List ℕ) → rest ≡ 10 ∷ after → ⊥) →
    (place : List Spot) (after : List ℕ) → IsPlaceOf renditions place → text ≡ place_line place ++ (10 ∷ after) → ⊥
no_end_of_line renditions text spots rest read none place after good is =
    let at : IsLeft 0 rest after = read.left place after good is 0 (omega arith) in
    none after (none_left rest at.others after at.number at.is)

-- the place line is the first of the text's lines
pub place_first : (renditions : ℕ) (text : List ℕ) (place : List Spot) (after : List ℕ) → IsPlaceOf renditions place →
    text ≡ place_line place ++ (10 ∷ after) → IsFirstLine text (place_line place) after
place_first renditions text place after good is =
    record { is = is; one_line = no_end (place_line place) (clean_words (place_numbers place) (numbers_printable place good.spots)) }

-- the text after a place line is shorter than the text
pub place_shorter : (text : List ℕ) (place : List Spot) (after : List ℕ) → text ≡ place_line place ++ (10 ∷ after) → length after < length text
place_shorter text place after is = rw is (simp length-append (omega arith))

-- if the text begins with no place line, the line after those that were read is the wrong one
pub place_refused : (renditions lines_read : ℕ) (rest : List ℕ) →
    ((place : List Spot) (after : List ℕ) → IsPlaceOf renditions place → rest ≡ place_line place ++ (10 ∷ after) → ⊥) →
    IsWrongLineAfter (IsPlaceLine renditions) rest lines_read (lines_read + 1)
unfolding text_of_lines
place_refused renditions lines_read rest none = (
  refl,
  λ line lines here at.
      let text : rest ≡ (line ++ (10 ∷ text_of_lines lines)) ++ (cut_text rest).tail =
      joined_lines rest ∙ ap (λ (ls : List (List ℕ)). text_of_lines ls ++ (cut_text rest).tail) here in
      none at.place (text_of_lines lines ++ (cut_text rest).tail) at.good
      (text ∙ append_assoc line (10 ∷ text_of_lines lines) (cut_text rest).tail
      ∙ ap (λ (xs : List ℕ). xs ++ (10 ∷ (text_of_lines lines ++ (cut_text rest).tail))) at.is),
)
