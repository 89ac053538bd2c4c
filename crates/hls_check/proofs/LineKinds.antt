-- One line of each kind: when a line is of the kind, and when it can't be.
use Rattle.std.proofs.Common.{◌≡◌, refl, sym, ◌∙◌, ap, subst, ℕ, ◌+◌, ◌^◌, ◌<◌, ◌≤◌, List, [], ◌∷◌, ◌++◌, length, take, drop, get_or, All, arith, codes, add-one}
use Rattle.std.proofs.Math.Seq.{take-suc}
use Rattle.std.proofs.lemmas.List.{append_cancel_left, nil_from_length}
use Rattle.std.specs.Fmt.{decimal}
use Rattle.std.proofs.lemmas.List.Elements.{All-cons, All-nil, All-append}
use Rattle.hls_text.specs.Lines.{cut_text, IsFirstLine}
use Rattle.hls_text.specs.Numbers.{numbers_text, number_line, spaced_numbers, StartsWithNumber, StartsWithNoNumber, AreNumbers}
use Rattle.hls_check.proofs.Cited.{same_number, first_cut, front_number}
use Rattle.hls_check.specs.Text.{plan_line, closed_line}
use Rattle.hls_check.specs.Stages.{IsWrongLineAfter, IsNumberLine, IsPlanLine, IsPriceLine, IsClosedLine}
use Rattle.hls_check.proofs.Spellings.{number_same, priced_line_same}
use Rattle.hls_check.proofs.Sames.{words_all, below_small}

-- if a line is a word and digits, and the word and a number, the digits are that number
its_number : (line word digits : List ℕ) (n : ℕ) → line ≡ word ++ digits → n < 2 ^ 53 → line ≡ word ++ numbers_text (n ∷ []) →
    StartsWithNumber digits n []
unfolding spaced_numbers
its_number line word digits n is small spelled =
    let same : digits ≡ numbers_text (n ∷ []) = append_cancel_left word digits (numbers_text (n ∷ [])) (sym is ∙ spelled) in
    subst (λ (xs : List ℕ). StartsWithNumber xs n []) (sym same) (front_number n [] small)

-- a line whose word isn't followed by a number isn't a word and a number
pub no_number : (line word digits : List ℕ) → line ≡ word ++ digits → StartsWithNoNumber digits →
    (n : ℕ) → n < 2 ^ 53 → line ≡ word ++ numbers_text (n ∷ []) → ⊥
no_number line word digits is none n small spelled = none n [] (its_number line word digits n is small spelled)

-- a line that ends after its word and a number is that word and that number
pub number_read : (line word digits : List ℕ) (n : ℕ) (rest : List ℕ) → line ≡ word ++ digits → StartsWithNumber digits n rest →
    length rest ≡ 0 → (n < 2 ^ 53) × (line ≡ word ++ numbers_text (n ∷ []))
unfolding numbers_text spaced_numbers
number_read line word digits n rest is at ended =
    (at.small, is ∙ ap (λ (xs : List ℕ). word ++ xs) (subst (λ (xs : List ℕ). digits ≡ decimal n ++ xs) (nil_from_length rest ended) at.is))

-- a line with more text after its first number isn't a word and one number
pub more_behind : (line word digits : List ℕ) (m : ℕ) (rest : List ℕ) → line ≡ word ++ digits → StartsWithNumber digits m rest →
    0 < length rest → (n : ℕ) → n < 2 ^ 53 → line ≡ word ++ numbers_text (n ∷ []) → ⊥
more_behind line word digits m rest is at some n small spelled =
    let same : (m ≡ n) × (rest ≡ []) = same_number digits m n rest [] at (its_number line word digits n is small spelled) in
    let none : length rest ≡ 0 = ap length same.1 in
    absurd (omega arith)

-- a line whose word `plan` is followed by numbers below `count` is the plan line of those numbers
pub plan_read : (line rest ns plan : List ℕ) (count : ℕ) → line ≡ codes "plan " ++ rest → AreNumbers rest ns →
    All (λ p. p < count) ns → plan ≡ ns → (0 < length plan) × All (λ p. p < count) plan × (line ≡ plan_line plan)
plan_read line rest ns plan count is are below same =
    let whole : line ≡ plan_line ns = is ∙ ap (λ (xs : List ℕ). codes "plan " ++ xs) are.is in
    subst (λ (xs : List ℕ). (0 < length xs) × All (λ p. p < count) xs × (line ≡ plan_line xs)) (sym same) (are.some, below, whole)

-- what follows the word `plan` of a plan line is the numbers of its plan
plan_words : (line rest : List ℕ) (count : ℕ) → count ≤ 16384 → line ≡ codes "plan " ++ rest → (at : IsPlanLine count line) → AreNumbers rest at.plan
plan_words line rest count few is at = record {
  some = at.not_empty;
  small = below_small count at.plan few at.in_range;
  is = append_cancel_left (codes "plan ") rest (numbers_text at.plan) (sym is ∙ at.is);
}

-- a line whose word `plan` isn't followed by numbers isn't a plan line
pub no_plan : (line rest : List ℕ) (count : ℕ) → count ≤ 16384 → line ≡ codes "plan " ++ rest → ((ns : List ℕ) → AreNumbers rest ns → ⊥) →
    IsPlanLine count line → ⊥
no_plan line rest count few is none at = none at.plan (plan_words line rest count few is at)

-- a line that doesn't begin with the word `plan` isn't a plan line
pub no_prefix : (line : List ℕ) (count : ℕ) → ((rest : List ℕ) → line ≡ codes "plan " ++ rest → ⊥) → IsPlanLine count line → ⊥
no_prefix line count none at = none (numbers_text at.plan) at.is

-- a plan with a place that isn't below `count` has no plan line
pub plan_too_far : (line rest ns : List ℕ) (count : ℕ) → count ≤ 16384 → line ≡ codes "plan " ++ rest → AreNumbers rest ns →
    (All (λ p. p < count) ns → ⊥) → IsPlanLine count line → ⊥
plan_too_far line rest ns count few is are far at =
    let numbers : AreNumbers rest at.plan = plan_words line rest count few is at in
    let same : ns ≡ at.plan = words_all ns at.plan are.small numbers.small are.some numbers.some (sym are.is ∙ numbers.is) in
    far (subst (All (λ p. p < count)) (sym same) at.in_range)

-- in a line of a word and two numbers, the first number follows the word, and a space and the second number follow it
two_there : (line word numbers : List ℕ) (m n : ℕ) → line ≡ word ++ numbers → m < 2 ^ 53 →
    line ≡ word ++ numbers_text (m ∷ n ∷ []) → StartsWithNumber numbers m (32 ∷ (decimal n ++ []))
unfolding spaced_numbers numbers_text
two_there line word numbers m n is small spelled =
    subst (λ (xs : List ℕ). StartsWithNumber xs m (32 ∷ (decimal n ++ [])))
    (sym (append_cancel_left word numbers (numbers_text (m ∷ n ∷ [])) (sym is ∙ spelled))) (front_number m (n ∷ []) small)

-- a line whose word isn't followed by a number isn't a word and two numbers
pub no_first : (line word numbers : List ℕ) → line ≡ word ++ numbers → StartsWithNoNumber numbers →
    (m n : ℕ) → m < 2 ^ 53 → n < 2 ^ 53 → line ≡ word ++ numbers_text (m ∷ n ∷ []) → ⊥
no_first line word numbers is none m n m_small n_small spelled =
    none m (32 ∷ (decimal n ++ [])) (two_there line word numbers m n is m_small spelled)

-- in a line of two numbers, the number that was read first is the first one, and a space and the second number follow it
space_there : (line word numbers : List ℕ) (k : ℕ) (space : List ℕ) → line ≡ word ++ numbers → StartsWithNumber numbers k space →
    (m n : ℕ) → m < 2 ^ 53 → line ≡ word ++ numbers_text (m ∷ n ∷ []) → (k ≡ m) × (space ≡ 32 ∷ (decimal n ++ []))
space_there line word numbers k space is at m n m_small spelled =
    same_number numbers k m space (32 ∷ (decimal n ++ [])) at (two_there line word numbers m n is m_small spelled)

-- a line without a space after its first number isn't a word and two numbers
pub no_space : (line word numbers : List ℕ) (k : ℕ) (space : List ℕ) → line ≡ word ++ numbers → StartsWithNumber numbers k space →
    ((rest : List ℕ) → space ≡ (32 ∷ []) ++ rest → ⊥) →
    (m n : ℕ) → m < 2 ^ 53 → n < 2 ^ 53 → line ≡ word ++ numbers_text (m ∷ n ∷ []) → ⊥
no_space line word numbers k space is at none m n m_small n_small spelled =
    none (decimal n ++ []) (space_there line word numbers k space is at m n m_small spelled).1

-- a line without a number after that space isn't a word and two numbers
pub no_second : (line word numbers : List ℕ) (k : ℕ) (space rest : List ℕ) → line ≡ word ++ numbers → StartsWithNumber numbers k space →
    space ≡ (32 ∷ []) ++ rest → ((n : ℕ) → n < 2 ^ 53 → rest ≡ [] ++ numbers_text (n ∷ []) → ⊥) →
    (m n : ℕ) → m < 2 ^ 53 → n < 2 ^ 53 → line ≡ word ++ numbers_text (m ∷ n ∷ []) → ⊥
unfolding spaced_numbers numbers_text
no_second line word numbers k space rest is at space_is none m n m_small n_small spelled =
    let there : space ≡ 32 ∷ (decimal n ++ []) = (space_there line word numbers k space is at m n m_small spelled).1 in
    let both : 32 ∷ rest ≡ 32 ∷ (decimal n ++ []) = sym space_is ∙ there in
    none n n_small (ap (drop 1) both)

-- a word, a number, a space and a number are a line of that word and the two numbers
pub two_read : (line word numbers : List ℕ) (m n : ℕ) (space rest : List ℕ) → line ≡ word ++ numbers → StartsWithNumber numbers m space →
    space ≡ (32 ∷ []) ++ rest → (n < 2 ^ 53) × (rest ≡ [] ++ numbers_text (n ∷ [])) →
    (m < 2 ^ 53) × (n < 2 ^ 53) × (line ≡ word ++ numbers_text (m ∷ n ∷ []))
unfolding spaced_numbers numbers_text
two_read line word numbers m n space rest is at space_is second = (
  at.small,
  second.0,
  is ∙ ap (λ (xs : List ℕ). word ++ xs) (at.is ∙ ap (λ (xs : List ℕ). decimal m ++ xs) (space_is ∙ ap (λ (xs : List ℕ). 32 ∷ xs) second.1)),
)

-- a line that isn't the word `price` and two numbers isn't a price line
pub no_price : (line : List ℕ) (low count : ℕ) → count ≤ 16384 →
    ((m n : ℕ) → m < 2 ^ 53 → n < 2 ^ 53 → line ≡ codes "price " ++ numbers_text (m ∷ n ∷ []) → ⊥) → IsPriceLine low count line → ⊥
no_price line low count few none at =
    let below : at.priced_place.place < count = at.below in
    none at.priced_place.place at.priced_place.price (omega arith) at.small at.is

-- the place of a price line is its first number, which is in `low..count`
price_place : (line : List ℕ) (low count m n : ℕ) → count ≤ 16384 → m < 2 ^ 53 → n < 2 ^ 53 →
    line ≡ codes "price " ++ numbers_text (m ∷ n ∷ []) → IsPriceLine low count line → (low ≤ m) × (m < count)
price_place line low count m n few m_small n_small spelled at =
    let below : at.priced_place.place < count = at.below in
    let above : low ≤ at.priced_place.place = at.above in
    let same : (m ≡ at.priced_place.place) × (n ≡ at.priced_place.price) =
    priced_line_same (record { place = m; price = n }) at.priced_place m_small n_small (omega arith) at.small (sym spelled ∙ at.is) in
    (omega arith, omega arith)

-- a price line's place isn't before the least place that may come next
pub price_too_low : (line : List ℕ) (low count m n : ℕ) → count ≤ 16384 → m < low →
    (m < 2 ^ 53) × (n < 2 ^ 53) × (line ≡ codes "price " ++ numbers_text (m ∷ n ∷ [])) → IsPriceLine low count line → ⊥
price_too_low line low count m n few less read at =
    let range : (low ≤ m) × (m < count) = price_place line low count m n few read.0 read.1 read.2 at in
    absurd (omega arith)

-- a price line's place isn't after the last place of the table
pub price_too_far : (line : List ℕ) (low count m n : ℕ) → count ≤ 16384 → count ≤ m →
    (m < 2 ^ 53) × (n < 2 ^ 53) × (line ≡ codes "price " ++ numbers_text (m ∷ n ∷ [])) → IsPriceLine low count line → ⊥
price_too_far line low count m n few more read at =
    let range : (low ≤ m) × (m < count) = price_place line low count m n few read.0 read.1 read.2 at in
    absurd (omega arith)

-- a line that isn't the word `closed` and a number isn't a line of the closed set
pub no_closed : (line : List ℕ) (low count : ℕ) → count ≤ 16384 →
    ((n : ℕ) → n < 2 ^ 53 → line ≡ codes "closed " ++ numbers_text (n ∷ []) → ⊥) → IsClosedLine low count line → ⊥
no_closed line low count few none at =
    let below : at.place < count = at.below in
    none at.place (omega arith) at.is

-- the place of a line of the closed set is its number, which is in `low..count`
closed_place : (line : List ℕ) (low count n : ℕ) → count ≤ 16384 → n < 2 ^ 53 → line ≡ closed_line n → IsClosedLine low count line →
    (low ≤ n) × (n < count)
closed_place line low count n few small spelled at =
    let below : at.place < count = at.below in
    let above : low ≤ at.place = at.above in
    let same : n ≡ at.place = number_same (codes "closed ") n at.place small (omega arith) (sym spelled ∙ at.is) in
    (omega arith, omega arith)

-- the place of a line of the closed set isn't before the least place that may come next
pub closed_too_low : (line : List ℕ) (low count n : ℕ) → count ≤ 16384 → n < low → (n < 2 ^ 53) × (line ≡ closed_line n) →
    IsClosedLine low count line → ⊥
closed_too_low line low count n few less read at =
    let range : (low ≤ n) × (n < count) = closed_place line low count n few read.0 read.1 at in
    absurd (omega arith)

-- the place of a line of the closed set isn't after the last place of the table
pub closed_too_far : (line : List ℕ) (low count n : ℕ) → count ≤ 16384 → count ≤ n → (n < 2 ^ 53) × (line ≡ closed_line n) →
    IsClosedLine low count line → ⊥
closed_too_far line low count n few more read at =
    let range : (low ≤ n) × (n < count) = closed_place line low count n few read.0 read.1 at in
    absurd (omega arith)

-- if the first i numbers are places below `count`, and number i is too, then the first i + 1 are
pub below_more : (numbers places more : List ℕ) (i count : ℕ) → i < length numbers → get_or numbers i 0 < count →
    (places ≡ take i numbers) × All (λ p. p < count) (take i numbers) → more ≡ places ++ (get_or numbers i 0 ∷ []) →
    (more ≡ take (i + 1) numbers) × All (λ p. p < count) (take (i + 1) numbers)
below_more numbers places more i count small below read pushed =
    let P : ℕ → Type 0 = λ p. p < count in
    let step : take (i + 1) numbers ≡ take i numbers ++ (get_or numbers i 0 ∷ []) =
    ap (λ (j : ℕ). take j numbers) (add-one i) ∙ take-suc numbers i 0 small in (
      pushed ∙ ap (λ (xs : List ℕ). xs ++ (get_or numbers i 0 ∷ [])) read.0 ∙ sym step,
      subst (All P) (sym step)
          (All-append P (take i numbers) (get_or numbers i 0 ∷ []) read.1 (All-cons P (get_or numbers i 0) [] below (All-nil P))),
    )

-- if the next line isn't valid, the line after those that were read is the wrong one
pub line_refused : (IsGood : List ℕ → Type 0) (rest line after : List ℕ) (lines_read : ℕ) → IsFirstLine rest line after →
    (IsGood line → ⊥) → IsWrongLineAfter IsGood rest lines_read (lines_read + 1)
line_refused IsGood rest line after lines_read first bad = (
  refl,
  λ other others here good.
      let same : line ∷ (cut_text after).lines ≡ other ∷ others = sym (first_cut rest line after first).0 ∙ here in
      let lines : line ≡ other = cc in
      bad (subst IsGood (sym lines) good),
)

-- if the next line is a word and a number outside its range, the line after those that were read is the wrong one
pub out_of_range : (word rest line after : List ℕ) (m low high lines_read : ℕ) → IsFirstLine rest line after →
    (m < 2 ^ 53) × (line ≡ word ++ numbers_text (m ∷ [])) → high < 2 ^ 53 → ((low ≤ m) × (m ≤ high) → ⊥) →
    IsWrongLineAfter (IsNumberLine (number_line word) (λ n. (low ≤ n) × (n ≤ high))) rest lines_read (lines_read + 1)
out_of_range word rest line after m low high lines_read first read small out = (
  refl,
  λ other others here good.
      let same : line ∷ (cut_text after).lines ≡ other ∷ others = sym (first_cut rest line after first).0 ∙ here in
      let lines : line ≡ other = cc in
      let within : good.number ≤ high = good.good.1 in
      let numbers : m ≡ good.number =
      number_same word m good.number read.0 (omega arith) (sym read.1 ∙ lines ∙ good.is) in
      let above : low ≤ good.number = good.good.0 in
      out (omega arith, omega arith),
)
