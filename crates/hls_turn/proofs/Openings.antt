-- The passes of an opening, made in sequence.
use Rattle.std.proofs.Common.{◌≡◌, ◌+◌, ◌-◌, ◌≤◌, ℕ, zero, suc, List, [], ◌∷◌, ◌++◌, All, map, ap, refl, ◌∙◌, arith}
use Rattle.std.specs.List.{range_with_len}
use Rattle.std.proofs.lemmas.List.Elements.{All-map}
use Rattle.atomic_table.specs.Seated.{TableId}
use Rattle.hls_core_laws.specs.State.{State}
use Rattle.hls_turn.specs.Passes.{PassData}
use Rattle.hls_turn.specs.Calls.{opening_pass, opening_passes}

module _ {A : Type 0} where
  -- mapping a range that is longer by one number appends the result for that number
  range-more : (f : ℕ → A) (a n : ℕ) → map f (range_with_len a (suc n)) ≡ map f (range_with_len a n) ++ f (a + n) ∷ []
  range-more f a zero = let is : a ≡ a + 0 = omega arith in ap (λ (x : ℕ). f x ∷ []) is
  range-more f a (suc n) = let is : a + 1 + n ≡ a + suc n = omega arith in
      ap (λ (l : List A). f a ∷ l) (range-more f (a + 1) n ∙ ap (λ (x : ℕ). map f (range_with_len (a + 1) n) ++ f x ∷ []) is)

  -- the pass of the next number is appended
  pub next_pass : (f : ℕ → A) (n : ℕ) → 1 ≤ n → map f (range_with_len 1 (n + 1 - 1)) ≡ map f (range_with_len 1 (n - 1)) ++ f n ∷ []
  next_pass f n some = let more : n + 1 - 1 ≡ suc (n - 1) = omega arith in let last : 1 + (n - 1) ≡ n = omega arith in
      ap (λ (k : ℕ). map f (range_with_len 1 k)) more ∙ range-more f 1 (n - 1) ∙ ap (λ (x : ℕ). map f (range_with_len 1 (n - 1)) ++ f x ∷ []) last

  -- all passes, with pass 0 before the others
  pub all_passes : (f : ℕ → A) (n m : ℕ) → 1 ≤ n → m ≡ n → f 0 ∷ map f (range_with_len 1 (m - 1)) ≡ map f (range_with_len 0 n)
  all_passes f zero m some is = absurd (omega arith)
  all_passes f (suc n) m some is = let less : m - 1 ≡ n = omega (arith, is) in ap (λ (k : ℕ). f 0 ∷ map f (range_with_len 1 k)) less

-- the passes of an opening belong to its turn
pub all_opening : (turn : TableId) (s : State) (count : ℕ) → All (λ (p : PassData). p.turn ≡ turn) (opening_passes turn s count)
all_opening turn s count = All-map (λ (p : PassData). p.turn ≡ turn) (opening_pass turn s) (range_with_len 0 count) (λ k d low. refl)
