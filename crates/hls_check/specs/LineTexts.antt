-- For the proofs of this crate; no public clause cites it.
-- The content of one line of each kind.
use Rattle.std.specs.Prelude.{◌≡◌, ℕ, ◌^◌, ◌<◌, ◌≤◌, List, [], ◌∷◌, ◌++◌, length, All, codes}
use Rattle.hls_text.specs.Numbers.{numbers_text}
use Rattle.hls_check.specs.Text.{plan_line, closed_line}

-- a line is this word and this number
abbrev pub HasNumber : List ℕ → List ℕ → ℕ → Type 0
HasNumber word line n = (n < 2 ^ 53) × (line ≡ word ++ numbers_text (n ∷ []))

-- a line isn't this word and a number below 2^53
abbrev pub HasNoNumber : List ℕ → List ℕ → Type 0
HasNoNumber word line = (n : ℕ) → n < 2 ^ 53 → line ≡ word ++ numbers_text (n ∷ []) → ⊥

-- a line is this word and these two numbers
abbrev pub HasNumbers : List ℕ → List ℕ → ℕ × ℕ → Type 0
HasNumbers word line f = (f.0 < 2 ^ 53) × (f.1 < 2 ^ 53) × (line ≡ word ++ numbers_text (f.0 ∷ f.1 ∷ []))

-- a line isn't this word and two numbers below 2^53
abbrev pub HasNoNumbers : List ℕ → List ℕ → Type 0
HasNoNumbers word line = (m n : ℕ) → m < 2 ^ 53 → n < 2 ^ 53 → line ≡ word ++ numbers_text (m ∷ n ∷ []) → ⊥

-- each of these place numbers is below `count`
abbrev pub AreBelow : ℕ → List ℕ → Type 0
AreBelow count places = All (λ p. p < count) places

-- a line is the plan line of this plan, which has a place, and whose places are below `count`
abbrev pub HasPlan : ℕ → List ℕ → List ℕ → Type 0
HasPlan count line plan = (0 < length plan) × AreBelow count plan × (line ≡ plan_line plan)

-- a line is the price line of this place and this price; the place is in `low..count`
abbrev pub HasPrice : ℕ → ℕ → List ℕ → ℕ × ℕ → Type 0
HasPrice low count line f = (low ≤ f.0) × (f.0 < count) × (f.1 < 2 ^ 53) × (line ≡ codes "price " ++ numbers_text (f.0 ∷ f.1 ∷ []))

-- a line is the line of the closed set for this place, which is in `low..count`
abbrev pub HasClosed : ℕ → ℕ → List ℕ → ℕ → Type 0
HasClosed low count line p = (low ≤ p) × (p < count) × (line ≡ closed_line p)
