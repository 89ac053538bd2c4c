-- For the proofs of this crate; no public clause cites it.
-- The list of a tree, which may have items before the first one; without a tree it has no items.
use Rattle.std.specs.Prelude.{◌≡◌, ℕ, ◌≤◌, Option, Some, None, []}
use Rattle.hls_blocks.specs.Numbered.{Numbered, next_of, from_number}

-- the list of a tree from the number `first` on; without a tree it has no items
abbrev pub list_value : {A T : Type 0} → (A → Numbered T) → ℕ → Option A → Numbered T
list_value value_of first None = record { first = first; items = [] }
list_value value_of first (Some a) = from_number (value_of a) first

-- the tree has the first number or begins before it, and has the next number
abbrev pub IsSoundTree : {A T : Type 0} → (A → Numbered T) → (A → Type 0) → ℕ → ℕ → Option A → Type 0
IsSoundTree value_of sound first next None = first ≡ next
IsSoundTree value_of sound first next (Some a) = sound a × ((value_of a).first ≤ first) × (first ≤ next) × (next ≡ next_of (value_of a))
