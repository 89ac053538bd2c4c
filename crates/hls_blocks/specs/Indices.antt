-- For the proofs of this crate; no public clause cites it.
-- The position of a number in a node: its child, and its number inside that.
use Rattle.std.specs.Prelude.{◌≡◌, ℕ, suc, ◌+◌, ◌*◌, ◌<◌, ◌≤◌, List, [], ◌∷◌, length, slice_index_or}
use Rattle.hls_blocks.specs.Numbered.{Numbered, next_of, with_item}
use Rattle.hls_blocks.specs.Chain.{node_value}

-- number n is number `inner` of the child in slot `slot + at`
pub record IsChildIndex (max_items slot n at inner : ℕ) : Type 0 where
  pub number : slot * max_items + (at * max_items + inner) ≡ n
  pub inside : inner < max_items

-- the child `at` has an item with number `inner`
pub record HasItem {T : Type 0} (vs : List (Numbered T)) (at inner : ℕ) : Type 0 where
  pub child : at < length vs
  pub low : (d : Numbered T) → (slice_index_or vs at d).first ≤ inner
  pub high : (d : Numbered T) → inner < next_of (slice_index_or vs at d)

-- the next item goes into the last child, after its items, or into a new child
pub record IsNextIndex {T : Type 0} (vs : List (Numbered T)) (at inner : ℕ) : Type 0 where
  pub child : at ≤ length vs
  pub next : (d : Numbered T) → at < length vs → inner ≡ next_of (slice_index_or vs at d)
  pub tail : length vs ≤ suc at

-- the child `at` after x was pushed: an old child or a new one
pub record IsGrown {T : Type 0} (vs : List (Numbered T)) (at inner : ℕ) (x : T) (c : Numbered T) : Type 0 where
  pub old : (d : Numbered T) → at < length vs → c ≡ with_item (slice_index_or vs at d) x
  pub new : length vs ≤ at → c ≡ record { first = inner; items = x ∷ [] }

-- the child of number n and its number there: that of an item, or of the next item
pub record IsItemOrNext {T : Type 0} (max_items slot : ℕ) (vs : List (Numbered T)) (n at inner : ℕ) : Type 0 where
  pub index_is : IsChildIndex max_items slot n at inner
  pub kept : n < next_of (node_value slot max_items vs) → HasItem vs at inner
  pub ends : n ≡ next_of (node_value slot max_items vs) → IsNextIndex vs at inner
