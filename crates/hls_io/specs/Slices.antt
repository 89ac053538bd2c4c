-- The bytes in the slices of a resource from a position: the number of a slice, and the offset in it.
use Rattle.std.specs.{Prelude.{◌≡◌, ℕ, ◌+◌, ◌<◌, ◌≤◌, ◌^◌, List, [], length, take, drop, get_or}, List.concat}

-- all bytes from a position: those of its slice from the offset on, and those of the slices after it
abbrev pub rest_at : List (List ℕ) → ℕ → ℕ → List ℕ
rest_at slices number within = drop within (concat (drop number slices))

-- the first bytes from a position, up to a number of them
abbrev pub part_at : List (List ℕ) → ℕ → ℕ → ℕ → List ℕ
part_at slices number within len = take len (rest_at slices number within)

-- For the proofs of this crate; no public clause cites it: `left` bytes are there, and unless that is 0 the position is inside its slice,
-- whose length is `len`
pub record IsPosition (slices : List (List ℕ)) (number within len left : ℕ) : Type 0 where
  pub enough : left ≤ length (rest_at slices number within)
  pub inside : 0 < left → within < len
  pub slice_len : 0 < left → len ≡ length (get_or slices number [])
  pub few : 0 < left → length slices < 2 ^ 64
  pub room : within + left < 2 ^ 64
