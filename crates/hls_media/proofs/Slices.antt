-- The length of a part of bytes.
use Rattle.std.proofs.Common.{◌≡◌, ℕ, ◌-◌, ◌≤◌, List, length, drop, slice_range, arith}
use Rattle.std.proofs.lemmas.List.{length-take-le, length-drop}

-- the bytes from a to b are b - a, if both are within the bytes
pub slice-length : (s : List ℕ) (a b : ℕ) → a ≤ b → b ≤ length s → length (slice_range s a b) ≡ b - a
slice-length s a b order within =
    let room : b - a ≤ length (drop a s) = omega (arith, length-drop a s) in
    length-take-le (b - a) (drop a s) room
