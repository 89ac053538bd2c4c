-- Positions in the slices of a resource.
use Rattle.std.proofs.Common.{◌≡◌, ◌∙◌, ℕ, zero, suc, ◌+◌, ◌-◌, ◌<◌, ◌≤◌, List, [], ◌∷◌, ◌++◌, length, take, drop, get_or, refl, sym, ap, arith, add-one, length-append, length-take}
use Rattle.std.{specs.List.concat, proofs.{lemmas.List.{drop-drop, drop-take}, Math.Seq.drop-append-add}}
use Rattle.hls_io.specs.Slices.{rest_at, part_at}

-- the bytes from a slice on are its own, followed by those from the next one on
from_slice_to_next : (slices : List (List ℕ)) (n : ℕ) → concat (drop n slices) ≡ get_or slices n [] ++ concat (drop (suc n) slices)
from_slice_to_next [] zero = refl
from_slice_to_next [] (suc n) = refl
from_slice_to_next (s ∷ slices) zero = refl
from_slice_to_next (s ∷ slices) (suc n) = from_slice_to_next slices n

-- the bytes from slice n on are its own, followed by those from slice n + 1 on
pub from_slice : (slices : List (List ℕ)) (n : ℕ) → concat (drop n slices) ≡ get_or slices n [] ++ concat (drop (n + 1) slices)
from_slice slices n = from_slice_to_next slices n ∙ ap (λ k. get_or slices n [] ++ concat (drop k slices)) (sym (add-one n))

-- a position past the end of a slice is a position in the next one, with the slice's length subtracted
pub next_slice : (slices : List (List ℕ)) (n within : ℕ) → length (get_or slices n []) ≤ within
    → rest_at slices (n + 1) (within - length (get_or slices n [])) ≡ rest_at slices n within
next_slice slices n within past =
    let here : List ℕ = get_or slices n [] in
    let sum : length here + (within - length here) ≡ within = omega (arith, past) in
    sym (ap (drop within) (from_slice slices n) ∙ ap (λ k. drop k (here ++ concat (drop (n + 1) slices))) (sym sum)
    ∙ drop-append-add here (concat (drop (n + 1) slices)) (within - length here))

-- if bytes remain at a position past the end of a slice, they remain at that position of the next slice
pub next_there : (slices : List (List ℕ)) (n within : ℕ) → length (get_or slices n []) ≤ within → within < length (concat (drop n slices))
    → within - length (get_or slices n []) < length (concat (drop (n + 1) slices))
next_there slices n within past there =
    omega (arith, past, there, ap length (from_slice slices n), length-append (get_or slices n []) (concat (drop (n + 1) slices)))

-- the length of a part is its number of bytes
pub part_length : (slices : List (List ℕ)) (n within len : ℕ) → len ≤ length (rest_at slices n within) → length (part_at slices n within len) ≡ len
part_length slices n within len there = omega (arith, there, length-take len (rest_at slices n within))

-- a part without its first bytes is the part that begins after them
pub part_behind : (slices : List (List ℕ)) (n within count left : ℕ) → count ≤ left → part_at slices n (within + count) (left - count) ≡ drop count (part_at slices n within left)
part_behind slices n within count left fits =
    let there : List ℕ = concat (drop n slices) in
    let sum : count + (left - count) ≡ left = omega (arith, fits) in
    ap (take (left - count)) (ap (λ k. drop k there) (omega arith) ∙ sym (drop-drop count within there))
    ∙ sym (drop-take count (left - count) (drop within there)) ∙ ap (λ k. drop count (take k (drop within there))) sum
