-- The slices of a resource, and the slice of a byte.
use Rattle.std.proofs.Common.{◌≡◌, ◌∙◌, ℕ, zero, suc, ◌+◌, ◌-◌, ◌<◌, ◌≤◌, List, [], ◌∷◌, ◌++◌, length, take, drop, get_or, Option, refl, sym, ap, subst, inl, inr, arith, zero-add, add-one, length-append, length-take, length-drop}
use Rattle.std.specs.Prelude.{unwrap_or}
use Rattle.std.specs.List.{concat}
use Rattle.std.proofs.lemmas.Bool.{cases_lt, le-ltb}
use Rattle.std.proofs.lemmas.List.{get_or-drop, get_or-take, get_or_past, take-take, take_all}
use Rattle.std.proofs.lemmas.Option.{unwrap_or-slice_get}
use Rattle.std.proofs.Math.Seq.{drop-append-add}
use Rattle.hls_record.specs.RecordingData.{RecordingData, offset_at, total_of, unit_at}
use Rattle.hls_record.specs.Search.{IsInUnit}
use Rattle.hls_record.specs.IsRecorded.{IsRecorded}
use Rattle.hls_playlists_laws.specs.JobResource.{bytes_between, units_between}
use Rattle.hls_catchup.proofs.Cited.{bytes_are}
use Rattle.hls_catchup.specs.Resources.{IsPositionOf}
use Rattle.hls_playlists.proofs.Offsets.{bytes_are_offsets, offsets_add}
use Rattle.hls_catchup.proofs.Pieces.{have_lengths}

-- the bytes after the first m slices and w bytes are those w bytes into the remaining slices
behind_slices : (us : List (List ℕ)) (m w : ℕ) → drop (length (concat (take m us)) + w) (concat us) ≡ drop w (concat (drop m us))
behind_slices us zero w = ap (λ n. drop n (concat us)) (zero-add w)
behind_slices [] (suc m) w = ap (λ n. drop n (concat [])) (zero-add w)
behind_slices (u ∷ us) (suc m) w =
    let long : length (u ++ concat (take m us)) + w ≡ length u + (length (concat (take m us)) + w) = omega (arith, length-append u (concat (take m us))) in
    ap (λ n. drop n (u ++ concat us)) long ∙ drop-append-add u (concat us) (length (concat (take m us)) + w) ∙ behind_slices us m w

-- unit k of those between two numbers is the recording's unit `first + k`
unit_at_slice : (r : RecordingData) (first end k : ℕ) → r.floor ≤ first → k < end - first
    → unwrap_or (unit_at r (first + k)) [] ≡ get_or (units_between r.floor r.units first end) k []
unit_at_slice r first end k kept within =
    let moved : first + k - r.floor ≡ first - r.floor + k = omega arith in
    rw (le-ltb (first + k) r.floor (omega arith))
    (unwrap_or-slice_get r.units (first + k - r.floor) [] ∙ ap (λ n. get_or r.units n []) moved
    ∙ sym (get_or-take (end - first) (drop (first - r.floor) r.units) k [] within ∙ get_or-drop (first - r.floor) r.units k []))

-- slice `number` of a resource, if above 0, is the recording's unit `first + (number - 1)`
pub unit_slice : (r : RecordingData) (first end number : ℕ) (found : Option (List ℕ)) → r.floor ≤ first → 0 < number → number ≤ end - first
    → found ≡ unit_at r (first + (number - 1))
    → unwrap_or found [] ≡ get_or (r.head ∷ units_between r.floor r.units first end) number []
unit_slice r first end number found kept some within is =
    let next : number ≡ suc (number - 1) = omega arith in
    ap (λ (o : Option (List ℕ)). unwrap_or o []) is ∙ unit_at_slice r first end (number - 1) kept (omega arith)
    ∙ sym (ap (λ n. get_or (r.head ∷ units_between r.floor r.units first end) n []) next)

-- the units between two numbers are at most as many as the kept ones
pub few_units : (r : RecordingData) (first end : ℕ) → length (units_between r.floor r.units first end) ≤ length r.units
few_units r first end =
    omega (arith, length-take (end - first) (drop (first - r.floor) r.units), length-drop (first - r.floor) r.units)

-- past the last unit there is no slice
pub no_slice : (r : RecordingData) (first end number : ℕ) → end - first < number → [] ≡ get_or (r.head ∷ units_between r.floor r.units first end) number []
no_slice r first end number past =
    let long : length (r.head ∷ units_between r.floor r.units first end) ≤ number =
    omega (arith, length-take (end - first) (drop (first - r.floor) r.units)) in
    sym (get_or_past (r.head ∷ units_between r.floor r.units first end) number [] long)

-- the length of the resource is that of its init section and the bytes between
long_slices : (r : RecordingData) (first end : ℕ) → IsRecorded r → r.floor ≤ first
    → length (concat (r.head ∷ units_between r.floor r.units first end)) ≡ length r.head + bytes_between r.facts first end
long_slices r first end valid kept =
    length-append r.head (concat (units_between r.floor r.units first end))
    ∙ ap (λ n. length r.head + n) (sym (bytes_are r.facts r.floor r.units first end kept (have_lengths r valid)))

-- a byte that is past the init section and the units is past the resource
pub none_past : (r : RecordingData) (first end at : ℕ) → IsRecorded r → r.floor ≤ first → length r.head ≤ at → bytes_between r.facts first end ≤ at - length r.head
    → length (concat (r.head ∷ units_between r.floor r.units first end)) ≤ at
none_past r first end at valid kept behind past = omega (arith, long_slices r first end valid kept, behind, past)

-- the unit of a byte between two units is one of the units between them
pub unit_between : (r : RecordingData) (first end at n : ℕ) → offset_at r first ≤ at → at < offset_at r end → IsInUnit r at n → (first ≤ n) × (n < end)
unit_between r first end at n low high there =
    let up : first ≤ n = elim (cases_lt n first) [
      | inl early ↦ absurd (omega (arith, low, there.until, offsets_add r (n + 1) first (omega arith)))
      | inr late ↦ late
    ] in
    let down : n < end = elim (cases_lt n end) [
      | inl early ↦ early
      | inr late ↦ absurd (omega (arith, high, there.from, offsets_add r end n late))
    ] in
    (up, down)

-- a byte after the init section is in the slice of its unit, at its offset in that unit
pub place_there : (r : RecordingData) (first end at n : ℕ) → IsRecorded r → r.floor ≤ first → length r.head ≤ at → at - length r.head < bytes_between r.facts first end
    → IsInUnit r (offset_at r first + (at - length r.head)) n
    → (first ≤ n) × IsPositionOf (r.head ∷ units_between r.floor r.units first end) at (n - first + 1) (offset_at r first + (at - length r.head) - offset_at r n)
place_there r first end at n valid kept behind inside there =
    let units : List (List ℕ) = units_between r.floor r.units first end in
    let from : ℕ = offset_at r first + (at - length r.head) in
    let within = unit_between r first end from n (omega arith) (omega (arith, inside, bytes_are_offsets r first end)) there in
    let m : ℕ = n - first in
    let w : ℕ = from - offset_at r n in
    let before : bytes_between r.facts first n ≡ length (concat (units_between r.floor r.units first n)) =
    bytes_are r.facts r.floor r.units first n kept (have_lengths r valid) in
    let same : units_between r.floor r.units first n ≡ take m units = sym (take-take m (end - first) (drop (first - r.floor) r.units) (omega (arith, within.1))) in
    let skipped : length (concat (take m units)) + w ≡ at - length r.head =
    omega (arith, before, ap (λ xs. length (concat xs)) same, offsets_add r first n within.0, there.from, behind) in
    let along : length r.head + (at - length r.head) ≡ at = omega (arith, behind) in (
      within.0,
      record {
        rest = sym (ap (λ k. drop k (r.head ++ concat units)) (sym along) ∙ drop-append-add r.head (concat units) (at - length r.head)
            ∙ ap (λ k. drop k (concat units)) (sym skipped) ∙ behind_slices units m w
            ∙ ap (λ k. drop w (concat (drop k (r.head ∷ units)))) (sym (add-one m)));
        back = omega (arith, skipped, behind);
      },
    )

-- the first unit's offset is the length of the init section
init_offset : (r : RecordingData) → offset_at r 0 ≡ length r.head
init_offset r = omega arith

-- the same as `none_past`, with the init section's length and the units' bytes as they were read
pub nothing_past : (r : RecordingData) (first end at init between : ℕ) → IsRecorded r → r.floor ≤ first → init ≡ offset_at r 0 → init ≤ at
    → between ≡ bytes_between r.facts first end → between ≤ at - init → length (concat (r.head ∷ units_between r.floor r.units first end)) ≤ at
nothing_past r first end at init between valid kept init_is behind between_is past =
    none_past r first end at valid kept (omega (arith, init_is, init_offset r, behind)) (omega (arith, init_is, init_offset r, between_is, past))

-- no unit begins after the end
offset_small : (r : RecordingData) (n : ℕ) → offset_at r n ≤ total_of r
offset_small r n =
    let all : offset_at r (length r.facts) ≡ total_of r = rw (take_all (length r.facts) r.facts (omega arith)) refl in
    elim (cases_lt n (length r.facts)) [
      | inl up ↦ omega (arith, offsets_add r n (length r.facts) (omega (arith, up)), all)
      | inr past ↦ (let same : offset_at r n ≡ total_of r = rw (take_all n r.facts past) refl in omega (arith, same))
    ]

-- a byte at or after a kept unit's offset is at or after the first kept byte
pub is_kept_byte : (r : RecordingData) (first from rest : ℕ) → r.floor ≤ first → from ≡ offset_at r first → offset_at r r.floor ≤ from + rest
is_kept_byte r first from rest kept is = omega (arith, is, offsets_add r r.floor first kept)

-- a byte within the units of a resource is before the end of the recording
pub before_total : (r : RecordingData) (first end from rest between : ℕ) → from ≡ offset_at r first → between ≡ bytes_between r.facts first end → rest < between
    → from + rest < total_of r
before_total r first end from rest between is between_is inside =
    omega (arith, is, between_is, inside, bytes_are_offsets r first end, offset_small r end)

-- the position of a byte after the init section, with the numbers as they were read
pub place_is : (r : RecordingData) (first end at init from n unit between : ℕ) → IsRecorded r → r.floor ≤ first → init ≡ offset_at r 0 → init ≤ at
    → between ≡ bytes_between r.facts first end → at - init < between → from ≡ offset_at r first → IsInUnit r (from + (at - init)) n → unit ≡ offset_at r n
    → (first ≤ n) × IsPositionOf (r.head ∷ units_between r.floor r.units first end) at (n - first + 1) (from + (at - init) - unit)
place_is r first end at init from n unit between valid kept init_is behind between_is inside from_is there unit_is =
    let head : init ≡ length r.head = init_is ∙ init_offset r in
    let offset : from + (at - init) ≡ offset_at r first + (at - length r.head) = omega (arith, head, from_is) in
    let placed = place_there r first end at n valid kept (omega (arith, head, behind)) (omega (arith, head, between_is, inside))
    (subst (λ (m : ℕ). IsInUnit r m n) offset there) in
    let within : offset_at r first + (at - length r.head) - offset_at r n ≡ from + (at - init) - unit = omega (arith, offset, unit_is) in
    (placed.0, subst (λ (m : ℕ). IsPositionOf (r.head ∷ units_between r.floor r.units first end) at (n - first + 1) m) within placed.1)
