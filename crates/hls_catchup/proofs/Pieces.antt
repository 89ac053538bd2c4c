-- The bytes of a job's resource, as a recording has them.
use Rattle.std.proofs.Common.{◌≡◌, ℕ, zero, suc, ◌+◌, ◌-◌, ◌<◌, ◌≤◌, List, [], ◌∷◌, ◌++◌, length, map, take, drop, Some, None, refl, sym, ◌∙◌, ap, arith, length-append, length-drop, inl, inr, zero-add}
use Rattle.std.proofs.lemmas.Bool.{cases_lt, lt-ltb, le-ltb}
use Rattle.std.specs.Prelude.{slice_get}
use Rattle.std.specs.List.{concat}
use Rattle.hls_media_laws.specs.{InitData.InitData, IsInitOrUnit.IsUnit}
use Rattle.hls_media_laws.specs.declared.facts.Facts.{Facts}
use Rattle.hls_catchup.proofs.Cited.{units_are_bounded, at_drop, no_piece, bytes_are}
use Rattle.hls_record.specs.RecordingData.{RecordingData, offset_at, unit_piece, piece_at}
use Rattle.hls_record.specs.IsRecorded.{IsRecorded}
use Rattle.hls_media_laws.specs.FactLists.{len_of}
use Rattle.hls_playlists_laws.specs.JobResource.{bytes_between, units_between, resource_of, HaveLengths}
use Rattle.hls_playlists.proofs.Offsets.{offsets_add}

-- facts and units that have equal lengths one by one have equal lists of lengths
same_lengths : (fs : List Facts) (us : List (List ℕ)) →
    ((k : ℕ) (f : Facts) (u : List ℕ) → slice_get fs k ≡ Some f → slice_get us k ≡ Some u → f.len ≡ length u) → length us ≡ length fs →
    map len_of fs ≡ map length us
same_lengths [] [] lens long = refl
same_lengths [] (u ∷ us) lens long = absurd (omega arith)
same_lengths (f ∷ fs) [] lens long = absurd (omega arith)
same_lengths (f ∷ fs) (u ∷ us) lens long =
    let here : f.len ≡ length u = lens 0 f u refl refl in
    let rest : map len_of fs ≡ map length us = same_lengths fs us (λ k g v at_g at_v. lens (suc k) g v at_g at_v) (omega arith) in
    ap (λ n. n ∷ map len_of fs) here ∙ ap (λ ns. length u ∷ ns) rest

-- kept units are as long as their facts say
pub lengths_of : (init : InitData) (facts : List Facts) (floor : ℕ) (units : List (List ℕ)) → floor + length units ≡ length facts
    → ((k : ℕ) (f : Facts) (unit : List ℕ) → slice_get facts (floor + k) ≡ Some f → slice_get units k ≡ Some unit → IsUnit init unit f) → HaveLengths facts floor units
lengths_of init facts floor units kept fits =
    let count : length (drop floor facts) ≡ length facts - floor = length-drop floor facts in
    same_lengths (drop floor facts) units
    (λ k f u at_f at_u. (units_are_bounded init u f (fits k f u (sym (at_drop facts floor k) ∙ at_f) at_u)).len_is)
    (omega (arith, kept))

-- the kept units of a recording are as long as their facts say
pub have_lengths : (r : RecordingData) → IsRecorded r → HaveLengths r.facts r.floor r.units
have_lengths r valid = lengths_of r.init r.facts r.floor r.units valid.kept valid.fits

-- a resource is as long as its init section and the bytes between its first and last unit
pub resource_long : (r : RecordingData) (first end : ℕ) → IsRecorded r → r.floor ≤ first →
    length (resource_of r.head r.floor r.units first end) ≡ length r.head + bytes_between r.facts first end
resource_long r first end valid kept =
    length-append r.head (concat (units_between r.floor r.units first end))
    ∙ ap (λ n. length r.head + n) (sym (bytes_are r.facts r.floor r.units first end kept (have_lengths r valid)))

-- a piece after the first i units is one of the units after them
behind : (us : List (List ℕ)) (i y : ℕ) → unit_piece us (length (concat (take i us)) + y) ≡ unit_piece (drop i us) y
behind us zero y = ap (unit_piece us) (zero-add y)
behind [] (suc i) y = refl
behind (u ∷ us) (suc i) y =
    let long : length (u ++ concat (take i us)) + y ≡ length u + (length (concat (take i us)) + y) = omega (arith, length-append u (concat (take i us))) in
    let rest : length u + (length (concat (take i us)) + y) - length u ≡ length (concat (take i us)) + y = omega arith in
    rw (long, le-ltb (length u + (length (concat (take i us)) + y)) (length u) (omega arith), rest) (behind us i y)

-- a piece within the first d units doesn't depend on those after them
within_first : (us : List (List ℕ)) (d y : ℕ) → y < length (concat (take d us)) → unit_piece us y ≡ unit_piece (take d us) y
within_first us zero y inside = absurd (omega arith)
within_first [] (suc d) y inside = refl
within_first (u ∷ us) (suc d) y inside =
    elim (cases_lt y (length u)) [
      | inl here ↦ rw (lt-ltb y (length u) here) refl
      | inr past ↦ (
          let long = length-append u (concat (take d us)) in
          rw (le-ltb y (length u) past) (within_first us d (y - length u) (omega arith))
          )
    ]

-- past the units of a resource there is no piece
pub piece_past : (r : RecordingData) (first end at : ℕ) → IsRecorded r → r.floor ≤ first → length r.head ≤ at →
    bytes_between r.facts first end ≤ at - length r.head →
    unit_piece (r.head ∷ units_between r.floor r.units first end) at ≡ None
piece_past r first end at valid kept behind_head past =
    let long : bytes_between r.facts first end ≡ length (concat (units_between r.floor r.units first end)) =
    bytes_are r.facts r.floor r.units first end kept (have_lengths r valid) in
    rw (le-ltb at (length r.head) behind_head) (no_piece (units_between r.floor r.units first end) (at - length r.head) (omega arith))

-- within the units, a resource has the same piece as the recording at the later offset there
pub piece_there : (r : RecordingData) (first end at : ℕ) → IsRecorded r → r.floor ≤ first → length r.head ≤ at →
    at - length r.head < bytes_between r.facts first end →
    piece_at r (offset_at r first + (at - length r.head)) ≡ unit_piece (r.head ∷ units_between r.floor r.units first end) at
piece_there r first end at valid kept behind_head inside =
    let y : ℕ = at - length r.head in
    let i : ℕ = first - r.floor in
    let lens = have_lengths r valid in
    let moved : offset_at r first ≡ offset_at r r.floor + bytes_between r.facts r.floor first = offsets_add r r.floor first kept in
    let skipped : bytes_between r.facts r.floor first ≡ length (concat (units_between r.floor r.units r.floor first)) =
    bytes_are r.facts r.floor r.units r.floor first (omega arith) lens in
    let front : units_between r.floor r.units r.floor first ≡ take i r.units =
    ap (λ n. take i (drop n r.units)) (let none : r.floor - r.floor ≡ 0 = omega arith in none) in
    let back : offset_at r first + y - offset_at r r.floor ≡ length (concat (take i r.units)) + y =
    (let same : length (concat (units_between r.floor r.units r.floor first)) ≡ length (concat (take i r.units)) = ap (λ xs. length (concat xs)) front in omega arith) in
    let span : bytes_between r.facts first end ≡ length (concat (take (end - first) (drop i r.units))) = bytes_are r.facts r.floor r.units first end kept lens in
    let found : unit_piece r.units (length (concat (take i r.units)) + y) ≡ unit_piece (take (end - first) (drop i r.units)) y =
    behind r.units i y ∙ within_first (drop i r.units) (end - first) y (omega arith) in
    let past_head : length r.head ≤ offset_at r first + y = omega arith in
    let past_floor : offset_at r r.floor ≤ offset_at r first + y = omega arith in
    rw (le-ltb (offset_at r first + y) (length r.head) past_head, le-ltb (offset_at r first + y) (offset_at r r.floor) past_floor, back, le-ltb at (length r.head) behind_head) found
