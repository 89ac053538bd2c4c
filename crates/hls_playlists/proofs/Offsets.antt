-- A recording's offsets, and the bytes of a range of units.
use Rattle.std.proofs.Common.{◌≡◌, ℕ, ◌+◌, ◌-◌, ◌≤◌, List, take, drop, sum_by, sym, ◌∙◌, ap, arith, inl, inr}
use Rattle.std.proofs.lemmas.Bool.{cases_lt}
use Rattle.std.proofs.lemmas.List.Sums.{sum_by-append}
use Rattle.std.proofs.Math.Seq.{take-add}
use Rattle.hls_media_laws.specs.declared.facts.Facts.{Facts}
use Rattle.hls_record.specs.RecordingData.{RecordingData, offset_at}
use Rattle.hls_media_laws.specs.FactLists.{len_of}
use Rattle.hls_playlists_laws.specs.JobResource.{bytes_between}

-- the bytes up to a later unit are those up to the earlier one and those between
pub up_to : (facts : List Facts) (a d : ℕ) → sum_by len_of (take (a + d) facts) ≡ sum_by len_of (take a facts) + sum_by len_of (take d (drop a facts))
up_to facts a d = ap (sum_by len_of) (take-add a d facts) ∙ sum_by-append len_of (take a facts) (take d (drop a facts))

-- the offset of a unit is that of an earlier one plus the bytes between
pub offsets_add : (r : RecordingData) (a b : ℕ) → a ≤ b → offset_at r b ≡ offset_at r a + bytes_between r.facts a b
offsets_add r a b up =
    let whole : a + (b - a) ≡ b = omega arith in
    let sum = up_to r.facts a (b - a) in
    let moved : sum_by len_of (take b r.facts) ≡ sum_by len_of (take a r.facts) + bytes_between r.facts a b =
    ap (λ n. sum_by len_of (take n r.facts)) (sym whole) ∙ sum in
    omega (arith, moved)

-- between a unit and an earlier one there are no bytes
none_between : (facts : List Facts) (a b : ℕ) → b ≤ a → bytes_between facts a b ≡ 0
none_between facts a b down = ap (λ n. sum_by len_of (take n (drop a facts))) (let none : b - a ≡ 0 = omega arith in none)

-- the bytes between two units are the difference of their offsets
pub bytes_are_offsets : (r : RecordingData) (a b : ℕ) → bytes_between r.facts a b ≡ offset_at r b - offset_at r a
bytes_are_offsets r a b = elim (cases_lt a b) [
  | inl up ↦ (let sum = offsets_add r a b (omega arith) in omega arith)
  | inr down ↦ (
      let sum = offsets_add r b a down in
      let none = none_between r.facts a b down in
      omega arith
      )
]
