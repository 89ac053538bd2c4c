-- The newest units of a recording, one by one, and bounds of their durations.
use Rattle.std.proofs.Common.{◌≡◌, ℕ, ◌+◌, ◌-◌, ◌^◌, ◌<◌, ◌≤◌, nat_lt, false, List, [], ◌∷◌, length, drop, get_or, Option, Some, None, IfSome, ap, sym, ◌∙◌, arith}
use Rattle.std.proofs.lemmas.Bool.Decides.{nat_tests}
use Rattle.std.proofs.lemmas.List.{drop_more, drop_all}
use Rattle.std.specs.List.{fold}
use Rattle.std.proofs.lemmas.Option.{slice_get_within, get_or_from_slice_get, slice_get-get_or}
use Rattle.std.specs.Prelude.{cond, slice_get, option_and_then, max}
use Rattle.hls_media_laws.specs.declared.track.Track.{Track}
use Rattle.hls_record.specs.RecordingData.{RecordingData, unit_at}
use Rattle.hls_codecs.specs.FrameRates.{IsModest, rate_of_range}
use Rattle.hls_codecs.specs.declared.sample_durations.DurationRange.{DurationRange}
use Rattle.hls_players_master.specs.Summaries.{and_unit, newest_units, rate_in_units}

not-below : (n floor : ℕ) → floor ≤ n → nat_lt n floor ≡ false
not-below n floor low = grind (arith, nat_tests)

-- from the floor on, unit n of a recording is found among its kept units
kept : (r : RecordingData) (n : ℕ) → r.floor ≤ n → unit_at r n ≡ slice_get r.units (n - r.floor)
kept r n low = ap (λ b. cond b None (slice_get r.units (n - r.floor))) (not-below n r.floor low)

-- a unit that is found is the first of the kept units from its number on
pub unit-next : (r : RecordingData) (n : ℕ) (unit : List ℕ) → r.floor ≤ n → Some unit ≡ unit_at r n → drop (n - r.floor) r.units ≡ unit ∷ drop (n + 1 - r.floor) r.units
unit-next r n unit low is =
    let at : slice_get r.units (n - r.floor) ≡ Some unit = sym (is ∙ kept r n low) in
    let small : n - r.floor < length r.units = slice_get_within r.units (n - r.floor) unit at in
    let next : n - r.floor + 1 ≡ n + 1 - r.floor = omega arith in
    drop_more r.units (n - r.floor) unit small
    ∙ ap (λ (x : List ℕ). x ∷ drop (n - r.floor + 1) r.units) (get_or_from_slice_get r.units (n - r.floor) unit unit at)
    ∙ ap (λ (k : ℕ). unit ∷ drop k r.units) next

-- each unit from the floor to the last one is found
pub unit-there : (r : RecordingData) (n : ℕ) → r.floor ≤ n → n < r.floor + length r.units → None ≡ unit_at r n → ⊥
unit-there r n low high none =
    let small : n - r.floor < length r.units = omega arith in
    let at : slice_get r.units (n - r.floor) ≡ Some (get_or r.units (n - r.floor) []) = slice_get-get_or r.units (n - r.floor) [] small in
    let missing : None ≡ slice_get r.units (n - r.floor) = none ∙ kept r n low in
    absurd (cc)

-- durations that at most eight units allow have a total of at most 2^96 ticks and a count of at most 2^48
pub modest-small : (k : ℕ) (o : Option DurationRange) → k ≤ 8 → IfSome o (λ r. IsModest k r) → IfSome o (λ r. (r.total ≤ 2 ^ 96) × (r.count ≤ 2 ^ 48))
modest-small k None few modest = modest
modest-small k (Some r) few modest = (omega (arith, modest.total), omega (arith, modest.count))

-- durations that k units allow are allowed by m units, if both numbers are equal
pub modest-more : (k m : ℕ) (o : Option DurationRange) → k ≡ m → IfSome o (λ r. IsModest k r) → IfSome o (λ r. IsModest m r)
modest-more k m o same modest = rw (sym same) modest

-- durations that at most eight units allow are allowed by 256
pub modest-all : (k : ℕ) (o : Option DurationRange) (r : DurationRange) → k ≤ 8 → o ≡ Some r → IfSome o (λ q. IsModest k q) → IsModest 256 r
modest-all k o r few is modest =
    let m : IsModest k r = rw is at modest in
    record { total = omega (arith, m.total); count = omega (arith, m.count); least = m.least; some = m.some }

-- the newest units are those from the floor on, or from the last eight on if that is later
pub newest-start : (r : RecordingData) (n count : ℕ) → count ≡ r.floor + length r.units → n ≡ max r.floor (count - 8) → drop (n - r.floor) r.units ≡ newest_units r.units
newest-start r n count all first =
    let at : n - r.floor ≡ length r.units - 8 = omega arith in
    ap (λ (k : ℕ). drop k r.units) at

-- after the last unit, the durations so far give the frame rate of the newest units
pub rate-end : (track : Track) (r : RecordingData) (n : ℕ) (range : Option DurationRange) → r.floor + length r.units ≤ n
    → fold (and_unit track) range (drop (n - r.floor) r.units) ≡ fold (and_unit track) None (newest_units r.units)
    → option_and_then (rate_of_range track.scale) range ≡ rate_in_units track r.units
unfolding rate_in_units
rate-end track r n range done before =
    let past : length r.units ≤ n - r.floor = omega arith in
    ap (option_and_then (rate_of_range track.scale)) (sym (ap (fold (and_unit track) range) (drop_all (n - r.floor) r.units past)) ∙ before)
