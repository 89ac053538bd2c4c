-- The dates of segments: they can be written, and they are the instants of the starts.
use Rattle.std.proofs.Common.{◌≡◌, ℕ, zero, suc, ℤ, pos, negsuc, ◌+◌, ◌*◌, ◌/◌, ◌^◌, ◌<◌, ◌≤◌, Bool, false, List, [], ◌∷◌, Option, Some, None, refl, sym, ap, arith, ◌∙◌}
use Rattle.std.specs.Prelude.{All, slice_get}
use Rattle.std.proofs.Math.Nat.{div-mul-le_self, mul-div_left}
use Rattle.std.proofs.lemmas.Int.{ints}
use Rattle.std.proofs.lemmas.List.Elements.{All-nil, All-cons, All-head, All-tail}
use Rattle.hls_instants.specs.Instants.{whole_milliseconds}
use Rattle.hls_check_tables.specs.declared.spot.Spot.{Spot}
use Rattle.hls_check_tables.specs.Tables.{Table, IsTable, IsPlaceOf, IsSpotInRange, spot_in, place_at}
use Rattle.hls_core_laws.specs.Config.{IsEpoch}
use Rattle.hls_m3u8.specs.declared.playlist.MediaSegment.{MediaSegment}
use Rattle.hls_m3u8.specs.HasText.{IsDate}
use Rattle.hls_playlists_laws.specs.Segments.{ResourceLayout, is_break, date_at, segment_between, plan_segments_from}
use Rattle.hls_playlists_laws.specs.SegmentLaws.{SegmentsAreDated, SegmentsAreUndated}

-- a place's start in a rendition is below 2^53, even if it has no spot there
pub spots_small : (place : List Spot) (r : ℕ) → All IsSpotInRange place → (spot_in place r).start < 2 ^ 53
spots_small [] r all = omega arith
spots_small (spot ∷ place) zero all = (All-head IsSpotInRange spot place all).start_small
spots_small (spot ∷ place) (suc r) all = spots_small place r (All-tail IsSpotInRange spot place all)

-- and so is that of every place of a list, or of a number past its end
pub places_small : (renditions : ℕ) (places : List (List Spot)) (p r : ℕ) → All (IsPlaceOf renditions) places → (spot_in (place_at places p) r).start < 2 ^ 53
places_small renditions [] p r all = omega arith
places_small renditions (place ∷ places) zero r all = spots_small place r (All-head (IsPlaceOf renditions) place places all).spots
places_small renditions (place ∷ places) (suc p) r all = places_small renditions places p r (All-tail (IsPlaceOf renditions) place places all)

-- each place of a table starts before 2^53 microseconds in each rendition
pub start_small : (t : Table) (p r : ℕ) → IsTable t → (spot_in (place_at t.places p) r).start < 2 ^ 53
start_small t p r valid = places_small t.renditions t.places p r valid.places

-- an instant from 1970 on, in whole milliseconds
pub whole_is : (n : ℕ) → whole_milliseconds (pos n) ≡ pos (n / 1000 * 1000)
whole_is n = refl

-- a date can be written
pub date_good : (epoch : Option ℤ) (us : ℕ) → IsEpoch epoch → us < 2 ^ 53 → IsDate (date_at epoch us)
date_good None us good small = tt
date_good (Some (negsuc n)) us good small = absurd (omega (arith, ints, good.0))
date_good (Some (pos n)) us good small =
    let whole : (n + us) / 1000 * 1000 ≤ n + us = div-mul-le_self (n + us) 1000 in
    let again : (n + us) / 1000 * 1000 / 1000 ≡ (n + us) / 1000 = mul-div_left ((n + us) / 1000) (omega arith) in
    ((omega (arith, ints), omega (arith, ints, good.1)), ap (λ (k : ℕ). pos (k * 1000)) (sym again))

-- segment k from place p along a plan has the date of its start, the plan's place k
dated_from : (cut : ResourceLayout) (places : List (List Spot)) (p : ℕ) (mark : Bool) (rest : List ℕ) (k q : ℕ) (segment : MediaSegment) →
    slice_get (p ∷ rest) k ≡ Some q → slice_get (plan_segments_from cut places p mark rest) k ≡ Some segment →
    segment.date ≡ date_at cut.epoch (spot_in (place_at places q) cut.rendition).start
dated_from cut places p mark [] k q segment at there = cc
dated_from cut places p mark (next ∷ rest) zero q segment at there =
    let same : p ≡ q = cc in
    let is : segment_between cut mark (place_at places p) (place_at places next) ≡ segment = cc in
    ap (λ (s : MediaSegment). s.date) (sym is) ∙ ap (λ (n : ℕ). date_at cut.epoch (spot_in (place_at places n) cut.rendition).start) same
dated_from cut places p mark (next ∷ rest) (suc k) q segment at there =
    dated_from cut places next (is_break (place_at places next)) rest k q segment at there

-- with an epoch, the date of each segment of a plan is the instant of its start
pub segments_are_dated : SegmentsAreDated
segments_are_dated places [] cut epoch k p segment known at there = cc
segments_are_dated places (first ∷ rest) cut epoch k p segment known at there =
    dated_from cut places first false rest k p segment at there
    ∙ ap (λ (e : Option ℤ). date_at e (spot_in (place_at places p) cut.rendition).start) known

-- without an epoch, no segment from place p along a plan has a date
undated_from : (cut : ResourceLayout) (places : List (List Spot)) (p : ℕ) (mark : Bool) (rest : List ℕ) → cut.epoch ≡ None →
    All (λ segment. segment.date ≡ None) (plan_segments_from cut places p mark rest)
undated_from cut places p mark [] unknown = All-nil (λ segment. segment.date ≡ None)
undated_from cut places p mark (next ∷ rest) unknown =
    All-cons (λ segment. segment.date ≡ None) (segment_between cut mark (place_at places p) (place_at places next))
    (plan_segments_from cut places next (is_break (place_at places next)) rest)
    (ap (λ (e : Option ℤ). date_at e (spot_in (place_at places p) cut.rendition).start) unknown)
    (undated_from cut places next (is_break (place_at places next)) rest unknown)

-- without an epoch, no segment of a plan has a date
pub segments_are_undated : SegmentsAreUndated
segments_are_undated places [] cut unknown = All-nil (λ segment. segment.date ≡ None)
segments_are_undated places (first ∷ rest) cut unknown = undated_from cut places first false rest unknown
