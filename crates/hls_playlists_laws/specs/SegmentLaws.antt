-- The laws of the segments of a plan.
use Rattle.std.specs.Prelude.{◌≡◌, ℕ, ◌+◌, ◌-◌, ◌<◌, ◌≤◌, ℤ, pos, ◌+ℤ◌, List, length, All, Some, None, slice_get}
use Rattle.std.specs.List.{concat}
use Rattle.hls_time.specs.Times.{Fits}
use Rattle.hls_instants.specs.Instants.{whole_milliseconds}
use Rattle.hls_media_laws.specs.FactLists.{total_bytes, recording_limit}
use Rattle.hls_check_tables.specs.declared.spot.Spot.{Spot}
use Rattle.hls_check_tables.specs.Tables.{Table, IsTable, spot_in, place_at}
use Rattle.hls_check_tables.specs.Plans.{IsPlan}
use Rattle.hls_core_laws.specs.Config.{IsEpoch}
use Rattle.hls_m3u8.specs.declared.playlist.MediaSegment.{MediaSegment}
use Rattle.hls_m3u8.specs.HasText.{IsSegment}
use Rattle.hls_playlists_laws.specs.Media.{joined_media}
use Rattle.hls_playlists_laws.specs.JobResource.{units_between, resource_of, HaveLengths}
use Rattle.hls_playlists_laws.specs.Segments.{ResourceLayout, plan_segments}

-- the number of a table's first fragment of a rendition
abbrev pub first_fragment : Table → ℕ → ℕ
first_fragment t r = (spot_in (place_at t.places 0) r).fragment

-- the number after that of a table's last fragment of a rendition
abbrev pub end_fragment : Table → ℕ → ℕ
end_fragment t r = (spot_in (place_at t.places (length t.places - 1)) r).fragment

-- the segments of a plan tile the units of the programme: their bytes, joined, are those units, each exactly once
abbrev pub SegmentsTileTheUnits : Type 0
SegmentsTileTheUnits = (t : Table) (plan : List ℕ) (cut : ResourceLayout) (head : List ℕ) (floor : ℕ) (units : List (List ℕ)) →
    IsPlan t plan → cut.rendition < t.renditions → cut.first ≡ first_fragment t cut.rendition →
    length head ≡ cut.init_length → floor ≤ cut.first → HaveLengths cut.facts floor units →
    joined_media (plan_segments cut t.places plan) (resource_of head floor units cut.first (end_fragment t cut.rendition)) ≡
    concat (units_between floor units cut.first (end_fragment t cut.rendition))

-- a segment's length, rounded to whole seconds, is at most the target duration
abbrev pub SegmentFits : ℕ → MediaSegment → Type 0
SegmentFits target segment = Fits segment.us target

-- the units of a rendition: each has bytes, and with the init section they have at most as many bytes as a recording may have
pub record AreUnits (cut : ResourceLayout) : Type 0 where
  pub some : All (λ f. 0 < f.len) cut.facts
  pub total : cut.init_length + total_bytes cut.facts ≤ recording_limit

-- each segment fits the target duration and can be written
abbrev pub SegmentsAreGood : Type 0
SegmentsAreGood = (t : Table) (plan : List ℕ) (cut : ResourceLayout) →
    IsTable t → IsPlan t plan → cut.rendition < t.renditions → AreUnits cut → IsEpoch cut.epoch → end_fragment t cut.rendition ≤ length cut.facts →
    All (SegmentFits t.goal.target) (plan_segments cut t.places plan) × All (IsSegment cut.uri) (plan_segments cut t.places plan)

-- if there is an epoch, each segment's date is the instant of its start in its rendition, rounded down to whole milliseconds
abbrev pub SegmentsAreDated : Type 0
SegmentsAreDated = (places : List (List Spot)) (plan : List ℕ) (cut : ResourceLayout) (epoch : ℤ) (k p : ℕ) (segment : MediaSegment) →
    cut.epoch ≡ Some epoch → slice_get plan k ≡ Some p → slice_get (plan_segments cut places plan) k ≡ Some segment →
    segment.date ≡ Some (whole_milliseconds (epoch +ℤ pos (spot_in (place_at places p) cut.rendition).start))

-- without an epoch, no segment has a date
abbrev pub SegmentsAreUndated : Type 0
SegmentsAreUndated = (places : List (List Spot)) (plan : List ℕ) (cut : ResourceLayout) →
    cut.epoch ≡ None → All (λ segment. segment.date ≡ None) (plan_segments cut places plan)
