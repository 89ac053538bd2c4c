-- The live playlists of an origin that began at a cut of another's live line, which continue those of the other: a handover.
use Rattle.std.specs.Prelude.{◌≡◌, ℕ, ◌+◌, ◌≤◌, ◌⊎◌, drop, take, Some, slice_get}
use Rattle.hls_media_laws.specs.FactLists.{total_bytes}
use Rattle.hls_check_tables.specs.Tables.{spot_in}
use Rattle.hls_places_laws.specs.declared.place.Place.{Place}
use Rattle.hls_places_laws.specs.Line.Lengths.{marks_in}
use Rattle.hls_places_laws.specs.Line.Origins.{segments_over}
use Rattle.hls_places_laws.specs.Line.FromCut.{IsCutOf}
use Rattle.hls_m3u8.specs.declared.playlist.ByteRange.{ByteRange}
use Rattle.hls_m3u8.specs.declared.playlist.MediaSegment.{MediaSegment}
use Rattle.hls_m3u8.specs.Playlist.{Playlist}
use Rattle.hls_core_laws.specs.Config.{without_base}
use Rattle.hls_core_laws.specs.Channel.{Lane}
use Rattle.hls_core_laws.specs.State.{State, channel}
use Rattle.hls_core_laws.specs.Places.{sources}
use Rattle.hls_core_laws.specs.Line.{line_goal_of}
use Rattle.hls_playlists_laws.specs.Origins.{LaneBegins}

-- the number of a cut's unit in a rendition
abbrev pub unit_at : Place → ℕ → ℕ
unit_at cut r = (spot_in cut.spots r).fragment

-- a rendition from unit n on
abbrev pub lane_from : ℕ → Lane → Lane
lane_from n l = record { init = l.init; size = l.size; facts = drop n l.facts; floor = l.floor; finished = l.finished }

-- two states of one configuration, but for what precedes. In each rendition, the recording of the second begins with the unit at a cut of the first's live
-- line, after n of its segments, and continues as the first's does: as far as both have come their units are the same. It doesn't
-- matter what has slid out or was trimmed, in which order units of different renditions came, or who sent them
pub record IsHandedOver (a b : State) (n : ℕ) (cut : Place) : Type 0 where
  pub config : without_base b.config ≡ without_base a.config
  pub is_cut : IsCutOf (line_goal_of a.config) (sources a) n cut
  pub each : (r : ℕ) (l m : Lane) → slice_get (channel a).lanes r ≡ Some l → slice_get (channel b).lanes r ≡ Some m →
      LaneBegins (lane_from (unit_at cut r) l) m ⊎ LaneBegins m (lane_from (unit_at cut r) l)

-- how many bytes of units precede the cut, and how many marks there are up to it, including that of the segment that begins there
abbrev pub bytes_before : Place → ℕ → Lane → ℕ
bytes_before cut r l = total_bytes (take (unit_at cut r) l.facts)

-- the number of marks in the first n + 1 segments of a state's line, including the removed ones
abbrev pub marks_to : State → ℕ → ℕ
marks_to a n = marks_in (n + 1) (segments_over (line_goal_of a.config) (sources a))

-- a range, shifted by a number of bytes
abbrev pub shifted_range : ℕ → ByteRange → ByteRange
shifted_range shift range = record { length = range.length; offset = shift + range.offset }

-- a segment of the first's playlist, and the same one of the second's: date, length and URI are equal, and the range has the same
-- length, shifted by a constant number of bytes
pub record IsShifted (shift : ℕ) (x y : MediaSegment) : Type 0 where
  pub date : y.date ≡ x.date
  pub us : y.us ≡ x.us
  pub uri : y.uri ≡ x.uri
  pub range : ByteRange
  pub here : y.range ≡ Some range
  pub there : x.range ≡ Some (shifted_range shift range)

-- the playlist of the first, and that of the second, which begins n segments later
pub record ContinuesAt (n mark_count shift : ℕ) (p q : Playlist) : Type 0 where
  pub target : q.target ≡ p.target
  pub map : q.map ≡ p.map
  -- segments whose media sequence numbers differ by n are the same; so are their marks, except that of the second's first segment
  pub segments : (j k : ℕ) (x y : MediaSegment) → slice_get p.segments j ≡ Some x → slice_get q.segments k ≡ Some y →
      p.media_sequence + j ≡ n + (q.media_sequence + k) → IsShifted shift x y × (1 ≤ q.media_sequence + k → y.mark ≡ x.mark)
  -- and once that segment is gone, the discontinuity sequence numbers differ by a constant
  pub marks : 1 ≤ q.media_sequence → p.media_sequence ≡ n + q.media_sequence →
      p.discontinuity_sequence ≡ mark_count + q.discontinuity_sequence
