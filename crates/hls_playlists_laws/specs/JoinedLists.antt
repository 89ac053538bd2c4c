-- The playlists of a channel after a handover, as its players see them: the second's, with constants added. An edge computes them
-- from the second's playlist and the constants alone.
use Rattle.std.specs.Prelude.{◌≡◌, ℕ, zero, suc, ◌+◌, ◌*◌, ◌<◌, ◌≤◌, if◌then◌else◌, Bool, true, false, List, [], ◌∷◌, length, drop, option_map}
use Rattle.std.specs.List.{sum_by}
use Rattle.hls_places_laws.specs.declared.place.Place.{Place}
use Rattle.hls_places_laws.specs.declared.line.live_segment.LiveSegment as live_line
use Rattle.hls_places_laws.specs.Line.Lengths.{marks_in}
use Rattle.hls_places_laws.specs.Line.Origins.{segments_over}
use Rattle.hls_m3u8.specs.declared.playlist.MediaSegment.{MediaSegment}
use Rattle.hls_m3u8.specs.Playlist.{Playlist}
use Rattle.hls_core_laws.specs.Channel.{Lane}
use Rattle.hls_core_laws.specs.State.{State}
use Rattle.hls_core_laws.specs.Places.{sources}
use Rattle.hls_core_laws.specs.Line.{line_goal_of}
use Rattle.hls_playlists_laws.specs.LaterList.{length_us}
use Rattle.hls_playlists_laws.specs.Handovers.{bytes_before, shifted_range}

-- the constants of one rendition of the first, before the cut: segments, their marks, and bytes of units; and whether the segment
-- that begins at the cut has a mark there
pub record Offsets : Type 0 where
  pub segments : ℕ
  pub marks : ℕ
  pub marked : Bool
  pub bytes : ℕ

-- whether the first of some segments has a mark; no, if there is none
abbrev pub is_first_marked : List live_line.LiveSegment → Bool
is_first_marked [] = false
is_first_marked (segment ∷ rest) = segment.mark

-- what precedes a cut after n segments of the first's line, in one rendition
abbrev pub offsets_of : State → ℕ → Place → ℕ → Lane → Offsets
offsets_of a n cut rendition l = record {
  segments = n;
  marks = marks_in n (segments_over (line_goal_of a.config) (sources a));
  marked = is_first_marked (drop n (segments_over (line_goal_of a.config) (sources a)));
  bytes = bytes_before cut rendition l;
}

-- a segment with its range in the first's recording
abbrev pub shifted_segment : ℕ → MediaSegment → MediaSegment
shifted_segment bytes x = record { mark = x.mark; date = x.date; us = x.us; range = option_map (shifted_range bytes) x.range; uri = x.uri }

-- a segment with another mark
abbrev pub with_mark : Bool → MediaSegment → MediaSegment
with_mark mark x = record { mark = mark; date = x.date; us = x.us; range = x.range; uri = x.uri }

-- the second's segment with a media sequence number: its very first one gets the mark that it has in the first's playlist
abbrev pub joined_segment : Offsets → ℕ → MediaSegment → MediaSegment
joined_segment o zero x = with_mark o.marked (shifted_segment o.bytes x)
joined_segment o (suc number) x = shifted_segment o.bytes x

-- the second's segments, numbered from `number` on, each as it follows the first's
abbrev pub joined_segments : Offsets → ℕ → List MediaSegment → List MediaSegment
joined_segments o number [] = []
joined_segments o number (x ∷ rest) = joined_segment o number x ∷ joined_segments o (suc number) rest

-- how many marks the second doesn't count itself, in a playlist that begins at a media sequence number: that of its first segment,
-- once the segment is gone
abbrev pub marks_uncounted : Offsets → ℕ → ℕ
marks_uncounted o zero = 0
marks_uncounted o (suc number) = if o.marked then 1 else 0

-- the second's playlist, as it follows the first's
abbrev pub joined_list : Offsets → Playlist → Playlist
joined_list o q = record {
  version = q.version;
  target = q.target;
  media_sequence = o.segments + q.media_sequence;
  discontinuity_sequence = o.marks + q.discontinuity_sequence + marks_uncounted o q.media_sequence;
  kind = q.kind;
  map = q.map;
  segments = joined_segments o q.media_sequence q.segments;
  ended = q.ended;
}

-- when a playlist of the second's, which begins n segments later, may follow one of the first's: it begins neither before that one
-- nor after its end, it extends as far, if segments are removed it has three target durations, and if the first one has ended, it
-- ends at the same segment
pub record MayTakeOver (n : ℕ) (p q : Playlist) : Type 0 where
  pub begins : p.media_sequence ≤ n + q.media_sequence
  pub meets : n + q.media_sequence ≤ p.media_sequence + length p.segments
  pub is_as_far : p.media_sequence + length p.segments ≤ n + q.media_sequence + length q.segments
  pub long : p.media_sequence < n + q.media_sequence → q.ended ≡ false → 3 * q.target * 1000000 ≤ sum_by length_us q.segments
  pub ended : p.ended ≡ true →
      (q.ended ≡ true) × (n + q.media_sequence + length q.segments ≡ p.media_sequence + length p.segments)
