-- The live playlist of a rendition in a state (RFC 8216 sections 4.3 and 6.2.2).
use Rattle.std.specs.Prelude.{ℕ, ◌+◌, ℤ, Bool, nat_lt, if◌then◌else◌, List, ◌++◌, length, map, Option, Some, None, slice_get, codes}
use Rattle.std.specs.Fmt.{decimal}
use Rattle.hls_places_laws.specs.declared.line.live_segment.LiveSegment as live_line
use Rattle.hls_places_laws.specs.Line.Live.{Live, segments_of, has_ended}
use Rattle.hls_m3u8.specs.declared.playlist.MediaSegment.{MediaSegment}
use Rattle.hls_m3u8.specs.Playlist.{Playlist}
use Rattle.hls_m3u8.specs.PlaylistForms.{live_list}
use Rattle.hls_playlists_laws.specs.Segments.{ResourceLayout, segment_between}
use Rattle.hls_core_laws.specs.Channel.{Lane}
use Rattle.hls_core_laws.specs.State.{State, channel}
use Rattle.hls_core_laws.specs.Line.{line}

-- the URI of a rendition's recording: its init section, then all units ever accepted
abbrev pub live_uri : ℕ → List ℕ
live_uri rendition = codes "/media/" ++ decimal rendition ++ codes ".mp4"

-- the resource of a rendition's segments: ranges are in its whole recording
abbrev pub live_layout : Option ℤ → ℕ → Lane → ResourceLayout
live_layout epoch rendition l = record {
  rendition = rendition;
  uri = live_uri rendition;
  init_length = l.size;
  first = 0;
  facts = l.facts;
  epoch = epoch;
}

-- a segment of the live line in one rendition: its mark, the date of its start there, its length there, and as its range the units
-- from its start's fragment to the one before its end's
abbrev pub live_media_segment : ResourceLayout → live_line.LiveSegment → MediaSegment
live_media_segment cut segment = segment_between cut segment.mark segment.from.spots segment.to.spots

-- the live playlist of a rendition: the kept segments, and how many segments and marks were removed
abbrev pub live_list_over : Option ℤ → ℕ → Lane → Live → Playlist
live_list_over epoch rendition l live =
    live_list live.line_goal.target live.removed live.breaks (live_uri rendition) l.size
    (map (live_media_segment (live_layout epoch rendition l)) (segments_of live)) (has_ended live)

-- a segment has been closed
abbrev pub has_closed_segment : Live → Bool
has_closed_segment live = nat_lt 0 (live.removed + length (segments_of live))

-- the live playlist of a rendition by its lane; there is none without a lane, or before a segment has been closed
abbrev pub live_list_in : Option ℤ → ℕ → Option Lane → Live → Option Playlist
live_list_in epoch rendition None live = None
live_list_in epoch rendition (Some l) live = (if has_closed_segment live then Some (live_list_over epoch rendition l live) else None)

-- the live playlist of a rendition in a state: there is one for each rendition of the channel, once a segment has been closed
abbrev pub live_list_of : State → ℕ → Option Playlist
live_list_of s rendition = live_list_in s.config.epoch rendition (slice_get (channel s).lanes rendition) (line s)
