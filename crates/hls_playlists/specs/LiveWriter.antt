-- The text of a live playlist, written in parts.
use Rattle.std.specs.Prelude.{ℕ, ◌+◌, ◌<◌, ◌≤◌, ◌^◌, ◌⊎◌, List, [], ◌++◌, length, map, drop, Option, Some, None}
use Rattle.hls_record.specs.RecordingData.{RecordingData}
use Rattle.hls_places_laws.specs.Line.Live.{has_ended, segments_of}
use Rattle.hls_m3u8.specs.declared.playlist.MediaSegment.{MediaSegment}
use Rattle.hls_m3u8.specs.declared.playlist.PlaylistKind.{PlaylistKind}
use Rattle.hls_m3u8.specs.Playlist.{Playlist}
use Rattle.hls_m3u8.specs.PlaylistForms.{live_list}
use Rattle.hls_m3u8.specs.HasText.{IsDate}
use Rattle.hls_m3u8.specs.Lines.{text_of_lines, segment_lines, all_segment_lines, end_lines}
use Rattle.hls_core_laws.specs.State.{State}
use Rattle.hls_core_laws.specs.Line.{line}
use Rattle.hls_playlists_laws.specs.Live.{live_list_of, live_uri, live_media_segment}
use Rattle.hls_playlists_laws.specs.Segments.{ResourceLayout}
use Rattle.hls_places_laws.specs.declared.line.live_segment.LiveSegment as live_line
use Rattle.hls_playlists_laws.specs.JobPlaylists.{job_layout}
use Rattle.hls_core_laws.specs.Base.{BaseData}
use Rattle.hls_playlists.specs.declared.media_uris.MediaUris.{MediaUris}
use Rattle.hls_playlists.specs.MediaUris.{served_list_of, served_segment}
use Rattle.hls_playlists.specs.declared.live_writer.LivePlaylistWriter.TheInside.{Inside}

-- the live playlist over a recording, with these segments
abbrev pub list_over_segments : State → RecordingData → List ℕ → List MediaSegment → Playlist
list_over_segments s recorded uri segments =
    live_list s.config.target (line s).removed (line s).breaks uri (length recorded.head) segments (has_ended (line s))

-- a state's live playlist over a recording
abbrev pub live_list_by : State → ℕ → RecordingData → Playlist
live_list_by s r recorded = list_over_segments s recorded (live_uri r) (map (live_media_segment (job_layout s.config.epoch recorded r (live_uri r) 0)) (segments_of (line s)))

-- a playlist with the head of one without its first n segments, which have this number of marks
abbrev pub shortened_head : Option PlaylistKind → ℕ → ℕ → Playlist → Playlist
shortened_head kind n marks list = record {
  version = list.version;
  target = list.target;
  media_sequence = list.media_sequence + n;
  discontinuity_sequence = list.discontinuity_sequence + marks;
  kind = kind;
  map = list.map;
  segments = list.segments;
  ended = list.ended;
}

-- a segment of the live line can be written: its length is below 2^53 microseconds, and its date has a text
abbrev pub CanBeWritten : ResourceLayout → live_line.LiveSegment → Type 0
CanBeWritten c x = ((live_media_segment c x).us < 2 ^ 53) × IsDate (live_media_segment c x).date

-- the text of a segment as it is served
abbrev pub served_segment_text : MediaUris → BaseData → ℕ → ℕ → MediaSegment → List ℕ
served_segment_text uris base r number x = text_of_lines (segment_lines (served_segment uris base r number x))

-- the rest of a playlist's text after its head and its first k segments
abbrev pub rest_of_list : Option Playlist → ℕ → List ℕ
rest_of_list None k = []
rest_of_list (Some list) k = text_of_lines (all_segment_lines (drop k list.segments) ++ end_lines list.ended)

-- the rest of the text of a state's served playlist after its head and its first k segments
abbrev pub rest_of_live_list : MediaUris → State → ℕ → ℕ → List ℕ
rest_of_live_list uris s rendition k = rest_of_list (served_list_of uris s rendition) k

-- a playlist has at least that many segments
abbrev pub ListHasSegments : Option Playlist → ℕ → Type 0
ListHasSegments None k = ⊥
ListHasSegments (Some list) k = k ≤ length list.segments

-- a state's live playlist has at least k segments
abbrev pub HasSegments : State → ℕ → ℕ → Type 0
HasSegments s rendition k = ListHasSegments (live_list_of s rendition) k

-- k segments are all of a playlist, or at least the requested number
abbrev pub ListReaches : Option Playlist → ℕ → ℕ → Type 0
ListReaches None stop k = ⊥
ListReaches (Some list) stop k = (stop ≤ k) ⊎ (length list.segments ≤ k)

-- k segments are all of a state's live playlist, or at least the requested number
abbrev pub ReachesStop : State → ℕ → ℕ → ℕ → Type 0
ReachesStop s rendition stop k = ListReaches (live_list_of s rendition) stop k

-- the whole text: what is written, and the rest
abbrev pub full_text : Inside → List ℕ
full_text t = t.text.items ++ rest_of_live_list t.uris t.snapshot.value t.rendition t.written

-- the writer has written no more segments than its live playlist has
abbrev pub IsSoundWriter : Inside → Type 0
IsSoundWriter t = HasSegments t.snapshot.value t.rendition t.written
