-- Where a time is in the live line: the segment from which a playlist begins that starts there.
use Rattle.std.specs.Prelude.{ℕ, suc, ◌-◌, ◌&&◌, ◌||◌, nat_le, nat_lt, Bool, false, if◌then◌else◌, List, [], ◌∷◌, length, Option, Some, None, slice_get, ⊤, ◌<◌}
use Rattle.hls_places_laws.specs.declared.place.Place.{Place}
use Rattle.hls_places_laws.specs.declared.line.live_segment.LiveSegment as live_line
use Rattle.hls_places_laws.specs.Order.{time_of}
use Rattle.hls_places_laws.specs.Line.Live.{Live, front_of, has_ended, segments_of}
use Rattle.hls_m3u8.specs.declared.playlist.PlaylistKind.TheVariants.{Event}
use Rattle.hls_m3u8.specs.Playlist.{Playlist}
use Rattle.hls_core_laws.specs.State.{State}
use Rattle.hls_core_laws.specs.Line.{line}
use Rattle.hls_playlists.specs.declared.start_time.StartTime.{StartTime}
use Rattle.hls_playlists.specs.declared.start_time.StartTime.TheVariants.{After, Before, Kept, Removed}
use Rattle.hls_playlists.specs.declared.media_uris.MediaUris.TheVariants.{PathsAbove}
use Rattle.hls_playlists.specs.ShortLists.{shortened_list_of}

-- how many of the first segments start at a time or before it
abbrev pub count_started : ℕ → List live_line.LiveSegment → ℕ
count_started us [] = 0
count_started us (x ∷ rest) = if nat_le (time_of x.from) us then suc (count_started us rest) else 0

-- a segment ends after the time
abbrev pub is_ending_after : ℕ → Option live_line.LiveSegment → Bool
is_ending_after us None = false
is_ending_after us (Some x) = nat_lt us (time_of x.to)

-- the last of some segments ends after the time
abbrev pub ends_after : ℕ → List live_line.LiveSegment → Bool
ends_after us segments = is_ending_after us (slice_get segments (length segments - 1))

-- the last of the segments that started is the one at the time: another one follows, or the line ended after the time
abbrev pub is_known : ℕ → Live → ℕ → Bool
is_known us live count = nat_lt count (length (segments_of live)) || (has_ended live && ends_after us (segments_of live))

-- the line begins at the time or before it
abbrev pub is_begun_by : ℕ → Option Place → Bool
is_begun_by us None = false
is_begun_by us (Some front) = nat_le (time_of front) us

-- where a time is in a live line, by how many of its kept segments started
abbrev pub start_by : ℕ → Live → ℕ → StartTime
start_by us live count =
    if nat_lt 0 count then (if is_known us live count then Kept (count - 1) else After)
    else (if nat_lt 0 live.removed then Removed
    else (if is_begun_by us (front_of live) then After else Before))

-- where a time in microseconds is in a live line
abbrev pub start_in : ℕ → Live → StartTime
start_in us live = start_by us live (count_started us (segments_of live))

-- if a time is in a kept segment, that is one of the first `count`
abbrev pub IsWithin : StartTime → ℕ → Type 0
IsWithin (Kept n) count = n < count
IsWithin start count = ⊤

-- the playlist that starts at a time and only grows, by paths
abbrev pub list_since_start : StartTime → State → ℕ → Option Playlist
list_since_start (Kept n) s r = shortened_list_of PathsAbove (Some Event) n s r
list_since_start start s r = None

-- the playlist of a rendition that starts at a time in microseconds and only grows; none unless a kept segment has that time
abbrev pub list_since : ℕ → State → ℕ → Option Playlist
list_since us s r = list_since_start (start_in us (line s)) s r
