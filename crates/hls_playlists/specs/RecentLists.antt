-- Live playlists that show less than the line keeps: its last segments.
use Rattle.std.specs.Prelude.{◌≡◌, ℕ, zero, suc, ◌&&◌, nat_le, Bool, if◌then◌else◌, length, Option, Some, None}
use Rattle.hls_places_laws.specs.Line.Lengths.{is_long, remaining_length, renditions_of}
use Rattle.hls_places_laws.specs.Line.Live.{Live, segments_of}
use Rattle.hls_m3u8.specs.Playlist.{Playlist}
use Rattle.hls_core_laws.specs.State.{State}
use Rattle.hls_core_laws.specs.IsState.{IsState}
use Rattle.hls_core_laws.specs.Follows.{Follows}
use Rattle.hls_core_laws.specs.Line.{line}
use Rattle.hls_playlists_laws.specs.LaterList.{IsLater}
use Rattle.hls_playlists.specs.declared.media_uris.MediaUris.TheVariants.{Paths}
use Rattle.hls_playlists.specs.ShortLists.{shortened_list_of}

-- without the first n segments, the given number of microseconds is shown in rendition 0, and three target durations in each
abbrev pub shows_enough : ℕ → Live → ℕ → Bool
shows_enough us live n =
    nat_le us (remaining_length 0 (segments_of live) n) && is_long live.line_goal (renditions_of live.progress.line.segment_start) (segments_of live) n

-- the greatest such number up to another one, or 0
abbrev pub most_to : ℕ → Live → ℕ → ℕ
most_to us live zero = zero
most_to us live (suc n) = if shows_enough us live (suc n) then suc n else most_to us live n

-- how many segments aren't shown: as many as possible
abbrev pub hidden_count : ℕ → Live → ℕ
hidden_count us live = most_to us live (length (segments_of live))

-- the live playlist of a rendition by paths that shows the given number of microseconds
abbrev pub recent_list_of : ℕ → State → ℕ → Option Playlist
recent_list_of us s r = shortened_list_of Paths None (hidden_count us (line s)) s r

-- in a state that follows one with such a playlist there is one, which is valid as a later one
abbrev pub RecentListsFollow : Type 0
RecentListsFollow = (us : ℕ) (a b : State) (r : ℕ) (earlier : Playlist) → IsState a → Follows a b → recent_list_of us a r ≡ Some earlier →
    (later : Playlist) × (recent_list_of us b r ≡ Some later) × IsLater earlier later
