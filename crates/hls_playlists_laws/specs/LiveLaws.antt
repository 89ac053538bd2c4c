-- The laws of live playlists.
use Rattle.std.specs.Prelude.{◌≡◌, ℕ, Some, length, slice_get}
use Rattle.hls_places_laws.specs.declared.place.Place.{Place}
use Rattle.hls_m3u8.specs.Playlist.{Playlist}
use Rattle.hls_m3u8.specs.HasText.{HasText}
use Rattle.hls_core_laws.specs.Channel.{Lane}
use Rattle.hls_core_laws.specs.State.{State, channel}
use Rattle.hls_core_laws.specs.IsState.{IsState}
use Rattle.hls_core_laws.specs.Follows.{Follows}
use Rattle.hls_playlists_laws.specs.Live.{live_list_of}
use Rattle.hls_playlists_laws.specs.LaterList.{IsLater}
use Rattle.hls_playlists_laws.specs.Origins.{IngestSameUnits, AgreeOnOverlap}
use Rattle.hls_playlists_laws.specs.Handovers.{IsHandedOver, bytes_before, marks_to, ContinuesAt}
use Rattle.hls_playlists_laws.specs.JoinedLists.{Offsets, offsets_of, joined_list, MayTakeOver}

-- the live playlists of a state can be written
abbrev pub LiveListsHaveTexts : Type 0
LiveListsHaveTexts = (s : State) (rendition : ℕ) (list : Playlist) → IsState s → live_list_of s rendition ≡ Some list → HasText list

-- in a state that follows one with a live playlist there is a playlist, which is valid as a later one
abbrev pub LiveListsFollow : Type 0
LiveListsFollow = (a b : State) (rendition : ℕ) (earlier : Playlist) → IsState a → Follows a b → live_list_of a rendition ≡ Some earlier →
    (later : Playlist) × (live_list_of b rendition ≡ Some later) × IsLater earlier later

-- two states of one log (both are followed by one state) with equally many events have the same live playlists
abbrev pub LiveListsStay : Type 0
LiveListsStay = (a b later : State) → Follows a later → Follows b later → length b.log ≡ length a.log → (rendition : ℕ) →
    live_list_of b rendition ≡ live_list_of a rendition

-- live playlists of two origins that are fed by the same encoders agree
abbrev pub LiveListsAgree : Type 0
LiveListsAgree = (a b : State) (rendition : ℕ) (p q : Playlist) → IsState a → IsState b → IngestSameUnits a b →
    live_list_of a rendition ≡ Some p → live_list_of b rendition ≡ Some q → AgreeOnOverlap p q

-- the live playlist of a channel that continues another one at a cut of its live line continues that one's
abbrev pub LiveListsContinueAtHandover : Type 0
LiveListsContinueAtHandover = (a b : State) (n : ℕ) (cut : Place) (rendition : ℕ) (l : Lane) (p q : Playlist) → IsState a → IsState b →
    IsHandedOver a b n cut → slice_get (channel a).lanes rendition ≡ Some l → live_list_of a rendition ≡ Some p →
    live_list_of b rendition ≡ Some q → ContinuesAt n (marks_to a n) (bytes_before cut rendition l) p q

-- after a playlist of the first's, the second's with the constants added is valid as a later one
abbrev pub LiveListsJoinAtHandover : Type 0
LiveListsJoinAtHandover = (a b : State) (n : ℕ) (cut : Place) (rendition : ℕ) (l : Lane) (p q : Playlist) → IsState a → IsState b →
    IsHandedOver a b n cut → slice_get (channel a).lanes rendition ≡ Some l → live_list_of a rendition ≡ Some p →
    live_list_of b rendition ≡ Some q → MayTakeOver n p q → IsLater p (joined_list (offsets_of a n cut rendition l) q)

-- with any constants added, the playlist of a state that follows is valid as a later one
abbrev pub LiveListsStayJoined : Type 0
LiveListsStayJoined = (a b : State) (o : Offsets) (rendition : ℕ) (earlier : Playlist) → IsState a → Follows a b →
    live_list_of a rendition ≡ Some earlier →
    (later : Playlist) × (live_list_of b rendition ≡ Some later) × IsLater (joined_list o earlier) (joined_list o later)
