-- The laws of playlists that start at a time and only grow.
use Rattle.std.specs.Prelude.{◌≡◌, ◌⊎◌, ℕ, Some}
use Rattle.hls_m3u8.specs.Playlist.{Playlist}
use Rattle.hls_core_laws.specs.State.{State}
use Rattle.hls_core_laws.specs.IsState.{IsState}
use Rattle.hls_core_laws.specs.Follows.{Follows}
use Rattle.hls_core_laws.specs.Line.{line}
use Rattle.hls_playlists_laws.specs.LaterList.{IsLater}
use Rattle.hls_playlists.specs.declared.start_time.StartTime.TheVariants.{Removed}
use Rattle.hls_playlists.specs.StartTimes.{list_since, start_in}

-- a playlist that is valid as a later one, and begins with the same segment
pub record HasGrown (p q : Playlist) : Type 0 where
  pub later : IsLater p q
  pub begins : q.media_sequence ≡ p.media_sequence

-- in a state that follows one with a playlist since a time, that playlist has grown, or its first segment was removed
abbrev pub ListsSinceGrow : Type 0
ListsSinceGrow = (us : ℕ) (a b : State) (r : ℕ) (earlier : Playlist) → IsState a → Follows a b → list_since us a r ≡ Some earlier →
    ((later : Playlist) × (list_since us b r ≡ Some later) × HasGrown earlier later) ⊎ (start_in us (line b) ≡ Removed)

-- once the first segment of a playlist since a time was removed, it stays removed in each later state
abbrev pub RemovedListsStayRemoved : Type 0
RemovedListsStayRemoved = (us : ℕ) (a b c : State) (r : ℕ) (earlier : Playlist) → IsState a → Follows a b → Follows b c → list_since us a r ≡ Some earlier →
    start_in us (line b) ≡ Removed → start_in us (line c) ≡ Removed
