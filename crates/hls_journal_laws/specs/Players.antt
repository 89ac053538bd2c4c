-- Players across a restart.
use Rattle.std.specs.Prelude.{◌≡◌, ℕ, ◌≤◌, Some, List, take, slice_get}
use Rattle.hls_core_laws.specs.declared.event.Event.{Event}
use Rattle.hls_core_laws.specs.Base.{bytes_before_base}
use Rattle.hls_core_laws.specs.Config.{ConfigData, IsConfig}
use Rattle.hls_core_laws.specs.Channel.{Lane}
use Rattle.hls_core_laws.specs.State.{State, HeldBytes, channel}
use Rattle.hls_core_laws.specs.IsState.{IsState}
use Rattle.hls_core_laws.specs.Runs.{first_state, replayed_state, AreFitting}
use Rattle.hls_core_laws.specs.Follows.{Follows}
use Rattle.hls_m3u8.specs.Playlist.{Playlist}
use Rattle.hls_playlists_laws.specs.LaterList.{IsLater}
use Rattle.hls_playlists_laws.specs.BasedLists.{list_from, based_list_of}
use Rattle.hls_playlists_laws.specs.PathLists.{path_list_of}
use Rattle.hls_playlists_laws.specs.NamedUnits.{KeptUnits, named_in, unit_bytes}
use Rattle.hls_playlists_laws.specs.PathLaws.{NamesOrTrimmed}
use Rattle.hls_journal_laws.specs.Replays.{AreNew}
use Rattle.hls_journal_laws.specs.declared.stored_media.StoredMedia.{StoredMedia}
use Rattle.hls_journal_laws.specs.Floors.{highest_floor}
use Rattle.hls_journal_laws.specs.Restored.{Restores}
use Rattle.hls_journal_laws.specs.Written.{AreWritten}

-- the state after the first events that came
abbrev pub state_after : ConfigData → List (ℕ × Event) → ℕ → State
state_after config past count = replayed_state (first_state config) (take count past)

-- the journal has the records of the first `count` events that came, all of them new, and with the stored media they restore a state
pub record IsRestart (config : ConfigData) (media : List StoredMedia) (bodies : List (List ℕ)) (past : List (ℕ × Event)) (count : ℕ) (s : State) : Type 0 where
  pub configured : IsConfig config
  pub fits : AreFitting (first_state config) past
  pub new : AreNew (first_state config) (take count past)
  pub written : AreWritten (highest_floor bodies) media (first_state config) bodies (take count past)
  pub restores : Restores (highest_floor bodies) media (first_state config) bodies s

-- the restored state is the one that these events led to, and follows the state after each prefix of them
abbrev pub RestoredStatesFollow : Type 0
RestoredStatesFollow =
    (config : ConfigData) (media : List StoredMedia) (bodies : List (List ℕ)) (past : List (ℕ × Event)) (j k : ℕ) (s : State)
    → IsRestart config media bodies past k s → j ≤ k
    → (s ≡ state_after config past k) × IsState (state_after config past j) × Follows (state_after config past j) s

-- if a live list was sent of the state after j events, that of the restored state is valid as a later one
abbrev pub ListsContinue : Type 0
ListsContinue =
    (config : ConfigData) (media : List StoredMedia) (bodies : List (List ℕ)) (past : List (ℕ × Event)) (j k r : ℕ) (s : State) (earlier : Playlist)
    → IsRestart config media bodies past k s → j ≤ k → list_from config.base (state_after config past j) r ≡ Some earlier
    → (later : Playlist) × (list_from config.base s r ≡ Some later) × IsLater earlier later

-- if a live list by paths was sent of the state after j events, that of the restored state is valid as a later one
abbrev pub PathListsContinue : Type 0
PathListsContinue =
    (config : ConfigData) (media : List StoredMedia) (bodies : List (List ℕ)) (past : List (ℕ × Event)) (j k r : ℕ) (s : State) (earlier : Playlist)
    → IsRestart config media bodies past k s → j ≤ k → path_list_of (state_after config past j) r ≡ Some earlier
    → (later : Playlist) × (path_list_of s r ≡ Some later) × IsLater earlier later

-- a path that named units in the state after j events names the same ones with the same bytes after the restart, or the first is trimmed
abbrev pub PathsNameTheSame : Type 0
PathsNameTheSame =
    (config : ConfigData) (media : List StoredMedia) (bodies : List (List ℕ)) (past : List (ℕ × Event)) (j k : ℕ) (s : State)
    (before r : ℕ) (l m : Lane) (h g : HeldBytes) (first last from to : ℕ) → IsRestart config media bodies past k s → j ≤ k
    → slice_get (channel (state_after config past j)).lanes r ≡ Some l → slice_get (state_after config past j).bytes r ≡ Some h
    → slice_get (channel s).lanes r ≡ Some m → slice_get s.bytes r ≡ Some g
    → named_in before (state_after config past j).config.target l first last ≡ KeptUnits from to
    → NamesOrTrimmed before (state_after config past j).config.target m first last from to
    × (named_in before (state_after config past j).config.target m first last ≡ KeptUnits from to → unit_bytes m g from to ≡ unit_bytes l h from to)
