-- Cached live playlists.
use Rattle.std.specs.{Prelude.{◌≡◌, ◌≤◌, ℕ, All, List, [], ◌∷◌, length, Option, Some, None, option_and_then}, declared.sync.Arc.Arc}
use Rattle.hls_core_laws.specs.State.{State}
use Rattle.hls_playlists.specs.declared.media_uris.MediaUris.{MediaUris}
use Rattle.hls_api.specs.{Playlists.live_text, declared.playlist_cache.CachedPlaylist.CachedPlaylist}

-- the state for which playlists were cached, if there is one
abbrev pub noted_state : {A B : Type 0} → List (Arc State A × B) → Option State
noted_state [] = None
noted_state ((s, n) ∷ others) = Some s.value

-- the text of a rendition's live playlist in that state
abbrev pub live_text_in : Option State → MediaUris → ℕ → Option (List ℕ)
live_text_in source uris rendition = option_and_then (λ s. live_text uris s rendition) source

-- the cached text is that of its rendition's live playlist in the state
abbrev pub IsListOf : Option State → CachedPlaylist → Type 0
IsListOf source kept = live_text_in source kept.uris kept.rendition ≡ Some kept.text.items

-- the version is the number of events of the state, if there is one
abbrev pub HasVersion : Option State → ℕ → Type 0
HasVersion source version = (s : State) → source ≡ Some s → version ≡ length s.log

-- the version and all cached playlists are those of the state
abbrev pub AreListsOf : Option State → ℕ → List CachedPlaylist → Type 0
AreListsOf source version lists = HasVersion source version × All (IsListOf source) lists

-- two states of one channel have the same configuration and events, so the same playlists
pub record HaveSameLists (a s : State) : Type 0 where
  pub config : s.config ≡ a.config
  pub log : s.log ≡ a.log
  pub texts : (uris : MediaUris) (r : ℕ) → live_text uris s r ≡ live_text uris a r

-- the noted state has at most as many events as s; if it has as many, both have the same playlists
abbrev pub HasSameListsBefore : Option State → State → Type 0
HasSameListsBefore source s = (a : State) → source ≡ Some a → (length a.log ≤ length s.log) × (length a.log ≡ length s.log → HaveSameLists a s)
