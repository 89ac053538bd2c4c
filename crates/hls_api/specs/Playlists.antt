-- The texts of a channel's playlists.
use Rattle.std.specs.Prelude.{ℕ, List, Option, option_map}
use Rattle.hls_core_laws.specs.State.{State}
use Rattle.hls_m3u8.specs.{Lines.media_text, Masters.master_text}
use Rattle.hls_playlists_laws.specs.Masters.{live_master}
use Rattle.hls_playlists.specs.declared.media_uris.MediaUris.{MediaUris}
use Rattle.hls_playlists.specs.MediaUris.{served_list_of}

-- the live playlist of a rendition, by ranges or by paths; none before a segment was closed
abbrev pub live_text : MediaUris → State → ℕ → Option (List ℕ)
live_text uris s rendition = option_map media_text (served_list_of uris s rendition)

-- the master playlist of the live playlists
abbrev pub live_master_text : State → List ℕ
live_master_text s = master_text (live_master s)
