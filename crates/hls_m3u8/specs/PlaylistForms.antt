-- The two forms of playlists that are written, each over one resource with its init section at the start.

use Rattle.std.specs.Prelude.{ℕ, Bool, true, List, Some, None}
use Rattle.hls_m3u8.specs.declared.playlist.PlaylistKind.TheVariants.{Vod}
use Rattle.hls_m3u8.specs.declared.playlist.MediaSegment.{MediaSegment}
use Rattle.hls_m3u8.specs.Playlist.{Playlist}
use Rattle.hls_m3u8.specs.Written.{init_at}

-- a VOD playlist, over the resource of this URI with an init section of this length
abbrev pub vod_list : ℕ → List ℕ → ℕ → List MediaSegment → Playlist
vod_list target uri init_length segments = record {
  version = 6;
  target = target;
  media_sequence = 0;
  discontinuity_sequence = 0;
  kind = Some Vod;
  map = Some (init_at uri init_length);
  segments = segments;
  ended = true;
}

-- the same for a live playlist, with the numbers of segments and marks that were removed
abbrev pub live_list : ℕ → ℕ → ℕ → List ℕ → ℕ → List MediaSegment → Bool → Playlist
live_list target media_sequence discontinuity_sequence uri init_length segments ended = record {
  version = 6;
  target = target;
  media_sequence = media_sequence;
  discontinuity_sequence = discontinuity_sequence;
  kind = None;
  map = Some (init_at uri init_length);
  segments = segments;
  ended = ended;
}
