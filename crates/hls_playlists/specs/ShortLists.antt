-- Live playlists without their first segments.
use Rattle.std.specs.Prelude.{ℕ, ◌+◌, take, drop, Option, option_map}
use Rattle.std.specs.List.{count_by}
use Rattle.hls_m3u8.specs.declared.playlist.PlaylistKind.{PlaylistKind}
use Rattle.hls_m3u8.specs.Playlist.{Playlist}
use Rattle.hls_core_laws.specs.State.{State}
use Rattle.hls_playlists_laws.specs.LaterList.{is_marked}
use Rattle.hls_playlists.specs.declared.media_uris.MediaUris.{MediaUris}
use Rattle.hls_playlists.specs.MediaUris.{served_list_of}

-- a playlist without its first n segments, which it counts as removed, with their marks
abbrev pub shortened_list : Option PlaylistKind → ℕ → Playlist → Playlist
shortened_list kind n list = record {
  version = list.version;
  target = list.target;
  media_sequence = list.media_sequence + n;
  discontinuity_sequence = list.discontinuity_sequence + count_by is_marked (take n list.segments);
  kind = kind;
  map = list.map;
  segments = drop n list.segments;
  ended = list.ended;
}

-- the live playlist of a rendition without its first n segments
abbrev pub shortened_list_of : MediaUris → Option PlaylistKind → ℕ → State → ℕ → Option Playlist
shortened_list_of uris kind n s r = option_map (shortened_list kind n) (served_list_of uris s r)
