-- The live playlists that players load: each range of the recording has a path of its own.
use Rattle.std.specs.Prelude.{◌≡◌, ℕ, ◌+◌, ◌-◌, List, [], ◌∷◌, ◌++◌, length, map, Option, Some, None, option_map, slice_get, codes}
use Rattle.std.specs.Fmt.{decimal}
use Rattle.hls_m3u8.specs.declared.playlist.ByteRange.{ByteRange}
use Rattle.hls_m3u8.specs.declared.playlist.InitSection.{InitSection}
use Rattle.hls_m3u8.specs.declared.playlist.MediaSegment.{MediaSegment}
use Rattle.hls_m3u8.specs.Playlist.{Playlist}
use Rattle.hls_core_laws.specs.Base.{run_text}
use Rattle.hls_core_laws.specs.State.{State}
use Rattle.hls_playlists_laws.specs.BasedLists.{based_list_of}

-- the folder of a rendition's media beside its playlist: `<run>/<r>/`
abbrev pub media_folder : List ℕ → ℕ → List ℕ
media_folder run r = run ++ 47 ∷ (decimal r ++ 47 ∷ [])

-- the first and the last byte of a range
abbrev pub range_text : ByteRange → List ℕ
range_text range = decimal range.offset ++ 45 ∷ decimal (range.offset + range.length - 1)

-- the path of a range in a folder. No segment of a live playlist is without a range
abbrev pub path_in : List ℕ → Option ByteRange → List ℕ
path_in folder None = []
path_in folder (Some range) = folder ++ (range_text range ++ codes ".m4s")

-- the path of a range of rendition r: `<run>/<r>/<first byte>-<last byte>.m4s`
abbrev pub segment_path : List ℕ → ℕ → Option ByteRange → List ℕ
segment_path run r range = path_in (media_folder run r) range

-- the init section of a folder
abbrev pub init_in : List ℕ → InitSection
init_in folder = record { uri = folder ++ codes "init.mp4"; range = None }

-- a segment under its path
abbrev pub segment_in : List ℕ → MediaSegment → MediaSegment
segment_in folder x = record { mark = x.mark; date = x.date; us = x.us; range = None; uri = path_in folder x.range }

-- a segment of rendition r under its path instead of its range
abbrev pub segment_by_path : List ℕ → ℕ → MediaSegment → MediaSegment
segment_by_path run r x = segment_in (media_folder run r) x

-- a playlist with paths instead of ranges
abbrev pub list_by_paths : List ℕ → ℕ → Playlist → Playlist
list_by_paths run r list = record {
  version = list.version;
  target = list.target;
  media_sequence = list.media_sequence;
  discontinuity_sequence = list.discontinuity_sequence;
  kind = list.kind;
  map = Some (init_in (media_folder run r));
  segments = map (segment_by_path run r) list.segments;
  ended = list.ended;
}

-- the path list of a rendition in a state
abbrev pub path_list_of : State → ℕ → Option Playlist
path_list_of s r = option_map (list_by_paths (run_text s.config.base.run) r) (based_list_of s r)

-- y is segment x under its path instead of its range
pub record IsByPath (run : List ℕ) (r : ℕ) (x y : MediaSegment) : Type 0 where
  pub mark : y.mark ≡ x.mark
  pub date : y.date ≡ x.date
  pub us : y.us ≡ x.us
  pub range : y.range ≡ None
  pub uri : y.uri ≡ segment_path run r x.range

-- playlists with the same numbers, and the same segments in order, under their ranges and under their paths
pub record AreByPaths (run : List ℕ) (r : ℕ) (p q : Playlist) : Type 0 where
  pub version : q.version ≡ p.version
  pub target : q.target ≡ p.target
  pub media_sequence : q.media_sequence ≡ p.media_sequence
  pub discontinuity_sequence : q.discontinuity_sequence ≡ p.discontinuity_sequence
  pub kind : q.kind ≡ p.kind
  pub ended : q.ended ≡ p.ended
  pub count : length q.segments ≡ length p.segments
  pub each : (k : ℕ) (x y : MediaSegment) → slice_get p.segments k ≡ Some x → slice_get q.segments k ≡ Some y → IsByPath run r x y
