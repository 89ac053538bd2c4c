-- The law of the replies to the paths that a state lists.
use Rattle.std.specs.Prelude.{◌≡◌, ℕ, ◌+◌, ◌-◌, List, Some, slice_get}
use Rattle.hls_m3u8.specs.declared.playlist.ByteRange.{ByteRange}
use Rattle.hls_m3u8.specs.declared.playlist.MediaSegment.{MediaSegment}
use Rattle.hls_m3u8.specs.Playlist.{Playlist}
use Rattle.hls_http.specs.declared.range_spec.RangeSpec.TheVariants.{All}
use Rattle.hls_http.specs.declared.response_parts.Status.TheVariants.{Done}
use Rattle.hls_core_laws.specs.Base.{run_text}
use Rattle.hls_core_laws.specs.State.{State}
use Rattle.hls_core_laws.specs.IsState.{IsState}
use Rattle.hls_playlists_laws.specs.PathLists.{path_list_of, segment_path}
use Rattle.hls_api.specs.Players.{init_answer, segment_answer}

-- the path of a range, whose reply in a state is 200 with all of the range
pub record IsAnsweredPath (s : State) (r : ℕ) (uri : List ℕ) : Type 0 where
  pub range : ByteRange
  pub is : uri ≡ segment_path (run_text s.config.base.run) r (Some range)
  pub done : (segment_answer s s.config.base.run r range.offset (range.offset + range.length - 1) All).status ≡ Done

-- each path that a state lists is answered with 200 in that state
abbrev pub ListedPathsAreAnswered : Type 0
ListedPathsAreAnswered = (s : State) (r : ℕ) (list : Playlist) (k : ℕ) (x : MediaSegment) → IsState s → path_list_of s r ≡ Some list →
    slice_get list.segments k ≡ Some x → IsAnsweredPath s r x.uri

-- if a state has a playlist by paths for a rendition, that rendition's init section is answered with 200
abbrev pub ListedInitsAreAnswered : Type 0
ListedInitsAreAnswered = (s : State) (r : ℕ) (list : Playlist) → IsState s → path_list_of s r ≡ Some list →
    (init_answer s s.config.base.run r All).status ≡ Done
