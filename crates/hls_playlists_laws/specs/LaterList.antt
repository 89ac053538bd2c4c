-- What may change between two live playlists of one rendition, the second served later (RFC 8216 section 6.2.2).
use Rattle.std.specs.Prelude.{◌≡◌, ◌≢◌, ℕ, ◌+◌, ◌*◌, ◌≤◌, Bool, true, false, List, [], ◌++◌, length}
use Rattle.std.specs.List.{sum_by, count_by}
use Rattle.hls_m3u8.specs.declared.playlist.MediaSegment.{MediaSegment}
use Rattle.hls_m3u8.specs.Playlist.{Playlist}

-- whether a segment has a mark
abbrev pub is_marked : MediaSegment → Bool
is_marked segment = segment.mark

-- a segment's length in microseconds
abbrev pub length_us : MediaSegment → ℕ
length_us segment = segment.us

-- playlist b is valid as a later version of playlist a: it changes only what a reload may change
pub record IsLater (a b : Playlist) : Type 0 where
  pub version : b.version ≡ a.version
  pub target : b.target ≡ a.target
  pub map : b.map ≡ a.map
  -- segments are removed from the front and appended at the end, and none changes
  pub evicted : List MediaSegment
  pub appended : List MediaSegment
  pub segments : a.segments ++ appended ≡ evicted ++ b.segments
  -- each removed segment is counted, and each removed mark
  pub media_sequence : b.media_sequence ≡ a.media_sequence + length evicted
  pub discontinuity_sequence : b.discontinuity_sequence ≡ a.discontinuity_sequence + count_by is_marked evicted
  -- a playlist that has ended stays ended, and nothing is appended
  pub ended : a.ended ≡ true → (b.ended ≡ true) × (appended ≡ [])
  -- if segments were removed and the playlist hasn't ended, three target durations are left
  pub long : evicted ≢ [] → b.ended ≡ false → 3 * b.target * 1000000 ≤ sum_by length_us b.segments
