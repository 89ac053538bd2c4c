-- Live playlists of two origins that are fed by the same encoders.
use Rattle.std.specs.Prelude.{◌≡◌, ℕ, ◌+◌, ◌⊎◌, true, List, [], ◌++◌, Some, slice_get}
use Rattle.hls_media_laws.specs.declared.facts.Facts.{Facts}
use Rattle.hls_m3u8.specs.declared.playlist.MediaSegment.{MediaSegment}
use Rattle.hls_m3u8.specs.Playlist.{Playlist}
use Rattle.hls_core_laws.specs.Config.{without_base}
use Rattle.hls_core_laws.specs.Channel.{Lane}
use Rattle.hls_core_laws.specs.State.{State, channel}

-- for one rendition: the same init section, and units that are a prefix of the other's; a finished one has all of them
pub record LaneBegins (l m : Lane) : Type 0 where
  pub init : m.init ≡ l.init
  pub size : m.size ≡ l.size
  pub more : List Facts
  pub facts : m.facts ≡ l.facts ++ more
  pub over : l.finished ≡ true → (m.finished ≡ true) × (more ≡ [])

-- states of one configuration, but for what precedes. In each rendition the units of one are a prefix of the other's. It doesn't matter in which order units
-- of different renditions came, what has slid out or was trimmed, or who sent them
pub record IngestSameUnits (a b : State) : Type 0 where
  pub config : without_base b.config ≡ without_base a.config
  pub each : (r : ℕ) (l m : Lane) → slice_get (channel a).lanes r ≡ Some l → slice_get (channel b).lanes r ≡ Some m → LaneBegins l m ⊎ LaneBegins m l

-- playlists between which a player may switch at any reload (RFC 8216 section 6.2.2)
pub record AgreeOnOverlap (p q : Playlist) : Type 0 where
  pub target : q.target ≡ p.target
  pub map : q.map ≡ p.map
  -- segments with the same media sequence number are the same: mark, date, length, range and URI
  pub segments : (j k : ℕ) (x y : MediaSegment) → slice_get p.segments j ≡ Some x → slice_get q.segments k ≡ Some y →
      p.media_sequence + j ≡ q.media_sequence + k → x ≡ y
  -- and equal media sequence numbers have equal discontinuity sequence numbers
  pub marks : p.media_sequence ≡ q.media_sequence → p.discontinuity_sequence ≡ q.discontinuity_sequence
