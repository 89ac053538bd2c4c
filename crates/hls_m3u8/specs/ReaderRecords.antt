-- The values of tags, and the state after some lines of a media playlist (RFC 8216 section 4.3).

use Rattle.std.specs.Prelude.{ℕ, ℤ, Bool, List, Option}
use Rattle.hls_m3u8.specs.declared.playlist.PlaylistKind.{PlaylistKind}
use Rattle.hls_m3u8.specs.declared.playlist.ByteRange.{ByteRange}

-- a byte range whose offset may be omitted (RFC 8216 section 4.3.2.2)
pub record RangeTag : Type 0 where
  pub length : ℕ
  pub offset : Option ℕ

-- a range of a resource: that of EXT-X-MAP, or of the last segment
pub record UriRange : Type 0 where
  pub uri : List ℕ
  pub range : Option ByteRange

-- the attributes of EXT-X-MAP so far (RFC 8216 section 4.3.2.5)
pub record MapAttributes : Type 0 where
  pub uri : Option (List ℕ)
  pub range : Option ByteRange

-- the state after some lines: the playlist's tags, the next segment's tags, the last segment, and the number of segments
pub record TagState : Type 0 where
  pub version : Option ℕ
  pub target : Option ℕ
  pub media_sequence : Option ℕ
  pub discontinuity_sequence : Option ℕ
  pub kind : Option PlaylistKind
  pub map : Option UriRange
  pub ended : Bool
  pub us : Option ℕ
  pub range : Option RangeTag
  pub mark : Bool
  pub date : Option ℤ
  pub last : Option UriRange
  pub count : ℕ

-- the tags of the segment that a URI line completes
pub record SegmentTags : Type 0 where
  pub mark : Bool
  pub date : Option ℤ
  pub us : ℕ
  pub range : Option ByteRange
