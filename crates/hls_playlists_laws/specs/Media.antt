-- The media of a playlist, for a client that reads the segments' ranges (RFC 8216 sections 4.3.2.2 and 6.3.3).
use Rattle.std.specs.Prelude.{ℕ, List, [], ◌∷◌, ◌++◌, take, drop, Option, Some, None}
use Rattle.hls_m3u8.specs.declared.playlist.ByteRange.{ByteRange}
use Rattle.hls_m3u8.specs.declared.playlist.MediaSegment.{MediaSegment}

-- the n bytes of a resource from the range's offset on; without a range, all of it
abbrev pub range_bytes : List ℕ → Option ByteRange → List ℕ
range_bytes resource None = resource
range_bytes resource (Some range) = take range.length (drop range.offset resource)

-- the bytes of each segment in order, joined
abbrev pub joined_media : List MediaSegment → List ℕ → List ℕ
joined_media [] resource = []
joined_media (segment ∷ segments) resource = range_bytes resource segment.range ++ joined_media segments resource
