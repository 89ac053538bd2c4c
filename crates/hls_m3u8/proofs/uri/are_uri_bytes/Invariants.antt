-- Before each round, the bytes so far are allowed in a URI: all bytes are exactly if the remaining ones are.
use Rattle.std.proofs.Common.{◌≡◌, drop}
use Rattle.std.specs.List.{list_all}
use Rattle.hls_m3u8.specs.Uri.{is_uri_byte}
use Rattle.hls_m3u8.proofs.uri.are_uri_bytes.Given as goal

-- the bytes so far are valid
abbrev pub invariant-loop-byte : goal.invariant-loop-byte
invariant-loop-byte l = list_all is_uri_byte (drop l.byte-index l.bytes) ≡ list_all is_uri_byte l.bytes
