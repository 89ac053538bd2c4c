-- The length of the bytes still to read, after those read, is that of the descriptor.
use Rattle.std.proofs.Common.{◌≡◌, ◌-◌, ◌<◌, ◌≤◌, ◌^◌}
use Rattle.hls_codecs.specs.Audio.{descriptor_length}
use Rattle.hls_codecs.proofs.aac.read_length.Given as goal

abbrev pub invariant-bytes : goal.invariant-bytes
invariant-bytes l = record {
  value : descriptor_length l.left l.len l.rest ≡ descriptor_length 4 0 l.fn.bytes;
  few : l.left ≤ 4;
  bound : l.len < 128 ^ (4 - l.left);
}

abbrev pub decreases-bytes : goal.decreases-bytes
decreases-bytes l = l.left
