-- Before each round, the value so far, followed by the bits that remain, is the number. It is below 2 to the power of the bits so far.
use Rattle.std.proofs.Common.{◌≡◌, ◌+◌, ◌-◌, ◌*◌, ◌^◌, ◌<◌}
use Rattle.hls_codecs.specs.Boxes.{bits_at}
use Rattle.hls_codecs.proofs.boxes.bits_at.Given as goal

abbrev pub invariant-loop-done : goal.invariant-loop-done
invariant-loop-done l = record {
  value : l.value * 2 ^ (l.count - l.done) + bits_at (l.count - l.done) (l.at + l.done) l.bytes ≡ bits_at l.count l.at l.bytes;
  bound : l.value < 2 ^ l.done;
}
