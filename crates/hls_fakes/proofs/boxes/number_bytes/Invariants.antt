-- Before each round, the bytes so far and those of the remaining numbers are the bytes of all numbers: four for each number so far.
use Rattle.std.proofs.Common.{◌≡◌, ◌++◌, ◌*◌, drop, length}
use Rattle.hls_fakes.specs.Boxes.{number_bytes}
use Rattle.hls_fakes.proofs.boxes.number_bytes.Given as goal

abbrev pub invariant-loop-number : goal.invariant-loop-number
invariant-loop-number l = record {
  rest : l.bytes.items ++ number_bytes (drop l.number-index l.numbers) ≡ number_bytes l.numbers;
  len : length l.bytes.items ≡ 4 * l.number-index;
}
