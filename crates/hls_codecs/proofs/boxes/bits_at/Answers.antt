-- The number is read from the highest bit on: each round appends one bit to the value, and after the last one no bit remains.
use Rattle.std.proofs.Common.{◌≡◌, arith}
use Rattle.hls_codecs.specs.Boxes.{bits_at}
use Rattle.hls_codecs.proofs.BitLaws.{bits-next, bits-end, bits-bound}
use Rattle.hls_codecs.proofs.boxes.bits_at.Goals as goal

pub loop-done-preserved : goal.loop-done-preserved
loop-done-preserved c = record {
  value = bits-next c.loop-done.value c.bit_at.result (bits_at c.args.count c.args.at c.args.bytes.now) c.args.count c.loop-done.done c.args.at c.args.bytes.now c.loop-done-test.true c.bit_at.ensures.value c.loop-done.invariant.value;
  bound = bits-bound c.loop-done.value c.bit_at.result c.loop-done.done c.loop-done.invariant.bound c.bit_at.ensures.bound;
}

pub returns-clause-value : goal.returns-clause-value
returns-clause-value c =
    let all : c.loop-done.done ≡ c.args.count = omega arith in
    bits-end c.loop-done.value (bits_at c.args.count c.args.at c.args.bytes.now) c.args.count c.loop-done.done c.args.at c.args.bytes.now all c.loop-done.invariant.value
