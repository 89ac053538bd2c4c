-- Each byte adds seven bits to the length, which stay small enough, and one below 128 ends it (DescriptorLaws).
use Rattle.std.proofs.Common.{◌<◌, refl, sym, ◌∙◌, arith}
use Rattle.std.proofs.lemmas.List.{take_rest}
use Rattle.hls_codecs.proofs.DescriptorLaws.{length-end, length-cut, length-last, length-next, length-bound, length-small}
use Rattle.hls_codecs.proofs.aac.read_length.Goals as goal

pub returns-in_default : goal.returns-in_default
returns-in_default c = sym (length-cut c.bytes.left c.bytes.len c.bytes.rest.now c.in_default.len_below) ∙ c.bytes.invariant.value

pub overflow_mul-result : goal.overflow_mul-result
overflow_mul-result c = omega (arith, length-small c.bytes.len c.bytes.left (omega arith) c.bytes.invariant.bound)

pub overflow_add-result : goal.overflow_add-result
overflow_add-result c = omega (arith, length-small c.bytes.len c.bytes.left (omega arith) c.bytes.invariant.bound, c.if-first-lt128.true, c.from.ensures)

pub returns-then-first-lt128 : goal.returns-then-first-lt128
returns-then-first-lt128 c =
    rw (take_rest c.bytes.rest.now 1, c.from.ensures)
    (length-last c.bytes.left c.bytes.len _ c.bytes.rest.now (omega arith) c.in-len1-up.len_at_least refl c.if-first-lt128.true ∙ c.bytes.invariant.value)

pub overflow_mul-len : goal.overflow_mul-len
overflow_mul-len c = omega (arith, length-small c.bytes.len c.bytes.left (omega arith) c.bytes.invariant.bound)

pub overflow_add-len : goal.overflow_add-len
overflow_add-len c = omega (arith, length-small c.bytes.len c.bytes.left (omega arith) c.bytes.invariant.bound, c.from-in-bytes.ensures)

pub bytes-preserved : goal.bytes-preserved
bytes-preserved c =
    let low : c.from-in-bytes.result < 128 = omega (arith, c.from-in-bytes.ensures) in
    rw (take_rest c.bytes.rest.now 1)
    (record {
      value = rw c.from-in-bytes.ensures (length-next c.bytes.left c.bytes.len _ c.bytes.rest.now (omega arith) c.in-len1-up.len_at_least refl c.if-first-lt128.false ∙ c.bytes.invariant.value);
      few = omega (arith, c.bytes.invariant.few);
      bound = length-bound c.bytes.len c.from-in-bytes.result c.bytes.left (omega arith) c.bytes.invariant.few c.bytes.invariant.bound low;
    })

pub returns : goal.returns
returns c = sym (length-end c.bytes.left c.bytes.len c.bytes.rest.now (omega arith)) ∙ c.bytes.invariant.value
