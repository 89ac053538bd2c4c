-- A position past the end of a slice is one in the next slice, where the same bytes remain.
use Rattle.std.proofs.Common.{◌∙◌, ◌+◌, ◌-◌, ◌≤◌, [], get_or, length, ap, arith}
use Rattle.hls_io.{specs.Slices.rest_at, proofs.Places.{next_slice, next_there}}
use Rattle.hls_io.proofs.resource_range.locate_byte.Goals as goal

pub loop-len-preserved : goal.loop-len-preserved
loop-len-preserved g c =
    let slices = g.R.Resource.slices c.args.resource.now in
    let number = c.loop-len.number in
    let within = c.loop-len.within in
    let slice_len = c.loop-len.invariant.slice_len in
    let past : length (get_or slices number []) ≤ within = omega (arith, slice_len, c.loop-len-test.true) in
    record {
      rest = ap (λ n. rest_at slices (number + 1) (within - n)) slice_len ∙ next_slice slices number within past ∙ c.loop-len.invariant.rest;
      enough = omega (arith, slice_len, next_there slices number within past c.loop-len.invariant.enough);
      slice_len = ap length c.slice.ensures.bytes;
      few = c.loop-len.invariant.few;
      back = omega (arith, c.loop-len.invariant.back);
    }
