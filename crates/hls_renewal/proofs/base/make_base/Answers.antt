-- The sums don't overflow: the numbers of a base are limited, and so are a cut's segments and marks.
use Rattle.std.proofs.Common.{arith}
use Rattle.hls_renewal.proofs.Bits.{bit_small}
use Rattle.hls_renewal.proofs.LineCuts.{small_cut}
use Rattle.hls_renewal.proofs.base.make_base.Goals as goal

pub overflow_add-segments : goal.overflow_add-segments
overflow_add-segments c =
    omega (arith, c.segments.ensures.value, c.segments.ensures.valid.segments, (small_cut c.args.snapshot.now c.args.cut.now c.config.ensures.valid c.requires).0)

pub overflow_add-marks : goal.overflow_add-marks
overflow_add-marks c =
    omega (arith, c.marks.ensures.value, c.marks.ensures.valid.marks, c.marks.ensures.valid.segments, (small_cut c.args.snapshot.now c.args.cut.now c.config.ensures.valid c.requires).1)

pub overflow_add-marks-2 : goal.overflow_add-marks-2
overflow_add-marks-2 c =
    omega (
      arith,
      c.marks.ensures.value,
      c.marks.ensures.valid.marks,
      c.marks.ensures.valid.segments,
      (small_cut c.args.snapshot.now c.args.cut.now c.config.ensures.valid c.requires).1,
      c.from-first.ensures,
      bit_small c.if-marked.from,
    )
