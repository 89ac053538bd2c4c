-- A byte after the init section is in the unit that the recording has at the later offset.
use Rattle.std.proofs.Common.{arith, refl}
use Rattle.hls_catchup.proofs.Slices.{before_total, is_kept_byte, nothing_past, place_is}
use Rattle.hls_catchup.proofs.resource.locate_resource_byte.Goals as goal

pub returns-then-bytes_between-at : goal.returns-then-bytes_between-at
returns-then-bytes_between-at c =
    nothing_past c.args.recording.now c.args.first c.args.end c.args.at c.offset-init_length.result c.bytes_between.result c.count.ensures.valid c.requires.kept
    c.offset-init_length.ensures.value (omega (arith, c.if-at-init_length.false)) c.bytes_between.ensures.value (omega (arith, c.if-bytes_between-at.true))

pub find_unit-unit-requires-clause-low : goal.find_unit-unit-requires-clause-low
find_unit-unit-requires-clause-low c = is_kept_byte c.args.recording.now c.args.first c.offset.result _ c.requires.kept c.offset.ensures.value

pub find_unit-unit-requires-clause-high : goal.find_unit-unit-requires-clause-high
find_unit-unit-requires-clause-high c =
    before_total c.args.recording.now c.args.first c.args.end c.offset.result _ c.bytes_between.result c.offset.ensures.value c.bytes_between.ensures.value
    (omega (arith, c.if-bytes_between-at.false))

pub overflow_sub-result : goal.overflow_sub-result
overflow_sub-result c =
    (place_is c.args.recording.now c.args.first c.args.end c.args.at c.offset-init_length.result c.offset.result c.find_unit-unit.result _ c.bytes_between.result
    c.count.ensures.valid c.requires.kept c.offset-init_length.ensures.value (omega (arith, c.if-at-init_length.false)) c.bytes_between.ensures.value
    (omega (arith, c.if-bytes_between-at.false)) c.offset.ensures.value c.find_unit-unit.ensures refl).0

pub returns : goal.returns
returns c =
    (place_is c.args.recording.now c.args.first c.args.end c.args.at c.offset-init_length.result c.offset.result c.find_unit-unit.result c.offset-2.result c.bytes_between.result
    c.count.ensures.valid c.requires.kept c.offset-init_length.ensures.value (omega (arith, c.if-at-init_length.false)) c.bytes_between.ensures.value
    (omega (arith, c.if-bytes_between-at.false)) c.offset.ensures.value c.find_unit-unit.ensures c.offset-2.ensures.value).1
