-- Unit n is kept, and byte `at` is in it. So the bytes from there to the unit's end are the piece at `at`.
use Rattle.std.proofs.Common.{length, arith, ap}
use Rattle.std.proofs.lemmas.List.{take_rest}
use Rattle.hls_record.specs.Model.{model_of}
use Rattle.hls_record.proofs.Places.{unit_length, unit_read, unit_there, piece_there}
use Rattle.hls_record.proofs.recording.Recording.piece_in_unit.Goals as goal

pub slice_bounds-result-count : goal.slice_bounds-result-count
slice_bounds-result-count c =
    let there = rw (← c.self.view_is) at c.requires in
    let offset = rw (← c.self.view_is) at c.offset.ensures.value in
    let read = unit_read c.self.inside c.args.n c.in-Some.unit.now there.low c.in-Some.ensures in
    let long = unit_length (model_of c.self.inside) c.args.n c.in-Some.unit.now c.self.invariant.valid there.low read in
    let same = ap length c.as_slice-unit.ensures in
    omega (arith, there.from, there.until, long, offset, same)

pub slice_bounds-result-start : goal.slice_bounds-result-start
slice_bounds-result-start c =
    let there = rw (← c.self.view_is) at c.requires in
    let offset = rw (← c.self.view_is) at c.offset.ensures.value in
    let read = unit_read c.self.inside c.args.n c.in-Some.unit.now there.low c.in-Some.ensures in
    let long = unit_length (model_of c.self.inside) c.args.n c.in-Some.unit.now c.self.invariant.valid there.low read in
    let same = ap length c.as_slice-unit.ensures in
    omega (arith, there.from, there.until, long, offset, same)

pub unreachable-requires : goal.unreachable-requires
unreachable-requires c =
    let there = rw (← c.self.view_is) at c.requires in
    unit_there c.self.inside c.args.n c.self.invariant there.low there.high c.in-None.ensures

pub returns : goal.returns
returns c =
    let there = rw (← c.self.view_is) at c.requires in
    let offset = rw (← c.self.view_is) at c.offset.ensures.value in
    let read = unit_read c.self.inside c.args.n c.in-Some.unit.now there.low c.in-Some.ensures in
    rw (take_rest, offset, c.as_slice-unit.ensures, ← c.self.view_is)
    (piece_there (model_of c.self.inside) c.args.at c.args.n c.in-Some.unit.now c.self.invariant.valid there read)
