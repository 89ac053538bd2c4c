-- After a range has advanced by some of its bytes, it has its earlier bytes without those.
use Rattle.std.proofs.Common.{◌∙◌, ◌-◌, ◌≤◌, length, take, drop, ap, arith}
use Rattle.hls_io.proofs.Places.{part_behind, part_length}
use Rattle.hls_io.proofs.resource_range.ResourceRange.advance.Goals as goal

pub returns-then-self-gt0 : goal.returns-then-self-gt0
returns-then-self-gt0 g c =
    let slices = g.R.Resource.slices c.self.inside.resource in
    let number = c.self.inside.number in
    let within = c.self.inside.within in
    let left = c.self.inside.left in
    let fits : c.args.count ≤ left = omega (arith, c.requires, ap length c.self.view_is, part_length slices number within left c.self.invariant.enough) in
    ap (take (left - c.args.count)) c.locate_byte-number.ensures.rest ∙ part_behind slices number within c.args.count left fits ∙ ap (drop c.args.count) c.self.view_is
