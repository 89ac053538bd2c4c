-- If there are kept segments, the sums at the segment before the next number are the last ones of the list.
use Rattle.std.proofs.Common.{◌≡◌, ◌-◌, length, arith, sym, ap, ◌∙◌}
use Rattle.std.specs.Prelude.{slice_get}
use Rattle.hls_live.proofs.kept_segments.KeptSegments.last.Goals as goal

pub returns : goal.returns
returns c =
    let k = c.args.self.now in
    let number : c.next.result - 1 - k.segments.first ≡ length k.sums.items - 1 = omega (arith, c.next.ensures.value, c.requires.count) in
    sym (ap (slice_get k.sums.items) (sym number) ∙ c.sums_at.ensures)
