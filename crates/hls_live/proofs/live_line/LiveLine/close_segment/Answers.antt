-- The segment is allowed, so it is short, and its sums and marks fit their bounds; the line with it is sound (`closed-sound`).
use Rattle.std.proofs.Common.{◌≡◌, true, Some, length, arith, sym, ap, subst}
use Rattle.hls_places_laws.specs.declared.line.live_segment.LiveSegment.{LiveSegment}
use Rattle.hls_places_laws.specs.Line.Steps.{is_allowed}
use Rattle.hls_places_laws.specs.Line.Lengths.{length_in}
use Rattle.hls_places_laws.specs.Line.Live.{Live}
use Rattle.hls_live.proofs.Keeps.{allowed-short, are-aligned, closed-sound, last-few, last-small}
use Rattle.hls_live.proofs.live_line.LiveLine.close_segment.Goals as goal

pub push_segment-requires-clause-aligned : goal.push_segment-requires-clause-aligned
push_segment-requires-clause-aligned c = are-aligned _ _ c.self.invariant.kept

pub push_segment-requires-clause-few : goal.push_segment-requires-clause-few
push_segment-requires-clause-few c =
    let first = ap (λ (x : Live). x.removed) c.self.view_is in
    let few = ap (λ (x : Live). length x.progress.line.segments) c.self.view_is in
    last-few _ c.self.inside.kept c.self.invariant.kept (omega (arith, first, few, c.requires.room))

pub push_segment-requires-clause-past : goal.push_segment-requires-clause-past
push_segment-requires-clause-past c =
    let first = ap (λ (x : Live). x.removed) c.self.view_is in
    let few = ap (λ (x : Live). length x.progress.line.segments) c.self.view_is in
    last-small _ c.self.inside.kept c.self.invariant.kept (omega (arith, first, few, c.requires.room))

pub push_segment-requires-clause-short : goal.push_segment-requires-clause-short
push_segment-requires-clause-short c r =
    let allowed = subst (λ (x : Live). is_allowed x.line_goal c.args.start.now.place c.args.to.now ≡ true) (sym c.self.view_is) c.requires.reached in
    let short = allowed-short c.self.inside.line_goal c.args.start.now.place c.args.to.now c.self.invariant.target allowed r in
    omega (arith, short, ap (length_in r) c.in_ok-segment.ensures)

pub invariant_of-result : goal.invariant_of-result
invariant_of-result c =
    let allowed = subst (λ (x : Live). is_allowed x.line_goal c.args.start.now.place c.args.to.now ≡ true) (sym c.self.view_is) c.requires.reached in
    let at = subst (λ (x : Live). x.progress.line.segment_start ≡ Some c.args.start.now) (sym c.self.view_is) c.requires.start in
    closed-sound c.self.inside c.args.start.now c.args.to.now c.in_ok-segment.segment _ _ c.self.invariant at allowed
    (ap (λ (s : LiveSegment). s.from) c.in_ok-segment.ensures) (ap (λ (s : LiveSegment). s.to) c.in_ok-segment.ensures)
    c.in_ok-push_segment.ensures c.in_ok-make_start.ensures
