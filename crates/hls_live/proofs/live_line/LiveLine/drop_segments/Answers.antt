-- The sums at the segments that are left, and the marks of the removed ones, fit the shorter line (`without-kept`), which is the defined one
-- (`slid-is`).
use Rattle.std.proofs.Common.{◌≡◌, IfOk, [], None, length, arith, ap, subst}
use Rattle.hls_places_laws.specs.Line.Lengths.{renditions_of}
use Rattle.hls_places_laws.specs.Line.Live.{Live, without_front}
use Rattle.hls_live.specs.Model.{AreKept}
use Rattle.hls_live.specs.Advances.{with_kept}
use Rattle.hls_live.proofs.Keeps.{are-aligned, without-kept, slid-is}
use Rattle.hls_live.proofs.live_line.LiveLine.drop_segments.Goals as goal

pub drop_segments-requires-clause-aligned : goal.drop_segments-requires-clause-aligned
drop_segments-requires-clause-aligned c = are-aligned _ _ c.self.invariant.kept

pub with_kept-requires : goal.with_kept-requires
with_kept-requires c =
    let kept = c.in_ok-drop_segments.field-0 in
    let i = c.self.inside in
    let few = ap (λ (x : Live). length x.progress.line.segments) c.self.view_is in
    record {
      kept = subst (λ (x : Live). AreKept (renditions_of x.progress.line.segment_start) kept) c.self.view_is
          (without-kept _ c.args.n i.kept kept c.self.invariant.kept c.requires.some (omega (arith, few, c.requires.within)) c.in_ok-drop_segments.ensures);
      no_segment = subst (λ (x : Live). x.progress.line.segment_start ≡ None → kept.segments.items ≡ []) c.self.view_is
          (λ e. absurd (omega (arith, few, c.requires.some, c.requires.within, ap length (c.self.invariant.no_segment e))));
    }

pub returns : goal.returns
returns c =
    let kept = c.in_ok-drop_segments.field-0 in
    let few = ap (λ (x : Live). length x.progress.line.segments) c.self.view_is in
    let is = slid-is c.self.inside c.args.n kept c.self.invariant c.requires.some (omega (arith, few, c.requires.within)) c.in_ok-drop_segments.ensures in
    subst (λ (z : Live). IfOk c.with_kept.result (λ line. line ≡ z))
    (subst (λ (x : Live). with_kept x kept ≡ without_front c.args.n x) c.self.view_is is) c.with_kept.ensures
