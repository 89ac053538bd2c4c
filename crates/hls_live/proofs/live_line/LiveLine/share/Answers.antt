-- The shared segments are the same, so they fit the open place, and the line with them is the same line.
use Rattle.std.proofs.Common.{◌≡◌, IfOk, [], None, refl, sym, ap, subst, ◌∙◌}
use Rattle.hls_places_laws.specs.Line.Lengths.{renditions_of}
use Rattle.hls_places_laws.specs.Line.Live.{Live}
use Rattle.hls_live.specs.declared.kept_segments.KeptSegments.{KeptSegments}
use Rattle.hls_live.specs.Model.{AreKept}
use Rattle.hls_live.specs.Advances.{with_kept}
use Rattle.hls_live.proofs.live_line.LiveLine.share.Goals as goal

pub with_kept-requires : goal.with_kept-requires
with_kept-requires c =
    let kept = c.in_ok-share.field-0 in
    let i = c.self.inside in
    record {
      kept = subst (λ (x : Live). AreKept (renditions_of x.progress.line.segment_start) kept) c.self.view_is
          (subst (λ (k : KeptSegments). AreKept (renditions_of i.segment_start) k) (sym c.in_ok-share.ensures) c.self.invariant.kept);
      no_segment = subst (λ (x : Live). x.progress.line.segment_start ≡ None → kept.segments.items ≡ []) c.self.view_is
          (subst (λ (k : KeptSegments). i.segment_start ≡ None → k.segments.items ≡ []) (sym c.in_ok-share.ensures) c.self.invariant.no_segment);
    }

pub returns : goal.returns
returns c =
    let same = subst (λ (x : Live). with_kept x c.self.inside.kept ≡ x) c.self.view_is refl in
    subst (λ (z : Live). IfOk c.with_kept.result (λ line. line ≡ z)) (ap (with_kept c.args.self.now) c.in_ok-share.ensures ∙ same)
    c.with_kept.ensures
