-- Other kept segments that fit the open place leave the line sound (`held-sound`).
use Rattle.std.proofs.Common.{◌≡◌, None, [], sym, subst}
use Rattle.hls_places_laws.specs.Line.Lengths.{renditions_of}
use Rattle.hls_places_laws.specs.Line.Live.{Live}
use Rattle.hls_live.specs.Model.{AreKept}
use Rattle.hls_live.proofs.Keeps.{held-sound}
use Rattle.hls_live.proofs.live_line.LiveLine.with_kept.Goals as goal

pub invariant_of-result : goal.invariant_of-result
invariant_of-result c =
    held-sound c.self.inside c.args.kept _ _ c.self.invariant
    (subst (λ (x : Live). AreKept (renditions_of x.progress.line.segment_start) c.args.kept) (sym c.self.view_is) c.requires.kept)
    (subst (λ (x : Live). x.progress.line.segment_start ≡ None → c.args.kept.segments.items ≡ []) (sym c.self.view_is) c.requires.no_segment)
    c.in_ok-share_start.ensures c.in_ok-share_place.ensures
