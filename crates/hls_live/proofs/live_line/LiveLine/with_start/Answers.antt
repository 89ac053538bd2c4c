-- A new open place with an equal number of spots keeps the sums as they are (`opened-sound`).
use Rattle.std.proofs.Common.{◌≡◌, ◌<◌, true, Some, length, sym, subst}
use Rattle.hls_places_laws.specs.declared.place.Place.{Place}
use Rattle.hls_places_laws.specs.Line.Steps.{is_allowed}
use Rattle.hls_places_laws.specs.Line.Lengths.{renditions_of}
use Rattle.hls_places_laws.specs.Line.Live.{Live}
use Rattle.hls_live.proofs.Keeps.{opened-sound}
use Rattle.hls_live.proofs.live_line.LiveLine.with_start.Goals as goal

pub invariant_of-result : goal.invariant_of-result
invariant_of-result c =
    let start = c.args.start in
    opened-sound c.self.inside _ start c.args.best c.self.invariant c.in_ok-share.ensures c.requires.some
    (subst (λ (x : Live). 0 < length x.progress.line.segments → length start.place.spots ≡ renditions_of x.progress.line.segment_start)
    (sym c.self.view_is) c.requires.same)
    (subst (λ (x : Live). (b : Place) → c.args.best ≡ Some b → is_allowed x.line_goal start.place b ≡ true) (sym c.self.view_is) c.requires.best)
