-- By the class of the place (`reach-is`): each class gives the line that the definition has in its case.
use Rattle.std.proofs.Common.{◌≡◌, IfOk, None, Some, length, sym, ap, subst, ◌∙◌}
use Rattle.hls_places_laws.specs.declared.place.Place.{Place}
use Rattle.hls_places_laws.specs.declared.line.segment_start.SegmentStart.{SegmentStart}
use Rattle.hls_places_laws.specs.Line.Progress.{progress_with}
use Rattle.hls_places_laws.specs.Line.Lengths.{renditions_of}
use Rattle.hls_places_laws.specs.Line.Live.{Live}
use Rattle.hls_live.proofs.Cited.{past-count}
use Rattle.hls_live.specs.declared.place_fit.PlaceFit.TheVariants.{Skipped, TooFar, Reachable, LongEnough}
use Rattle.hls_live.specs.PlaceFit.{fit_of}
use Rattle.hls_live.specs.Advances.{with_progress}
use Rattle.hls_live.proofs.Moves.{reach-is, progress-skipped, progress-far, progress-further, progress-enough}
use Rattle.hls_live.proofs.live_line.LiveLine.with_place_or_restart.Goals as goal

pub with_start-requires-in-TooFar-clause-same : goal.with_start-requires-in-TooFar-clause-same
with_start-requires-in-TooFar-clause-same c some =
    let start = c.in-Some.start in
    let place = c.args.place.now in
    let at = subst (λ (x : Live). x.progress.line.segment_start ≡ Some start) c.self.view_is c.in-Some.is in
    let is = reach-is c.self.inside.line_goal start.place place in
    let reach : fit_of c.self.inside.line_goal start.place place ≡ TooFar = sym c.classify_place.ensures ∙ c.in-TooFar.is in
    let past = is.past (λ e. let never : TooFar ≡ Skipped = sym reach ∙ e in absurd (cc)) in
    ap (λ (o : SegmentStart). length o.place.spots) c.in_ok-make_start-in-TooFar.ensures
    ∙ (past-count start.place place past ∙ sym (ap renditions_of at))

pub returns-in-Skipped : goal.returns-in-Skipped
returns-in-Skipped c =
    let live = c.args.self.now in
    let start = c.in-Some.start in
    let place = c.args.place.now in
    let at = subst (λ (x : Live). x.progress.line.segment_start ≡ Some start) c.self.view_is c.in-Some.is in
    let past = (reach-is c.self.inside.line_goal start.place place).skipped (sym c.classify_place.ensures ∙ c.in-Skipped.is) in
    subst (λ (z : Live). IfOk c.share.result (λ line. line ≡ z)) (sym (progress-skipped live start place at past)) c.share.ensures

pub returns-in_ok-make_start-in-TooFar : goal.returns-in_ok-make_start-in-TooFar
returns-in_ok-make_start-in-TooFar c =
    let live = c.args.self.now in
    let start = c.in-Some.start in
    let place = c.args.place.now in
    let at = subst (λ (x : Live). x.progress.line.segment_start ≡ Some start) c.self.view_is c.in-Some.is in
    let reach : fit_of live.line_goal start.place place ≡ TooFar =
    subst (λ (x : Live). fit_of x.line_goal start.place place ≡ TooFar) c.self.view_is (sym c.classify_place.ensures ∙ c.in-TooFar.is) in
    let is = reach-is live.line_goal start.place place in
    let past = is.past (λ e. let never : TooFar ≡ Skipped = sym reach ∙ e in absurd (cc)) in
    let same = ap (λ (o : SegmentStart). with_progress live (progress_with live.progress.line.segments o None)) c.in_ok-make_start-in-TooFar.ensures
    ∙ sym (progress-far live start place at past (is.far reach)) in
    subst (λ (z : Live). IfOk c.with_start-in-TooFar.result (λ line. line ≡ z)) same c.with_start-in-TooFar.ensures

pub returns-in_ok-share-in-Reachable-2 : goal.returns-in_ok-share-in-Reachable-2
returns-in_ok-share-in-Reachable-2 c =
    let live = c.args.self.now in
    let start = c.in-Some.start in
    let place = c.args.place.now in
    let at = subst (λ (x : Live). x.progress.line.segment_start ≡ Some start) c.self.view_is c.in-Some.is in
    let reach : fit_of live.line_goal start.place place ≡ Reachable =
    subst (λ (x : Live). fit_of x.line_goal start.place place ≡ Reachable) c.self.view_is (sym c.classify_place.ensures ∙ c.in-Reachable.is) in
    let is = reach-is live.line_goal start.place place in
    let past = is.past (λ e. let never : Reachable ≡ Skipped = sym reach ∙ e in absurd (cc)) in
    let same = ap (λ (o : SegmentStart). with_progress live (progress_with live.progress.line.segments o (Some c.in_ok-share-in-Reachable-2.field-0)))
    c.in_ok-share-in-Reachable.ensures
    ∙ (ap (λ (p : Place). with_progress live (progress_with live.progress.line.segments start (Some p))) c.in_ok-share-in-Reachable-2.ensures
    ∙ sym (progress-further live start place at past (is.further reach).0 (is.further reach).1)) in
    subst (λ (z : Live). IfOk c.with_start-in-Reachable.result (λ line. line ≡ z)) same c.with_start-in-Reachable.ensures

pub returns-in-LongEnough : goal.returns-in-LongEnough
returns-in-LongEnough c =
    let live = c.args.self.now in
    let start = c.in-Some.start in
    let place = c.args.place.now in
    let at = subst (λ (x : Live). x.progress.line.segment_start ≡ Some start) c.self.view_is c.in-Some.is in
    let reach : fit_of live.line_goal start.place place ≡ LongEnough =
    subst (λ (x : Live). fit_of x.line_goal start.place place ≡ LongEnough) c.self.view_is (sym c.classify_place.ensures ∙ c.in-LongEnough.is) in
    let is = reach-is live.line_goal start.place place in
    let past = is.past (λ e. let never : LongEnough ≡ Skipped = sym reach ∙ e in absurd (cc)) in
    subst (λ (z : Live). IfOk c.close_segment.result (λ line. line ≡ z))
    (sym (progress-enough live start place at past (is.enough reach).0 (is.enough reach).1)) c.close_segment.ensures
