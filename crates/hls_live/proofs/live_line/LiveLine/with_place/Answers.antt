-- By whether there is an open place, a best place, and whether the place is out of reach (`moved-first`, `moved-unbested`, `moved-near`,
-- `moved-twice`).
use Rattle.std.proofs.Common.{◌≡◌, IfOk, true, false, not, None, Some, sym, ap, subst, ◌∙◌}
use Rattle.std.specs.Prelude.{◌&&◌}
use Rattle.hls_places_laws.specs.Line.Steps.{is_later_place, is_allowed}
use Rattle.hls_places_laws.specs.Line.Live.{Live}
use Rattle.hls_live.specs.Advances.{advance_once, with_progress}
use Rattle.hls_live.proofs.Moves.{moved-first, moved-unbested, moved-near, moved-twice}
use Rattle.hls_live.proofs.live_line.LiveLine.with_place.Goals as goal

pub returns-in_default : goal.returns-in_default
returns-in_default c =
    let live = c.args.self.now in
    let at = subst (λ (x : Live). x.progress.line.segment_start ≡ None) c.self.view_is c.in_default.is in
    let best = subst (λ (x : Live). x.progress.best ≡ None) c.self.view_is (c.self.invariant.no_best c.in_default.is) in
    subst (λ (z : Live). IfOk c.with_place_or_restart.result (λ line. line ≡ z)) (moved-first live c.args.place.now at best) c.with_place_or_restart.ensures

pub returns-in_default-best : goal.returns-in_default-best
returns-in_default-best c =
    let live = c.args.self.now in
    let start = c.in-Some.start in
    let at = subst (λ (x : Live). x.progress.line.segment_start ≡ Some start) c.self.view_is c.in-Some.is in
    let best = subst (λ (x : Live). x.progress.best ≡ None) c.self.view_is c.in_default-best.is in
    subst (λ (z : Live). IfOk c.with_place_or_restart-in_default-best.result (λ line. line ≡ z)) (moved-unbested live start c.args.place.now at best)
    c.with_place_or_restart-in_default-best.ensures

pub returns-then-not-is_too_far : goal.returns-then-not-is_too_far
returns-then-not-is_too_far c =
    let live = c.args.self.now in
    let start = c.in-Some.start in
    let place = c.args.place.now in
    let at = subst (λ (x : Live). x.progress.line.segment_start ≡ Some start) c.self.view_is c.in-Some.is in
    let near = subst (λ (x : Live). (is_later_place start.place place && not (is_allowed x.line_goal start.place place)) ≡ false) c.self.view_is
    (sym c.is_too_far.ensures ∙ c.if-not-is_too_far.true) in
    subst (λ (z : Live). IfOk c.with_place_or_restart-then-not-is_too_far.result (λ line. line ≡ z)) (moved-near live start place at near)
    c.with_place_or_restart-then-not-is_too_far.ensures

pub returns : goal.returns
returns c =
    let live = c.args.self.now in
    let start = c.in-Some.start in
    let best = c.in-Some-best.best in
    let place = c.args.place.now in
    let at = subst (λ (x : Live). x.progress.line.segment_start ≡ Some start) c.self.view_is c.in-Some.is in
    let best_is = subst (λ (x : Live). x.progress.best ≡ Some best) c.self.view_is c.in-Some-best.is in
    let far = subst (λ (x : Live). (is_later_place start.place place && not (is_allowed x.line_goal start.place place)) ≡ true) c.self.view_is
    (sym c.is_too_far.ensures ∙ c.if-not-is_too_far.false) in
    let same = ap (λ (x : Live). with_progress x (advance_once x place)) c.in_ok-close_segment.ensures ∙ moved-twice live start best place at best_is far in
    subst (λ (z : Live). IfOk c.with_place_or_restart-3.result (λ line. line ≡ z)) same c.with_place_or_restart-3.ensures
