-- One rendition in which too little remains makes the test fail (`each-fails`); without one it holds of each rendition.
use Rattle.std.proofs.Common.{◌≡◌, ℕ, ◌<◌, ◌≤◌, true, leb, arith, refl, sym, ap, subst}
use Rattle.std.proofs.lemmas.Bool.{le-leb, lt-leb}
use Rattle.hls_places_laws.specs.Line.Lengths.{remaining_length, three_targets, each_below, renditions_of}
use Rattle.hls_places_laws.specs.Line.Live.{Live}
use Rattle.hls_live.proofs.Keeps.{each-more, each-fails}
use Rattle.hls_live.proofs.live_line.LiveLine.is_long.Goals as goal

pub loop-r-init : goal.loop-r-init
loop-r-init c = refl

pub returns-then-remaining_us-least : goal.returns-then-remaining_us-least
returns-then-remaining_us-least c =
    let live = c.args.self.now in
    let target = ap (λ (x : Live). x.line_goal.target) c.self.view_is in
    let short : remaining_length c.loop-r.r live.progress.line.segments c.args.n < three_targets live.line_goal =
    omega (arith, c.remaining_us.ensures, c.if-remaining_us-least.true, target) in
    sym (each-fails (λ (r : ℕ). leb (three_targets live.line_goal) (remaining_length r live.progress.line.segments c.args.n))
    (renditions_of live.progress.line.segment_start) c.loop-r.r (omega (arith, c.loop-r-test.true, c.rendition_count-r-end.ensures))
    (lt-leb (three_targets live.line_goal) (remaining_length c.loop-r.r live.progress.line.segments c.args.n) short))

pub loop-r-preserved : goal.loop-r-preserved
loop-r-preserved c =
    let live = c.args.self.now in
    let target = ap (λ (x : Live). x.line_goal.target) c.self.view_is in
    let long : three_targets live.line_goal ≤ remaining_length c.loop-r.r live.progress.line.segments c.args.n =
    omega (arith, c.remaining_us.ensures, c.if-remaining_us-least.false, target) in
    each-more (λ (r : ℕ). leb (three_targets live.line_goal) (remaining_length r live.progress.line.segments c.args.n)) c.loop-r.r c.loop-r.invariant
    (le-leb (three_targets live.line_goal) (remaining_length c.loop-r.r live.progress.line.segments c.args.n) long)

pub returns : goal.returns
returns c =
    let live = c.args.self.now in
    let end : c.loop-r.r ≡ renditions_of live.progress.line.segment_start =
    omega (arith, c.loop-r-test.false, c.loop-r.auto.r-end, c.rendition_count-r-end.ensures) in
    sym (subst (λ (n : ℕ). each_below n (λ r. leb (three_targets live.line_goal) (remaining_length r live.progress.line.segments c.args.n)) ≡ true) end
    c.loop-r.invariant)
