-- While the loop runs, no cut is before segment n (`IsCutLeft`). So the first segment that passes the
-- test has the first cut, or else the front has it.
use Rattle.std.proofs.Common.{◌≡◌, ◌∙◌, ◌+◌, ◌<◌, ◌≤◌, ℕ, true, false, Option, Some, List, length, take, sym, ap, subst, arith}
use Rattle.std.specs.Prelude.{IfOk, slice_get}
use Rattle.hls_places_laws.specs.Line.Live.{Live, live_of, segments_of}
use Rattle.hls_core_laws.specs.Line.{line, line_goal_of}
use Rattle.hls_core_laws.specs.Places.{floors, places}
use Rattle.hls_core_laws.proofs.Callers.{removed_within}
use Rattle.hls_renewal.specs.declared.line_cut.LineCut.{LineCut}
use Rattle.hls_renewal.specs.Cuts.{may_begin_at}
use Rattle.hls_renewal.proofs.Bits.{bit_is}
use Rattle.hls_renewal.proofs.CutSearch.{segments, cut_found, cut_passed, front_left}
use Rattle.hls_renewal.proofs.line_cut.find_cut.Goals as goal

pub get_segment-segment-requires-clause-within : goal.get_segment-segment-requires-clause-within
get_segment-segment-requires-clause-within c =
    let s = c.args.snapshot.now in
    let whole : c.in_ok-whole.whole ≡ live_of (line_goal_of s.config) (places s) 0 = c.in_ok-whole.ensures in
    let long : length (segments_of c.in_ok-whole.whole) ≡ length (segments s) = ap (λ (l : Live). length (segments_of l)) whole in
    omega (arith, c.loop-n-test.true, c.removed-removed.ensures, ap (λ (l : Live). l.removed) c.line.ensures.value, long, removed_within s c.line.ensures.valid)

pub returns-then-may_begin_at-clause-cut : goal.returns-then-may_begin_at-clause-cut
returns-then-may_begin_at-clause-cut c =
    let s = c.args.snapshot.now in
    let n = c.loop-n.n in
    let segment = c.get_segment-segment.result.now in
    let whole : c.in_ok-whole.whole ≡ live_of (line_goal_of s.config) (places s) 0 = c.in_ok-whole.ensures in
    let within : n < (line s).removed = omega (arith, c.loop-n-test.true, c.removed-removed.ensures, ap (λ (l : Live). l.removed) c.line.ensures.value) in
    let at : slice_get (segments s) n ≡ Some segment = sym (ap (λ (l : Live). slice_get (segments_of l) n) whole) ∙ c.get_segment-segment.ensures in
    let above : take c.rendition_count.result c.floors_of-floors.result ≡ floors s = ap (λ (k : ℕ). take k c.floors_of-floors.result) c.rendition_count.ensures.lanes ∙ c.floors_of-floors.ensures in
    let may : may_begin_at (floors s) segment.from ≡ true = ap (λ (xs : List ℕ). may_begin_at xs segment.from) (sym above) ∙ sym c.may_begin_at.ensures ∙ c.if-may_begin_at.true in
    ap (λ (x : LineCut). Some x) c.in_ok-make_cut.ensures ∙ cut_found s c.line.ensures.valid n segment within at c.loop-n.marks c.loop-n.invariant may

pub loop-n-preserved : goal.loop-n-preserved
loop-n-preserved c =
    let s = c.args.snapshot.now in
    let n = c.loop-n.n in
    let segment = c.get_segment-segment.result.now in
    let whole : c.in_ok-whole.whole ≡ live_of (line_goal_of s.config) (places s) 0 = c.in_ok-whole.ensures in
    let within : n < (line s).removed = omega (arith, c.loop-n-test.true, c.removed-removed.ensures, ap (λ (l : Live). l.removed) c.line.ensures.value) in
    let at : slice_get (segments s) n ≡ Some segment = sym (ap (λ (l : Live). slice_get (segments_of l) n) whole) ∙ c.get_segment-segment.ensures in
    let above : take c.rendition_count.result c.floors_of-floors.result ≡ floors s = ap (λ (k : ℕ). take k c.floors_of-floors.result) c.rendition_count.ensures.lanes ∙ c.floors_of-floors.ensures in
    let not : may_begin_at (floors s) segment.from ≡ false = ap (λ (xs : List ℕ). may_begin_at xs segment.from) (sym above) ∙ sym c.may_begin_at.ensures ∙ c.if-may_begin_at.false in
    cut_passed s c.line.ensures.valid n segment within at c.loop-n.marks (c.loop-n.marks + c.from.result) c.loop-n.invariant not
    (ap (λ (k : ℕ). c.loop-n.marks + k) (c.from.ensures ∙ bit_is segment.mark))

pub returns-clause-cut : goal.returns-clause-cut
returns-clause-cut c =
    let s = c.args.snapshot.now in
    let past : (line s).removed ≤ c.loop-n.n = omega (arith, c.loop-n-test.false, c.removed-removed.ensures, ap (λ (l : Live). l.removed) c.line.ensures.value) in
    subst (λ (o : Option LineCut). IfOk c.find_front_cut.result (λ cut. cut ≡ o)) (front_left s c.loop-n.n c.loop-n.marks past c.loop-n.invariant) c.find_front_cut.ensures
