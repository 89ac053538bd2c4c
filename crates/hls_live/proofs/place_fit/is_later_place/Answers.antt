-- If the numbers of spots differ, or a rendition's fragment number isn't greater, the place isn't later; if all are greater, it is.
use Rattle.std.proofs.Common.{◌<◌, length, arith, sym, ap, below_more, ◌∙◌, List}
use Rattle.hls_check_tables.specs.declared.spot.Spot.{Spot}
use Rattle.hls_check_tables.specs.Tables.{spot_in}
use Rattle.hls_live.proofs.Cited.{past-count, past-from_each, past-fragment, not-past}
use Rattle.hls_live.proofs.place_fit.is_later_place.Goals as goal

pub returns-then-starts-ends : goal.returns-then-starts-ends
returns-then-starts-ends c =
    sym (not-past c.args.from.now c.args.place.now (λ past.
    c.if-starts-ends.true (ap length c.as_slice-starts.ensures
    ∙ (sym (past-count c.args.from.now c.args.place.now past) ∙ sym (ap length c.as_slice-ends.ensures)))))

pub loop-r-init : goal.loop-r-init
loop-r-init c = λ k h. absurd (omega arith)

pub returns-then-starts-r : goal.returns-then-starts-r
returns-then-starts-r c =
    sym (not-past c.args.from.now c.args.place.now (λ past.
    let within : c.loop-r.r < length c.args.from.now.spots = omega (arith, c.loop-r-test.true, ap length c.as_slice-starts.ensures) in
    let later = past-fragment c.args.from.now c.args.place.now past c.loop-r.r within in
    let start = ap (λ (l : List Spot). (spot_in l c.loop-r.r).fragment) c.as_slice-starts.ensures in
    let end = ap (λ (l : List Spot). (spot_in l c.loop-r.r).fragment) c.as_slice-ends.ensures in
    omega (arith, c.if-starts-r.true, later, start, end)))

pub loop-r-preserved : goal.loop-r-preserved
loop-r-preserved c = below_more _ _ c.loop-r.invariant c.if-starts-r.false

pub returns : goal.returns
returns c =
    sym (past-from_each c.args.from.now c.args.place.now
    (sym (ap length c.as_slice-ends.ensures) ∙ (sym c.if-starts-ends.false ∙ ap length c.as_slice-starts.ensures))
    (λ r h.
    let within : r < c.loop-r.r = omega (arith, c.loop-r-test.false, ap length c.as_slice-starts.ensures) in
    let later = c.loop-r.invariant r within in
    let start = ap (λ (l : List Spot). (spot_in l r).fragment) c.as_slice-starts.ensures in
    let end = ap (λ (l : List Spot). (spot_in l r).fragment) c.as_slice-ends.ensures in
    omega (arith, later, start, end)))
