-- Place lines are skipped until there are as many as the header says. If one is bad or missing, it is the first wrong line.
use Rattle.std.proofs.Common.{ℕ, ◌≡◌, subst, arith}
use Rattle.hls_check.proofs.Scans.{PlacesPassed, no_place_passed, wrong_place, one_place_more, all_passed}
use Rattle.hls_check.proofs.wrong_lines.scan_places.Goals as goal

pub loop-p-init : goal.loop-p-init
loop-p-init c = no_place_passed c.args.head c.args.text.now

pub returns-in_default-clause-at : goal.returns-in_default-clause-at
returns-in_default-clause-at c = λ bytes at.
    wrong_place c.args.head bytes c.args.text.now c.args.first c.loop-p.rest.now c.loop-p.p at c.loop-p.invariant c.loop-p-test.true c.in_default.ensures

pub loop-p-preserved : goal.loop-p-preserved
loop-p-preserved c =
    one_place_more c.args.head c.args.text.now c.loop-p.rest.now c.loop-p.p c.in-Some.after.now c.loop-p.invariant c.in-Some.ensures

pub returns-clause-at : goal.returns-clause-at
returns-clause-at c = λ bytes at.
    let all : c.loop-p.p ≡ c.args.head.count = omega arith in
    all_passed c.args.head bytes c.args.text.now c.args.first c.loop-p.rest.now at
    (subst (λ (p : ℕ). PlacesPassed c.args.head c.args.text.now c.loop-p.rest.now p) all c.loop-p.invariant)
