-- The loop ends at a unit that starts early enough, at a hole, or without more units; each case is a lemma of GapSteps.
use Rattle.std.proofs.Common.{rules, ◌≡◌, ◌∙◌, ℕ, ◌-◌, ◌<◌, true, false, sym, ap, arith}
use Rattle.std.specs.Prelude.{nat_le}
use Rattle.hls_media_laws.specs.FactLists.{fact_at}
use Rattle.hls_api.specs.GapLimits.{is_joined, reaches_back}
use Rattle.hls_api.proofs.GapSteps.{back_found, back_hole, back_next, back_none, back_over}
use Rattle.hls_api.proofs.gap_limit.reaches_back.Goals as goal

pub returns-then-count-eq0 : goal.returns-then-count-eq0
returns-then-count-eq0 c =
    let none : c.units.count ≡ 0 = omega arith in
    sym (sym c.units.invariant.same ∙ ap (λ (n : ℕ). reaches_back c.units.left c.args.recording.now.facts c.args.from_us n) none
    ∙ back_none c.units.left c.args.recording.now.facts c.args.from_us)

pub returns-then-facts_at-from_us : goal.returns-then-facts_at-from_us
returns-then-facts_at-from_us c =
    let some : 0 < c.units.left = omega arith in
    let more : 0 < c.units.count = omega arith in
    let found : nat_le (fact_at c.args.recording.now.facts (c.units.count - 1)).start_us c.args.from_us ≡ true = search rules in
    sym (sym c.units.invariant.same ∙ back_found c.units.left c.units.count c.args.recording.now.facts c.args.from_us some more found)

pub returns-then-not-is_joined : goal.returns-then-not-is_joined
returns-then-not-is_joined c =
    let some : 0 < c.units.left = omega arith in
    let more : 0 < c.units.count = omega arith in
    let late : nat_le (fact_at c.args.recording.now.facts (c.units.count - 1)).start_us c.args.from_us ≡ false = search rules in
    let hole : is_joined c.args.recording.now.facts (c.units.count - 1) ≡ false = search rules in
    sym (sym c.units.invariant.same ∙ back_hole c.units.left c.units.count c.args.recording.now.facts c.args.from_us some more late hole)

pub units-preserved : goal.units-preserved
units-preserved c =
    let some : 0 < c.units.left = omega arith in
    let more : 0 < c.units.count = omega arith in
    let late : nat_le (fact_at c.args.recording.now.facts (c.units.count - 1)).start_us c.args.from_us ≡ false = search rules in
    let joined : is_joined c.args.recording.now.facts (c.units.count - 1) ≡ true = search rules in
    record {
      within = omega (arith, c.units.invariant.within);
      same = sym (back_next c.units.left c.units.count c.args.recording.now.facts c.args.from_us some more late joined) ∙ c.units.invariant.same;
    }

pub returns : goal.returns
returns c =
    let none : c.units.left ≡ 0 = omega arith in
    sym (sym c.units.invariant.same ∙ ap (λ (n : ℕ). reaches_back n c.args.recording.now.facts c.args.from_us c.units.count) none
    ∙ back_over c.args.recording.now.facts c.args.from_us c.units.count)
