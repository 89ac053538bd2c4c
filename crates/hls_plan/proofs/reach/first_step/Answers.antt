-- A row's end excludes all later places; otherwise one more place is known to which no step leads.
use Rattle.std.proofs.Common.{arith, inl, inr}
use Rattle.std.proofs.lemmas.Bool.{cases_eq, cases_lt}
use Rattle.hls_plan.proofs.reach.first_step.Goals as goal

pub returns-then-is_row_end-clause-found : goal.returns-then-is_row_end-clause-found
returns-then-is_row_end-clause-found c = λ j after there.
    elim (cases_lt j c.loop-q.q) [
      | inl before ↦ c.loop-q.invariant.none j after before there
      | inr not_before ↦ c.is_row_end.ensures.none_after c.if-is_row_end.true j not_before there
    ]

pub loop-q-preserved : goal.loop-q-preserved
loop-q-preserved c = record {
  none = λ j after below there.
      elim (cases_eq j c.loop-q.q) [
        | inl same ↦ let yes = c.is_allowed.ensures.1 (rw same at there) in let no = c.if-is_allowed.false in cc
        | inr other ↦ c.loop-q.invariant.none j after (omega arith) there
      ];
  no_end = λ j after below end.
      elim (cases_eq j c.loop-q.q) [
        | inl same ↦ let yes = c.is_row_end.ensures.exact.1 (rw same at end) in let no = c.if-is_row_end.false in cc
        | inr other ↦ c.loop-q.invariant.no_end j after (omega arith) end
      ];
  count = omega (arith, c.tick.ensures, c.loop-q.invariant.count);
}

pub returns-clause-found : goal.returns-clause-found
returns-clause-found c = λ j after there.
    c.loop-q.invariant.none j after (omega (arith, there.to, c.len-count.ensures.len)) there
