-- The last state is settled for the first i passes, and a passed test settles it for one more (`zip_next`).
use Rattle.std.proofs.Common.{rules, ◌≡◌, ◌+◌, ◌<◌, ℕ, suc, List, length, take, map, get_or, ap, sym, subst, arith}
use Rattle.std.proofs.Common.{Global, ◌∙◌}
use Rattle.std.specs.List.{AllZip}
use Rattle.std.specs.declared.sync.Arc.{Arc}
use Rattle.std.proofs.lemmas.List.{length-map, get_or-map}
use Rattle.hls_core_laws.specs.State.{State}
use Rattle.hls_core_laws.specs.Workers.{events_by}
use Rattle.hls_turn.specs.Passes.{PassData}
use Rattle.hls_turn.specs.Calls.{SettledAt}
use Rattle.hls_turn.proofs.Pairs.{zip_next}
use Rattle.hls_turn.proofs.turn.all_agree.Goals as goal

pub loop-i-preserved : goal.loop-i-preserved
loop-i-preserved c =
    let more : suc c.loop-i.i ≡ c.loop-i.i + 1 = omega arith in
    let states : List State = map (λ s. s.value) c.args.states.now in
    let value : Arc State Global → State = λ s. s.value in
    let there : c.loop-i.i < length c.args.states.now = search rules in
    let low : c.loop-i.i < length states = subst (λ (n : ℕ). c.loop-i.i < n) (sym (length-map c.args.states.now value)) there in
    let low' : c.loop-i.i < length c.args.passes.now = search rules in
    record {
      low = search rules;
      settled = subst (λ (n : ℕ). AllZip (SettledAt c.args.last.now) (take n states) (take n c.args.passes.now)) more
          (zip_next (SettledAt c.args.last.now) c.loop-i.i states c.args.passes.now c.index-states-i.result.value c.index-passes-i.result low low' c.loop-i.invariant.settled
          (subst (λ (s : State). SettledAt c.args.last.now s (get_or c.args.passes.now c.loop-i.i c.index-passes-i.result))
          (c.deref-state.ensures ∙ ap value c.index-states-i.is ∙ sym (get_or-map value c.args.states.now c.loop-i.i c.index-states-i.result c.index-states-i.result.value there))
          (record {
            follows = (c.follows.ensures.follows.0 c.if-not-follows.false);
            entries = subst (λ (p : PassData). length (events_by p.known.number c.args.last.now.log) ≡ length (events_by p.known.number c.deref-state.result.now.log)) c.index-passes-i.is
                (ap (λ (n : ℕ). length (events_by n c.args.last.now.log)) (sym c.number-number.ensures) ∙ sym c.count_entries_by.ensures ∙ c.if-count_entries_by.false
                ∙ c.count_entries_by-else-not-follows.ensures ∙ ap (λ (n : ℕ). length (events_by n c.deref-state.result.now.log)) c.number-number.ensures);
          })));
    }
