-- Each look takes one more pass from before to after it; whether the loop ends or a call fails, all passes have then looked or are unchanged.
use Rattle.std.proofs.Common.{rules, ◌≡◌, ◌+◌, ◌<◌, ◌∙◌, ℕ, suc, List, [], ◌∷◌, ◌++◌, length, take, drop, set, get_or, map, ap, sym, subst, arith}
use Rattle.std.specs.List.{AllZip}
use Rattle.std.proofs.lemmas.List.{map-append}
use Rattle.std.proofs.lemmas.List.Elements.{All-set}
use Rattle.hls_core_laws.specs.State.{State}
use Rattle.hls_turn.specs.Passes.{PassData}
use Rattle.hls_core_laws.specs.PassView.{Looks}
use Rattle.hls_turn.specs.Calls.{HasLooked, LooksAt}
use Rattle.hls_turn.proofs.Pairs.{zip_self, zip_all, zip_map, zip_put, zip_more, drop_set, drop_one, put_map}
use Rattle.hls_turn.proofs.Told.{looked_self, looks_looked}
use Rattle.hls_turn.proofs.turn.Turn.look_with.Goals as goal

pub returns-in_err-states-clause-looked : goal.returns-in_err-states-clause-looked
returns-in_err-states-clause-looked g c = zip_self HasLooked looked_self _

pub returns-in_err-state-clause-looked : goal.returns-in_err-state-clause-looked
returns-in_err-state-clause-looked g c = zip_put LooksAt HasLooked looked_self looks_looked c.loop-i.i _ _ c.index-passes-i.result c.look.new.pass (search rules) c.loop-i.invariant.looks c.loop-i.invariant.rest (record { turn = c.look.ensures.ours; looked = c.look.ensures.looked })

pub returns-in_err-push-clause-looked : goal.returns-in_err-push-clause-looked
returns-in_err-push-clause-looked g c = zip_put LooksAt HasLooked looked_self looks_looked c.loop-i.i _ _ c.index-passes-i.result c.look.new.pass (search rules) c.loop-i.invariant.looks c.loop-i.invariant.rest (record { turn = c.look.ensures.ours; looked = c.look.ensures.looked })

pub returns-clause-looked : goal.returns-clause-looked
returns-clause-looked g c = zip_all HasLooked looked_self c.loop-i.i _ _ (zip_map LooksAt HasLooked looks_looked _ _ c.loop-i.invariant.looks) c.loop-i.invariant.rest

pub loop-i-preserved : goal.loop-i-preserved
loop-i-preserved g c =
    let more : suc c.loop-i.i ≡ c.loop-i.i + 1 = omega arith in
    let low : c.loop-i.i < length c.loop-i.passes = search rules in
    let now : List PassData = set c.loop-i.passes c.loop-i.i c.look.new.pass in
    let seen : PassData → State = λ p. p.known.seen in
    let looks : Looks (get_or c.loop-i.passes c.loop-i.i c.index-passes-i.result).known c.in_ok-state.state.value c.look.new.pass.known = c.in_ok-state.ensures.looks in
    record {
      ours = All-set (λ (p : PassData). p.turn ≡ c.args.self.now) c.loop-i.passes c.loop-i.i c.look.new.pass
          (c.look.ensures.ours ∙ c.loop-i.invariant.ours c.loop-i.i c.index-passes-i.result low) c.loop-i.invariant.ours;
      long = search rules;
      low = search rules;
      looks = subst (λ (n : ℕ). AllZip LooksAt (take n c.args.passes.now) (take n now)) more
          (zip_more LooksAt c.loop-i.i c.args.passes.now c.loop-i.passes c.index-passes-i.result c.look.new.pass low c.loop-i.invariant.looks c.loop-i.invariant.rest
          (record { turn = c.look.ensures.ours; looks = subst (λ (s : State). Looks (get_or c.loop-i.passes c.loop-i.i c.index-passes-i.result).known s c.look.new.pass.known) (sym looks.seen) looks }));
      rest = subst (λ (n : ℕ). drop n now ≡ drop n c.args.passes.now) more (drop_set c.loop-i.i c.loop-i.passes c.look.new.pass ∙ drop_one c.loop-i.i c.loop-i.passes c.args.passes.now c.loop-i.invariant.rest);
      states = ap (map (λ s. s.value)) c.in_ok-push.ensures.items ∙ map-append (λ s. s.value) c.loop-i.states.items (c.in_ok-state.state ∷ [])
          ∙ (λ i. c.loop-i.invariant.states i ++ sym looks.seen i ∷ []) ∙ sym (put_map seen c.loop-i.i c.loop-i.passes c.look.new.pass low)
          ∙ ap (λ (n : ℕ). map seen (take n now)) more;
    }
