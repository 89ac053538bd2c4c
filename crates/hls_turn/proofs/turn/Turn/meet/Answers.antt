-- The passes look repeatedly, which adds up (`all_looked`), until the last state is settled for all others; then they meet at it (`all_meet`).
use Rattle.std.proofs.Common.{◌∙◌, ◌<◌, ℕ, List, [], ◌∷◌, length, map, take, Global, ap, sym, subst}
use Rattle.std.specs.List.{AllZip}
use Rattle.std.specs.declared.sync.Arc.{Arc}
use Rattle.std.proofs.lemmas.List.{map-append, length-map}
use Rattle.hls_core_laws.specs.State.{State}
use Rattle.hls_turn.specs.Calls.{HasLooked, SettledAt}
use Rattle.hls_turn.proofs.Pairs.{zip_self}
use Rattle.hls_turn.proofs.Told.{looked_self}
use Rattle.hls_turn.proofs.Meetings.{all_looked, all_meet, last_is, all_ours, as_many}
use Rattle.hls_turn.proofs.turn.Turn.meet.Goals as goal

pub loop-init : goal.loop-init
loop-init g c = (tt, tt, c.requires.ours, c.requires.some, zip_self HasLooked looked_self c.args.passes.now)

pub returns-in_err-states-clause-looked : goal.returns-in_err-states-clause-looked
returns-in_err-states-clause-looked g c = all_looked c.args.passes.now c.loop.passes c.look_with.new.passes c.loop.invariant.4 c.look_with.ensures.looked

pub returns-then-all_agree-clause-looked : goal.returns-then-all_agree-clause-looked
returns-then-all_agree-clause-looked g c = all_looked c.args.passes.now c.loop.passes c.look_with.new.passes c.loop.invariant.4 c.look_with.ensures.looked

-- the states are those before the last one, and the last one
pub returns-then-all_agree-clause-meets : goal.returns-then-all_agree-clause-meets
returns-then-all_agree-clause-meets g c = all_meet c.in-Some-pop.last.value (map (λ s. s.value) c.pop.new.self.items) c.args.passes.now c.loop.passes c.look_with.new.passes
    c.loop.invariant.4 c.in_ok-states.ensures.looks
    (sym c.in_ok-states.ensures.states ∙ ap (map (λ s. s.value)) c.in-Some-pop.ensures.items ∙ map-append (λ s. s.value) c.pop.new.self.items (c.in-Some-pop.last ∷ []))
    (subst (λ (n : ℕ). AllZip (SettledAt c.in-Some-pop.last.value) (map (λ s. s.value) c.pop.new.self.items) (take n c.look_with.new.passes)) (sym (length-map c.pop.new.self.items (λ s. s.value)))
    (subst (λ (y : State × List (Arc State Global)). AllZip (SettledAt y.0) (map (λ s. s.value) y.1) (take (length y.1) c.look_with.new.passes)) (λ i. (c.deref-in-loop.ensures i, c.deref.ensures.value i))
    (c.all_agree.ensures c.if-all_agree.true)))

pub returns-then-all_agree-clause-last : goal.returns-then-all_agree-clause-last
returns-then-all_agree-clause-last g c = last_is c.in-Some-pop.last.value (map (λ s. s.value) c.pop.new.self.items) c.look_with.new.passes
    (sym c.in_ok-states.ensures.states ∙ ap (map (λ s. s.value)) c.in-Some-pop.ensures.items ∙ map-append (λ s. s.value) c.pop.new.self.items (c.in-Some-pop.last ∷ []))

pub loop-preserved : goal.loop-preserved
loop-preserved g c = (
  tt,
  tt,
  all_ours c.args.self.now c.loop.passes c.look_with.new.passes c.look_with.ensures.looked c.loop.invariant.2,
  subst (λ (n : ℕ). 0 < n) (sym (as_many c.loop.passes c.look_with.new.passes c.look_with.ensures.looked)) c.loop.invariant.3,
  all_looked c.args.passes.now c.loop.passes c.look_with.new.passes c.loop.invariant.4 c.look_with.ensures.looked,
)
