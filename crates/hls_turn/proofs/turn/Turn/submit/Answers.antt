-- By the lemmas of Told on an applied event: the state that is put back, the pass afterwards, and what the pass then knows.
use Rattle.std.proofs.Common.{rules, ℕ, sym, ◌∙◌, subst}
use Rattle.crossbeam_queue.specs.Passes.{view}
use Rattle.hls_core_laws.specs.Moves.{IsFittingAsSeen}
use Rattle.hls_core.specs.StepResult.{Applies}
use Rattle.hls_turn.specs.Passes.{PassData, known_by}
use Rattle.hls_core_laws.specs.PassView.{Submits}
use Rattle.hls_turn.proofs.Told.{fits_met, applied_may_put, applied_is_pass, applied_submits}
use Rattle.hls_turn.proofs.turn.Turn.submit.Goals as goal

pub apply-result-requires : goal.apply-result-requires
apply-result-requires g c = fits_met (view c.pass.inside.queue_pass) c.take_state-state.result.value (view c.take_state-state.new.queue_pass) c.args.event c.pass.invariant.2 c.take_state-state.ensures.takes
    (subst (λ (p : PassData). IsFittingAsSeen p.known.seen c.args.event) (sym c.pass.view_is) c.requires.fitting)

pub put_state-requires-clause-may : goal.put_state-requires-clause-may
put_state-requires-clause-may g c = applied_may_put (view c.pass.inside.queue_pass) (view c.take_state-state.new.queue_pass) c.take_state-state.result.value c.apply-result.new.snapshot.value c.args.event c.apply-result.result
    c.pass.invariant.2 c.take_state-state.ensures.takes
    (fits_met (view c.pass.inside.queue_pass) c.take_state-state.result.value (view c.take_state-state.new.queue_pass) c.args.event c.pass.invariant.2 c.take_state-state.ensures.takes
    (subst (λ (p : PassData). IsFittingAsSeen p.known.seen c.args.event) (sym c.pass.view_is) c.requires.fitting))
    (subst (λ (n : ℕ). Applies c.take_state-state.result.value n c.args.event c.apply-result.new.snapshot.value c.apply-result.result) (sym c.pass.invariant.1) c.apply-result.ensures)

pub invariant_of-pass : goal.invariant_of-pass
invariant_of-pass g c =
    let kept = applied_is_pass (view c.pass.inside.queue_pass) (view c.take_state-state.new.queue_pass) (view c.put_state.new.queue_pass) c.take_state-state.result.value c.apply-result.new.snapshot.value c.args.event c.apply-result.result
    c.pass.invariant.2 c.take_state-state.ensures.takes
    (fits_met (view c.pass.inside.queue_pass) c.take_state-state.result.value (view c.take_state-state.new.queue_pass) c.args.event c.pass.invariant.2 c.take_state-state.ensures.takes
    (subst (λ (p : PassData). IsFittingAsSeen p.known.seen c.args.event) (sym c.pass.view_is) c.requires.fitting))
    (subst (λ (n : ℕ). Applies c.take_state-state.result.value n c.args.event c.apply-result.new.snapshot.value c.apply-result.result) (sym c.pass.invariant.1) c.apply-result.ensures)
    c.put_state.ensures.puts in
    (search rules, search rules, kept.0, kept.1 ∙ c.pass.invariant.3)

pub returns-clause-submits : goal.returns-clause-submits
returns-clause-submits g c = subst (λ (p : PassData). Submits p.known c.args.event c.apply-result.result (known_by (view c.put_state.new.queue_pass))) c.pass.view_is
    (applied_submits (view c.pass.inside.queue_pass) (view c.take_state-state.new.queue_pass) (view c.put_state.new.queue_pass) c.take_state-state.result.value c.apply-result.new.snapshot.value c.args.event c.apply-result.result
    c.pass.invariant.2 c.take_state-state.ensures.takes
    (subst (λ (n : ℕ). Applies c.take_state-state.result.value n c.args.event c.apply-result.new.snapshot.value c.apply-result.result) (sym c.pass.invariant.1) c.apply-result.ensures)
    c.put_state.ensures.puts)
