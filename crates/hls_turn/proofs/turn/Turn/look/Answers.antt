-- A pass that looks takes the state out and puts the same one back, so it may put it, stays a pass of the turn, and has seen that state.
use Rattle.std.proofs.Common.{rules, ◌∙◌}
use Rattle.crossbeam_queue.specs.Passes.{view}
use Rattle.hls_turn.proofs.Told.{may_put_back, back_is_pass}
use Rattle.hls_turn.proofs.turn.Turn.look.Goals as goal

pub put_state-requires-clause-may : goal.put_state-requires-clause-may
put_state-requires-clause-may g c = may_put_back (view c.pass.inside.queue_pass) (view c.take_state-state.new.queue_pass) c.take_state-state.result.value c.take_state-state.ensures.takes

pub invariant_of-pass : goal.invariant_of-pass
invariant_of-pass g c =
    let kept = back_is_pass (view c.pass.inside.queue_pass) (view c.take_state-state.new.queue_pass) (view c.put_state.new.queue_pass) c.take_state-state.result.value c.pass.invariant.2
    c.take_state-state.ensures.takes c.put_state.ensures.puts in
    (search rules, search rules, kept.0, kept.1 ∙ c.pass.invariant.3)
