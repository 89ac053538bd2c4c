-- By whether the action is an event or a request.
use Rattle.hls_catchup.proofs.Plays.{event_played, ask_played, all_played}
use Rattle.hls_catchup.proofs.standalone.play.Goals as goal
use Rattle.hls_catchup.proofs.standalone.play.Goals.{in-Event+in_ok-state-in-Event, in-Ask+in_ok-push_answer-in-Ask}

pub loop-action-preserved : goal.loop-action-preserved
loop-action-preserved c =
    elim c.match-action.branch [
      | in-Event+in_ok-state-in-Event w ↦
          rw (w.state-is, w.answers-is)
          (event_played c.args.config c.args.actions.now c.loop-action.action-index c.loop-action.state.value w.in_ok-state-in-Event.state.value
          c.loop-action.answers.items c.action-item.result w.in-Event.by w.in-Event.event c.loop-action-test.true c.action-item.is w.in-Event.is
          c.loop-action.invariant w.in_ok-state-in-Event.ensures)
      | in-Ask+in_ok-push_answer-in-Ask w ↦
          rw (w.state-is, w.answers-is)
          (ask_played c.args.config c.args.actions.now c.loop-action.action-index c.loop-action.state.value c.loop-action.answers.items
          w.push_answer.new.answers.items c.action-item.result w.in-Ask.request c.loop-action-test.true c.action-item.is w.in-Ask.is
          c.loop-action.invariant w.in_ok-push_answer-in-Ask.ensures)
    ]

pub returns : goal.returns
returns c = all_played _ _ _ _ _ (c.loop-action-test.false) c.loop-action.invariant
