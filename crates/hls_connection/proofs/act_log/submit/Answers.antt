-- The log grows by one act, the submitted event with its result; the event fits the state that the keeper saw.
use Rattle.hls_api.specs.Acts.{Submitted}
use Rattle.hls_connection.proofs.PassLaws.{acted_one}
use Rattle.hls_connection.proofs.act_log.submit.Goals as goal

pub returns-clause-act_steps : goal.returns-clause-act_steps
returns-clause-act_steps g c =
    let done = c.submit-done.ensures in
    acted_one _ _ _ _ _ (Submitted c.args.event c.submit-done.result) (record { asked = done.asked; does = (c.requires, done.submits) }) done.met
    (rw (c.and-note.ensures, c.new.ensures) at c.push.ensures)
