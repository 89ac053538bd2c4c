-- A request whose plan is unfinished gets the response for an unfinished plan at once.
use Rattle.hls_connection.proofs.PlayerLaws.{unfinished_shown}
use Rattle.hls_connection.proofs.handlers.show_programme.Goals as goal

pub returns-in-Await-clause-answers : goal.returns-in-Await-clause-answers
returns-in-Await-clause-answers g c = λ said is.
    unfinished_shown c.args.client said c.args.file c.args.acts.now c.begin_programme.new.acts c.in-Await.field-0 c.found_plan_response.result (rw c.in-Await.is at (c.in_ok-response.ensures.begins said is))
    c.found_plan_response.ensures
