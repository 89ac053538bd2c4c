-- The log grows by one act, the added job with its result; what the keeper has seen doesn't change.
use Rattle.std.proofs.Common.{ap}
use Rattle.hls_api.specs.Acts.{Added, Knowledge, view_of}
use Rattle.hls_connection.proofs.PassLaws.{acted_one}
use Rattle.hls_connection.proofs.act_log.add_job.Goals as goal

pub returns-clause-act_steps : goal.returns-clause-act_steps
returns-clause-act_steps g c =
    let done = c.add_job-added.ensures in
    acted_one _ _ _ _ _ (Added c.args.snapshot.value c.args.request c.add_job-added.result)
    (record { asked = ap (λ (k : Knowledge). k.acts) done.known; does = (ap view_of done.known, done.adds) }) tt (rw (c.and-note.ensures, c.new.ensures) at c.push.ensures)
