-- An init section that was usable before the look is usable after it, whichever section is chosen, and also if none can be.
use Rattle.hls_connection.proofs.PassLaws.{usable_acted}
use Rattle.hls_connection.proofs.ingest_sink.IngestSink.choose_init.Goals as goal

pub returns-in_default-clause-usable : goal.returns-in_default-clause-usable
returns-in_default-clause-usable g c = usable_acted _ _ _ _ _ _ _ c.look.ensures.act_steps c.requires.usable

pub returns-in_default-recording-clause-usable : goal.returns-in_default-recording-clause-usable
returns-in_default-recording-clause-usable g c = usable_acted _ _ _ _ _ _ _ c.look.ensures.act_steps c.requires.usable

pub returns-in-Ok-clone-clause-usable : goal.returns-in-Ok-clone-clause-usable
returns-in-Ok-clone-clause-usable g c = usable_acted _ _ _ _ _ _ _ c.look.ensures.act_steps c.requires.usable

pub returns-in-Ok-true-clause-usable : goal.returns-in-Ok-true-clause-usable
returns-in-Ok-true-clause-usable g c = usable_acted _ _ _ _ _ _ _ c.look.ensures.act_steps c.requires.usable

pub returns-in-Ok-false-clause-usable : goal.returns-in-Ok-false-clause-usable
returns-in-Ok-false-clause-usable g c = usable_acted _ _ _ _ _ _ _ c.look.ensures.act_steps c.requires.usable

pub returns-clause-usable : goal.returns-clause-usable
returns-clause-usable g c = usable_acted _ _ _ _ _ _ _ c.look.ensures.act_steps c.requires.usable
