-- An init section that was usable before the look is usable after it, also if the look fails or the rendition has none.
use Rattle.hls_connection.proofs.PassLaws.{usable_acted}
use Rattle.hls_connection.proofs.ingest_sink.IngestSink.find_init.Goals as goal

pub returns-in_default-clause-usable : goal.returns-in_default-clause-usable
returns-in_default-clause-usable g c = usable_acted _ _ _ _ _ _ _ c.look.ensures.act_steps c.requires.usable

pub returns-in_default-recording-clause-usable : goal.returns-in_default-recording-clause-usable
returns-in_default-recording-clause-usable g c = usable_acted _ _ _ _ _ _ _ c.look.ensures.act_steps c.requires.usable

pub returns-in_default-share-clause-usable : goal.returns-in_default-share-clause-usable
returns-in_default-share-clause-usable g c = usable_acted _ _ _ _ _ _ _ c.look.ensures.act_steps c.requires.usable
