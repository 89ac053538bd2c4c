-- An init section that was usable before the encoders were read is usable after that.
use Rattle.hls_connection.proofs.PassLaws.{usable_acted}
use Rattle.hls_connection.proofs.ingest_sink.IngestSink.may_submit.Goals as goal

pub returns-clause-usable : goal.returns-clause-usable
returns-clause-usable g c = usable_acted _ _ _ _ _ _ _ c.read_encoders-readings.ensures.act_steps c.requires.usable
