-- The acts are those of choosing the init section, followed by those of taking it.
use Rattle.hls_api.proofs.Callers.{acted_on}
use Rattle.hls_connection.proofs.ingest_sink.IngestSink.mend_init.Goals as goal

pub returns-clause-act_steps : goal.returns-clause-act_steps
returns-clause-act_steps g c = acted_on _ _ _ _ _ _ _ c.choose_init.ensures.act_steps c.take_init.ensures.act_steps
