-- The acts are those of finding the init section, followed by those of deciding on the unit.
use Rattle.hls_api.proofs.Callers.{acted_on}
use Rattle.hls_connection.proofs.ingest_sink.IngestSink.prepare_unit.Goals as goal

pub returns-clause-act_steps : goal.returns-clause-act_steps
returns-clause-act_steps g c = acted_on _ _ _ _ _ _ _ c.find_init.ensures.act_steps c.decide_unit.ensures.act_steps
