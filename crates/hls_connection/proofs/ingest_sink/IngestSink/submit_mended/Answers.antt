-- A mended unit fits its rendition, since it can be read by the init section; that stays usable after the unit is submitted.
use Rattle.hls_connection.proofs.{MendLaws.fits_read_unit, PassLaws.usable_acted}
use Rattle.hls_connection.proofs.ingest_sink.IngestSink.submit_mended.Goals as goal

pub submit-answer-requires : goal.submit-answer-requires
submit-answer-requires g c = fits_read_unit _ _ _ c.args.unit c.requires.usable c.requires.reads

pub returns-clause-usable : goal.returns-clause-usable
returns-clause-usable g c = usable_acted _ _ _ _ _ _ _ c.submit-answer.ensures.act_steps c.requires.usable
