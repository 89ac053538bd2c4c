-- A filler fits its rendition, since it can be read by the init section, and that stays usable after the filler is submitted.
use Rattle.std.proofs.Common.{◌≡◌, rules}
use Rattle.hls_connection.proofs.{MendLaws.fits_read_unit, PassLaws.usable_acted}
use Rattle.hls_connection.proofs.ingest_sink.IngestSink.submit_filler.Goals as goal

pub submit-answer-requires : goal.submit-answer-requires
submit-answer-requires g c =
    let same : c.in-Ok.bytes ≡ c.args.filler.now.bytes = search rules in
    rw same (fits_read_unit _ _ _ c.args.filler.now c.requires.usable c.requires.reads)

pub returns-in-Err-Memory-clause-usable : goal.returns-in-Err-Memory-clause-usable
returns-in-Err-Memory-clause-usable g c = usable_acted _ _ _ _ _ _ _ c.submit-answer.ensures.act_steps c.requires.usable

pub returns-in-Err-Overlap-clause-usable : goal.returns-in-Err-Overlap-clause-usable
returns-in-Err-Overlap-clause-usable g c = usable_acted _ _ _ _ _ _ _ c.submit-answer.ensures.act_steps c.requires.usable

pub returns-clause-usable : goal.returns-clause-usable
returns-clause-usable g c = usable_acted _ _ _ _ _ _ _ c.submit-answer.ensures.act_steps c.requires.usable
