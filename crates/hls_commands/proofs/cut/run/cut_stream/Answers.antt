-- A run writes the playlist or the certificate of the stream. If there is no plan, it writes the certificate of that, if it was requested;
-- after a refusal it writes nothing.
use Rattle.std.proofs.Common.{◌∙◌, true, false, ap, sym}
use Rattle.hls_commands.specs.CutRun.{bytes_of, is_cut}
use Rattle.hls_commands.proofs.RunLaws.{runs_err, runs_printed}
use Rattle.hls_commands.proofs.cut.run.cut_stream.Goals as goal

pub returns-in-Ok-Text-clause-runs : goal.returns-in-Ok-Text-clause-runs
returns-in-Ok-Text-clause-runs g c = λ stream held known empty.
    runs_printed c.args.options.now stream held c.deref.result.now _ _ c.in-Ok-Text.field-0 true c.write_listing.result (c.in-Ok-Text.ensures.takes stream known) (ap bytes_of c.in-Ok-Text.field-0-is ∙ sym c.deref.ensures.value) (ap is_cut c.in-Ok-Text.field-0-is) (c.write_listing.ensures.writes held empty)

pub returns-in-Ok-NoCut-clause-runs : goal.returns-in-Ok-NoCut-clause-runs
returns-in-Ok-NoCut-clause-runs g c = λ stream held known empty.
    runs_printed c.args.options.now stream held c.deref-in-Ok-NoCut.result.now _ _ c.in-Ok-NoCut.field-0 false c.write_listing-in-Ok-NoCut.result (c.in-Ok-NoCut.ensures.takes stream known) (ap bytes_of c.in-Ok-NoCut.field-0-is ∙ sym c.deref-in-Ok-NoCut.ensures.value) (ap is_cut c.in-Ok-NoCut.field-0-is)
    (c.write_listing-in-Ok-NoCut.ensures.writes held empty)

pub returns-in-Err-clause-runs : goal.returns-in-Err-clause-runs
returns-in-Err-clause-runs g c = λ stream held known empty. runs_err c.args.options.now stream held _ _ c.in-Err.fault (c.in-Err.ensures.takes stream known) empty
