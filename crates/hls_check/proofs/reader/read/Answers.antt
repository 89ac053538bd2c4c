-- A text without a wrong line is read as its certificate, or memory fails. The text of a certificate has no wrong line,
-- so the result for it is that certificate or the failure.
use Rattle.hls_check.proofs.Wrongs.{gives, reads}
use Rattle.hls_check.proofs.reader.read.Goals as goal

pub returns-in-Some-clause-only : goal.returns-in-Some-clause-only
returns-in-Some-clause-only c = λ other good e. absurd (c.in-Some.ensures.no_text other good e)

pub returns-clause-answer : goal.returns-clause-answer
returns-clause-answer c = reads c.args.bytes.now c.read_certificate.result c.in_default.ensures c.read_certificate.ensures

pub returns-clause-only : goal.returns-clause-only
returns-clause-only c = λ other good e.
    gives c.args.bytes.now other c.read_certificate.result (reads c.args.bytes.now c.read_certificate.result c.in_default.ensures c.read_certificate.ensures) good e
