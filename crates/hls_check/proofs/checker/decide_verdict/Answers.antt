-- If all earlier tests pass and some step doesn't respect the prices, the first such step is the certificate's fault.
use Rattle.hls_check.proofs.ClosedPrices.{broken_answer}
use Rattle.hls_check.proofs.checker.decide_verdict.Goals as goal

pub returns-in-Some : goal.returns-in-Some
returns-in-Some c =
    broken_answer c.args.table.now _ c.in-Some.p c.in-Some.q c.requires.open (rw c.in-Some.is at c.requires.found)
