-- If the unit's length is less than its head's or above the limit, nothing can replace the trimmed unit, so the record is wrong.
use Rattle.std.proofs.Common.{arith, ap, length}
use Rattle.std.proofs.Common.{length-drop}
use Rattle.hls_journal.proofs.NoHead.{rest_is}
use Rattle.hls_journal.proofs.Units.{not_trimmed}
use Rattle.hls_journal.proofs.restart.make_trimmed_unit.Goals as goal

pub returns-then-len-head-clause-fault : goal.returns-then-len-head-clause-fault
returns-then-len-head-clause-fault c =
    not_trimmed c.args.body.now (λ fits. omega (arith, fits, c.if-len-head.true, c.read_unit_len-len.ensures, length-drop 16 c.args.body.now, ap length (rest_is c.args.body.now 16)))

pub returns-then-len-gt-UNIT_LIMIT-clause-fault : goal.returns-then-len-gt-UNIT_LIMIT-clause-fault
returns-then-len-gt-UNIT_LIMIT-clause-fault c = not_trimmed c.args.body.now (λ fits. omega (arith, c.if-len-gt-UNIT_LIMIT.true, c.read_unit_len-len.ensures))
