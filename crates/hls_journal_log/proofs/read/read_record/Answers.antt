-- A text that starts with a complete record consists of that record's bytes and a rest.
use Rattle.std.proofs.Common.{◌<◌, ℕ, get_or, arith, rules}
use Rattle.hls_journal_log.specs.Records.{IsRecord}
use Rattle.hls_journal_log.proofs.Steps.{rebuilt}
use Rattle.hls_journal_log.proofs.read.read_record.Goals as goal

pub returns-clause-split : goal.returns-clause-split
returns-clause-split c =
    let is : IsRecord c.args.number c.args.text.now = record { small = search rules; complete = search rules; sum = search rules } in
    let bytes : (i : ℕ) → get_or c.args.text.now i 0 < 256 = λ i. let fits = c.type_inv.text i in omega arith in
    rebuilt c.args.number c.args.text.now bytes is
