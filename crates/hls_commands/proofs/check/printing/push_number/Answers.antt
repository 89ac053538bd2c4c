-- The line gets a space and the digits of the number.
use Rattle.hls_commands.proofs.PrintLaws.{one_number}
use Rattle.hls_commands.proofs.check.printing.push_number.Goals as goal

pub returns-clause-bytes : goal.returns-clause-bytes
returns-clause-bytes c = one_number _ _ _ _ c.args.number c.push_str.ensures.bytes c.push_str-2.ensures.bytes c.format.ensures.text
