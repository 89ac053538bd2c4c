-- The line gets the two numbers in order, each with a space before it.
use Rattle.hls_commands.proofs.PrintLaws.{two_numbers}
use Rattle.hls_commands.proofs.check.printing.push_pair.Goals as goal

pub returns-clause-bytes : goal.returns-clause-bytes
returns-clause-bytes c = two_numbers _ _ _ c.args.first c.args.second c.push_number.ensures.bytes c.push_number-2.ensures.bytes
