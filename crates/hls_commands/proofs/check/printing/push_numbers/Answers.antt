-- A fault without numbers appends nothing to the line.
use Rattle.std.proofs.Common.{arith}
use Rattle.hls_commands.proofs.PrintLaws.{no_numbers}
use Rattle.hls_commands.proofs.check.printing.push_numbers.Goals as goal

pub returns-in-PlanEnds : goal.returns-in-PlanEnds
returns-in-PlanEnds c = record { bytes = no_numbers _ c.args.fault c.in-PlanEnds.is; len = omega arith }
