-- A fault without a line number appends nothing to the line.
use Rattle.std.proofs.Common.{arith}
use Rattle.hls_commands.proofs.LintLines.{no_lines}
use Rattle.hls_commands.proofs.lint.printing.push_fault_line_number.Goals as goal

pub returns-in-NotM3u : goal.returns-in-NotM3u
returns-in-NotM3u c = record { bytes = no_lines _ c.args.fault c.in-NotM3u.is; len = omega arith }
