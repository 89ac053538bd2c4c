-- The exit statuses of the commands.
use Rattle.std.specs.Prelude.{ℕ}
use Rattle.hls_commands.specs.declared.check.run.CheckEnd.{CheckEnd}
use Rattle.hls_commands.specs.declared.check.run.CheckEnd.TheVariants as check
use Rattle.hls_commands.specs.declared.cut.run.CutEnd.{CutEnd}
use Rattle.hls_commands.specs.declared.cut.run.CutEnd.TheVariants as cut
use Rattle.hls_commands.specs.declared.explain.ExplainEnd.{ExplainEnd}
use Rattle.hls_commands.specs.declared.explain.ExplainEnd.TheVariants as explain
use Rattle.hls_commands.specs.declared.lint.run.LintEnd.{LintEnd}
use Rattle.hls_commands.specs.declared.lint.run.LintEnd.TheVariants as lint
use Rattle.hls_origin.specs.declared.serve.run.ServeEnd.{ServeEnd}
use Rattle.hls_origin.specs.declared.serve.run.ServeEnd.TheVariants as serve

-- arguments that name nothing that the program does
abbrev pub usage_status : ℕ
usage_status = 2

-- the exit status of `cut`
abbrev pub cut_status : CutEnd → ℕ
cut_status cut.Done = 0
cut_status (cut.Refused f) = 1
cut_status (cut.Usage fault) = usage_status
cut_status cut.NoCut = 3

-- the exit status of `check`
abbrev pub check_status : CheckEnd → ℕ
check_status check.Yes = 0
check_status check.Refused = 1
check_status check.ReadFailed = 1
check_status (check.WriteFailed answer) = 1

-- the exit status of `lint`
abbrev pub lint_status : LintEnd → ℕ
lint_status lint.Readable = 0
lint_status lint.Refused = 1
lint_status lint.ReadFailed = 1
lint_status lint.WriteFailed = 1

-- the exit status of `explain`
abbrev pub explain_status : ExplainEnd → ℕ
explain_status explain.Explained = 0
explain_status explain.Unknown = 1
explain_status explain.WriteFailed = 1
explain_status explain.Memory = 1

-- the exit status of `serve`
abbrev pub serve_status : ServeEnd → ℕ
serve_status serve.Done = 0
serve_status (serve.Usage fault) = usage_status
serve_status (serve.Base fault) = usage_status
serve_status (serve.Journal fault) = usage_status
serve_status serve.NoFolder = usage_status
serve_status serve.OtherJournal = usage_status
serve_status serve.JournalFailed = 1
serve_status serve.BindFailed = 1
serve_status serve.Memory = 1
