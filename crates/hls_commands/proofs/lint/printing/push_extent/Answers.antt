-- Three texts are appended one after another: the number of segments, their total length, and the unit.
use Rattle.std.proofs.Common.{◌++◌, ◌∙◌, ap}
use Rattle.std.specs.Prelude.{codes}
use Rattle.hls_commands.specs.LintAnswer.{count_words, length_words, total_us}
use Rattle.hls_commands.proofs.LintLines.{three_written}
use Rattle.hls_commands.proofs.lint.printing.push_extent.Goals as goal

pub returns : goal.returns
returns c =
    three_written c.args.out.now.items c.push_count.new.out.items c.push_length.new.out.items c.extend_from_slice.new.self.items
    (count_words c.args.segments.now) (length_words (total_us c.args.segments.now)) (codes " seconds")
    c.in_ok-push_count.ensures
    (c.in_ok-push_length.ensures ∙ ap (λ us. c.push_count.new.out.items ++ length_words us) c.total_us.ensures)
    c.in_ok-extend_from_slice.ensures.items
