-- The version lines are appended: one for rule 1, and for rule 2 a second with its charge.
use Rattle.hls_check.proofs.Written.{rule_written}
use Rattle.hls_check.proofs.writer.push_rule.Goals as goal

pub returns-in-Deviation : goal.returns-in-Deviation
returns-in-Deviation c = rw c.in-Deviation.is c.push_word_line.ensures

pub returns-in_ok-push_number_line-in-Charged : goal.returns-in_ok-push_number_line-in-Charged
returns-in_ok-push_number_line-in-Charged c =
    rw c.in-Charged.is
    (rule_written c.args.out.now.items c.in-Charged.charge c.push_word_line-in-Charged.new.out.items c.push_number_line.new.out.items
    c.in_ok-push_word_line-in-Charged.ensures c.in_ok-push_number_line-in-Charged.ensures)
