-- The lines of a cut are appended: its cost, its plan, its prices and `end`.
use Rattle.hls_check.proofs.Written.{cut_written}
use Rattle.hls_check.proofs.writer.push_cut.Goals as goal

pub returns : goal.returns
returns c =
    cut_written c.args.out.now.items c.args.cost c.args.plan.now c.args.prices.now c.push_number_line.new.out.items c.push_plan.new.out.items
    c.push_prices.new.out.items c.push_word_line.new.out.items
    c.in_ok-push_number_line.ensures c.in_ok-push_plan.ensures c.in_ok-push_prices.ensures c.in_ok-push_word_line.ensures
