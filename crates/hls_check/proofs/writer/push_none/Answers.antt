-- The lines of a claim that no cut exists are appended: `none`, the closed set and `end`.
use Rattle.hls_check.proofs.Written.{none_written}
use Rattle.hls_check.proofs.writer.push_none.Goals as goal

pub returns : goal.returns
returns c =
    none_written c.args.out.now.items c.args.closed.now c.push_word_line.new.out.items c.push_closed.new.out.items c.push_word_line-2.new.out.items
    c.in_ok-push_word_line.ensures c.in_ok-push_closed.ensures c.in_ok-push_word_line-2.ensures
