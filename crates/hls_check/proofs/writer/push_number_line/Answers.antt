-- A line of the word and the number is appended.
use Rattle.hls_check.proofs.Written.{number_line_written}
use Rattle.hls_check.proofs.writer.push_number_line.Goals as goal

pub returns : goal.returns
returns c =
    number_line_written c.args.out.now.items c.args.word.now c.args.number c.extend_from_slice.new.self.items
    c.push_number.new.out.items c.push.new.self.items
    c.in_ok-extend_from_slice.ensures.items c.in_ok-push_number.ensures c.in_ok-push.ensures.items
