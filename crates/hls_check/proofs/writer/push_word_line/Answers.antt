-- A line that consists of the word is appended.
use Rattle.hls_check.proofs.Written.{word_written}
use Rattle.hls_check.proofs.writer.push_word_line.Goals as goal

pub returns : goal.returns
returns c =
    word_written c.args.out.now.items c.args.word.now c.extend_from_slice.new.self.items c.push.new.self.items
    c.in_ok-extend_from_slice.ensures.items c.in_ok-push.ensures.items
