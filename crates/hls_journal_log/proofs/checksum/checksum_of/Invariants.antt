-- Before each round, the state is that of the number and the text's length, with the words so far mixed in.
use Rattle.std.proofs.Common.{◌≡◌, length}
use Rattle.hls_journal_log.specs.Checksum.{mix, mix_words}
use Rattle.hls_journal_log.proofs.checksum.checksum_of.Given as goal

abbrev pub invariant-loop-word : goal.invariant-loop-word
invariant-loop-word l = l.state ≡ mix_words (mix (mix 0x243f_6a88_85a3_08d3 l.number) (length l.text)) l.text l.word-index
