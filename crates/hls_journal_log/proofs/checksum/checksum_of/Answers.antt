-- Each round mixes one more word of the text into the state. After the loop the state is the checksum, once the bytes that make no whole word,
-- if any, are mixed in.
use Rattle.std.proofs.Common.{◌∙◌, ap, arith, length, sym, refl, []}
use Rattle.hls_journal_log.specs.Checksum.{mix, mix_words}
use Rattle.hls_journal_log.proofs.Checksums.{one_more_word, whole_words, last_word}
use Rattle.hls_journal_log.proofs.checksum.checksum_of.Goals as goal

pub loop-word-init : goal.loop-word-init
unfolding mix_words
loop-word-init c = c.mix-state.ensures ∙ ap (λ s. mix s (length c.args.text.now)) c.mix.ensures

pub loop-word-preserved : goal.loop-word-preserved
loop-word-preserved c =
    one_more_word (mix (mix 0x243f_6a88_85a3_08d3 c.args.number) (length c.args.text.now)) c.loop-word.word-index c.loop-word.state c.read_word.result c.mix-state-in-loop-word.result
    c.args.text.now _ [] c.as_chunks.result.0.now c.as_chunks.ensures.front c.loop-word-test.true c.as_chunks.ensures.front_len refl c.read_word.ensures c.mix-state-in-loop-word.ensures c.loop-word.invariant

pub returns-then-not-is_empty : goal.returns-then-not-is_empty
returns-then-not-is_empty c =
    last_word (mix (mix 0x243f_6a88_85a3_08d3 c.args.number) (length c.args.text.now)) c.loop-word.word-index c.loop-word.state c.read_uint.result c.mix-state-then-not-is_empty.result
    c.args.text.now c.as_chunks.result.1.now (omega (arith, c.loop-word-test.false, c.loop-word.auto.word-index-end, c.as_chunks.ensures.front_len)) (sym c.is_empty.ensures ∙ c.if-not-is_empty.true)
    c.as_chunks.ensures.back c.as_chunks.ensures.back_len c.read_uint.ensures c.mix-state-then-not-is_empty.ensures c.loop-word.invariant

pub returns-else-not-is_empty : goal.returns-else-not-is_empty
returns-else-not-is_empty c =
    whole_words (mix (mix 0x243f_6a88_85a3_08d3 c.args.number) (length c.args.text.now)) c.loop-word.word-index c.loop-word.state
    c.args.text.now c.as_chunks.result.1.now (omega (arith, c.loop-word-test.false, c.loop-word.auto.word-index-end, c.as_chunks.ensures.front_len)) c.as_chunks.ensures.back_len (sym c.is_empty.ensures ∙ c.if-not-is_empty.false)
    c.loop-word.invariant
