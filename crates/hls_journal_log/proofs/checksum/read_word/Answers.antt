-- Eight bytes that are read as one lane give their number, the lowest byte first.
use Rattle.hls_journal_log.proofs.Checksums.{word_is}
use Rattle.hls_journal_log.proofs.checksum.read_word.Goals as goal

pub returns : goal.returns
returns c = word_is c.args.bytes c.fits-bytes.0 c.fits-bytes.1
