-- A playlist has one of the two written forms exactly if there is a text for it.
use Rattle.hls_m3u8.proofs.laws.text_exists_iff_writable.Goals as goal
use Rattle.hls_m3u8.proofs.Texts.{text_exactly_where}

pub returns : goal.returns
returns c = text_exactly_where
