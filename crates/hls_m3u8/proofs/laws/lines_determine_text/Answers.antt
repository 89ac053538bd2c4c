-- Lines make the same text by this crate's definition and by that of `hls_text`.
use Rattle.hls_m3u8.proofs.Joined.{alike}
use Rattle.hls_m3u8.proofs.laws.lines_determine_text.Goals as goal

pub returns : goal.returns
returns c = alike
