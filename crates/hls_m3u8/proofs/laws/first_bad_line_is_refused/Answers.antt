-- Lines are rejected with a fault if and only if one of them is rejected with that fault after all lines before it are read.
use Rattle.hls_m3u8.proofs.FirstRefusals as first
use Rattle.hls_m3u8.proofs.laws.first_bad_line_is_refused.Goals as goal

pub returns : goal.returns
returns c = first.refused_at_first
