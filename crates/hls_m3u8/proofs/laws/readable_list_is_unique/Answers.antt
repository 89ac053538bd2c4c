-- Two playlists that the same text can be read as are equal.
use Rattle.hls_m3u8.proofs.FirstRefusals.{one_list}
use Rattle.hls_m3u8.proofs.laws.readable_list_is_unique.Goals as goal

pub returns : goal.returns
returns c = one_list
