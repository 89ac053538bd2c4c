-- A text that is written for a playlist consists of the playlist's lines, each followed by LF.
use Rattle.hls_m3u8.proofs.laws.written_text_is_lines.Goals as goal
use Rattle.hls_m3u8.proofs.Texts.{written_is_text}

pub returns : goal.returns
returns c = written_is_text
