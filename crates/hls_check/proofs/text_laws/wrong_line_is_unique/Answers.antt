-- A text has at most one first wrong line.
use Rattle.hls_check.proofs.Wrongs.{wrong_is_one}
use Rattle.hls_check.proofs.text_laws.wrong_line_is_unique.Goals as goal

pub returns : goal.returns
returns c = wrong_is_one
