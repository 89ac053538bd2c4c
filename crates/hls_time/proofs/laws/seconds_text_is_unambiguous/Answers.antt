-- If a text is read as two times, they are the same time.
use Rattle.hls_time.proofs.laws.seconds_text_is_unambiguous.Goals as goal
use Rattle.hls_time.proofs.SecondsRead.{one_time}

pub returns : goal.returns
returns c = one_time
