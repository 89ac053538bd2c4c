-- The bytes that were sent, however they were taken, followed by those that wait, are all bytes.
use Rattle.hls_io.proofs.Handed.{none_lost}
use Rattle.hls_io.proofs.send_laws.sent_and_waiting_are_all.Goals as goal

pub returns : goal.returns
returns c = none_lost
