-- A programme of a channel is the same in each state that follows, if the programme's beginning is kept there.
use Rattle.hls_jobs.proofs.ProgrammesStay as laws
use Rattle.hls_jobs.proofs.laws.programmes_stay.Goals as goal

pub returns : goal.returns
returns c = laws.programmes_stay
