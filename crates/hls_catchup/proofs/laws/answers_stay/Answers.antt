-- A right answer of a state is a right answer of each state that follows, if the programme is the same there.
use Rattle.hls_catchup.proofs.AnswersStay as laws
use Rattle.hls_catchup.proofs.laws.answers_stay.Goals as goal

pub returns : goal.returns
returns c = laws.answers_stay
