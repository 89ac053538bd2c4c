-- A right answer to a request for a programme stays right in each state that follows and keeps the programme's beginning, and its playlists and
-- certificate stay the same.
use Rattle.hls_jobs.proofs.ListsStay.{lists_stay}
use Rattle.hls_jobs.proofs.ProgrammesStay.{programmes_stay}
use Rattle.hls_jobs.proofs.laws.programme_answers_stay.Goals as goal

pub returns : goal.returns
returns c = λ a b request cut_result follows answer keeps. record {
  right = c.answers_stay.ensures a b request cut_result follows answer (programmes_stay a b request answer.table follows answer.defined keeps);
  lists = lists_stay a b follows request cut_result answer;
}
