-- A right answer stays right.
use Rattle.std.specs.Prelude.{Ok}
use Rattle.hls_core_laws.specs.Follows.{Follows}
use Rattle.hls_core_laws.specs.State.{State}
use Rattle.hls_catchup.specs.declared.cut_result.CutResult.{CutResult}
use Rattle.hls_catchup.specs.declared.request.Request.{Request}
use Rattle.hls_catchup.specs.Requests.{IsRightAnswer, IsTableFor}

-- a right answer of a state is one of each state that follows, if the programme is the same there
abbrev pub AnswersStay : Type 0
AnswersStay = (a b : State) (request : Request) (cut_result : CutResult) → Follows a b → (answer : IsRightAnswer a request cut_result)
    → IsTableFor b request (Ok answer.table) → IsRightAnswer b request cut_result
