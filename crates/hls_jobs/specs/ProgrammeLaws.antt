-- The laws of programmes by address.
use Rattle.std.specs.Prelude.{◌≡◌, ℕ, true, Ok}
use Rattle.hls_check_tables.specs.Tables.{Table, place_at}
use Rattle.hls_places_laws.specs.Programmes.{is_kept_above}
use Rattle.hls_core_laws.specs.State.{State}
use Rattle.hls_core_laws.specs.Follows.{Follows}
use Rattle.hls_core_laws.specs.Places.{floors}
use Rattle.hls_catchup.specs.declared.request.Request.{Request}
use Rattle.hls_catchup.specs.declared.cut_result.CutResult.{CutResult}
use Rattle.hls_catchup.specs.Requests.{IsRightAnswer, IsTableFor}
use Rattle.hls_jobs.specs.Programmes.{programme_list_in}

-- a state keeps the first place of a table
abbrev pub KeepsProgramme : State → Table → Type 0
KeepsProgramme s t = is_kept_above (floors s) (place_at t.places 0) ≡ true

-- a programme that a state has is the same in every state that follows, as long as its first place is kept
abbrev pub ProgrammesStay : Type 0
ProgrammesStay = (a b : State) (request : Request) (t : Table) → Follows a b → IsTableFor a request (Ok t) → KeepsProgramme b t → IsTableFor b request (Ok t)

-- an answer of the first state is right in the second, and its playlists have the same texts there
pub record IsRightStill (a b : State) (request : Request) (cut_result : CutResult) : Type 0 where
  pub right : IsRightAnswer b request cut_result
  pub lists : (r : ℕ) → programme_list_in b cut_result r ≡ programme_list_in a cut_result r

-- a right answer stays right in every state that follows, as long as the programme's first place is kept: its certificate and its
-- playlists' texts are never stale
abbrev pub ProgrammeAnswersStay : Type 0
ProgrammeAnswersStay = (a b : State) (request : Request) (cut_result : CutResult) → Follows a b → (answer : IsRightAnswer a request cut_result)
    → KeepsProgramme b answer.table → IsRightStill a b request cut_result
