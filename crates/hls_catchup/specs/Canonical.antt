-- Requests whose times lie within the same places ask for the same programme: one of them is canonical.
use Rattle.std.specs.Prelude.{◌≡◌, ◌↔◌, ℕ, Result, Ok, Err}
use Rattle.hls_check_tables.specs.Tables.{Table}
use Rattle.hls_places_laws.specs.Programmes.{IsFirstPlaceFrom, IsLastPlaceBy, time_at}
use Rattle.hls_core_laws.specs.State.{State}
use Rattle.hls_core_laws.specs.Places.{kept_places}
use Rattle.hls_catchup.specs.declared.cut_result.CutResult.{CutResult}
use Rattle.hls_catchup.specs.declared.fault.CatchFault.{CatchFault}
use Rattle.hls_catchup.specs.declared.request.Request.{Request}
use Rattle.hls_catchup.specs.Requests.{IsInRange, IsRightAnswer, IsTableFor}

-- a request with other times
abbrev pub with_times : Request → ℕ → ℕ → Request
with_times request start stop = record { start_us = start; stop_us = stop; preferred = request.preferred; rule = request.rule }

-- the canonical request starts at the last kept place at or before the request's start, and stops at the first one at or after its stop
pub record IsCanonical (s : State) (request canonical : Request) : Type 0 where
  pub in_range : IsInRange s request
  pub first : ℕ
  pub last : ℕ
  pub begins : IsLastPlaceBy (kept_places s) request.start_us first
  pub ends : IsFirstPlaceFrom (kept_places s) request.stop_us last
  pub is : canonical ≡ with_times request (time_at (kept_places s) first) (time_at (kept_places s) last)

-- the state has the programme of the request
abbrev pub HasProgramme : State → Request → Type 0
HasProgramme s request = (t : Table) × IsTableFor s request (Ok t)

-- the canonical request, if the state has the programme, or the first fault
abbrev pub IsCanonicalOrFault : State → Request → Result Request CatchFault → Type 0
IsCanonicalOrFault s request (Ok canonical) = HasProgramme s request × IsCanonical s request canonical
IsCanonicalOrFault s request (Err fault) = IsTableFor s request (Err fault)

-- two requests have the same table or fault, and the same right answers; the second is the only canonical request of the first, and its own
pub record IsSameProgramme (s : State) (request canonical : Request) : Type 0 where
  pub table : (found : Result Table CatchFault) → IsTableFor s canonical found ↔ IsTableFor s request found
  pub answer : (cut_result : CutResult) → IsRightAnswer s canonical cut_result ↔ IsRightAnswer s request cut_result
  pub only : (other : Request) → IsCanonical s request other → other ≡ canonical
  pub own : IsCanonical s canonical canonical

-- a canonical request asks for the same programme
abbrev pub CanonicalProgrammesAreSame : Type 0
CanonicalProgrammesAreSame = (s : State) (request canonical : Request) → IsCanonical s request canonical → IsSameProgramme s request canonical
