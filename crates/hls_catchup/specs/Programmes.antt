-- For the proofs of this crate; no public clause cites it. A request's programme among the places.
use Rattle.std.specs.Prelude.{◌≡◌, ◌+◌, ◌≤◌, length, take, Result, Ok, Err}
use Rattle.hls_check_tables.specs.Tables.{Table, IsTable, table_of}
use Rattle.hls_check_tables.specs.Orders.{IsOrderly}
use Rattle.hls_places_laws.specs.Order.{spots_of}
use Rattle.hls_core.specs.KeptPlaces.{IsLastKeptBy}
use Rattle.hls_core_laws.specs.Places.{places}
use Rattle.hls_core_laws.specs.State.{State}
use Rattle.hls_catchup.specs.declared.programme.Programme.{Programme}
use Rattle.hls_catchup.specs.declared.request.Request.{Request}
use Rattle.hls_catchup.specs.declared.fault.CatchFault.{CatchFault}
use Rattle.hls_catchup.specs.KeptPlaces.{kept_places_from, places_and_floors_of}
use Rattle.hls_catchup.specs.Requests.{goal_for, IsTableFor}

-- the table of a programme's places
abbrev pub programme_table : State → Request → Programme → Table
programme_table s request p =
    table_of (goal_for s request) (length s.config.renditions) (spots_of (take p.count (kept_places_from p.places p.from)))

-- the programme's places make the table for the request
pub record ArePlacesFor (s : State) (request : Request) (p : Programme) : Type 0 where
  pub within : p.from ≤ length p.places.items
  pub places_are : p.places ≡ places_and_floors_of s
  pub kept : IsLastKeptBy s request.start_us p.from
  pub there : p.from + p.count ≤ length (places s)
  pub defined : IsTableFor s request (Ok (programme_table s request p))
  pub valid : IsTable (programme_table s request p)
  pub orderly : IsOrderly (programme_table s request p)

-- the programme, or the first fault
abbrev pub IsProgrammeOrFault : State → Request → Result Programme CatchFault → Type 0
IsProgrammeOrFault s request (Ok p) = ArePlacesFor s request p
IsProgrammeOrFault s request (Err fault) = IsTableFor s request (Err fault)
