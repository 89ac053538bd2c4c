-- The programme of a channel's kept places, and one that is counted from a cut.
use Rattle.std.specs.Prelude.{◌≡◌, ℕ, List, map, Result, Ok, Err}
use Rattle.std.specs.List.{list_all}
use Rattle.hls_record.specs.RecordingData.{RecordingData}
use Rattle.hls_check_tables.specs.declared.goal.Goal.{Goal}
use Rattle.hls_check_tables.specs.declared.spot.Spot.{Spot}
use Rattle.hls_check_tables.specs.Plans.{IsLeast, IsPlan, plan_cost}
use Rattle.hls_check_tables.specs.Tables.{Table}
use Rattle.hls_places_laws.specs.declared.fault.ProgrammeFault.{ProgrammeFault}
use Rattle.hls_places_laws.specs.FromPlace.{spots_since}
use Rattle.hls_places_laws.specs.Programmes.{IsProgramme}
use Rattle.hls_core_laws.specs.State.{State, channel}
use Rattle.hls_core_laws.specs.Places.{is_finished, kept_places}
use Rattle.hls_playlists_laws.specs.JobPlaylists.{job_list}
use Rattle.hls_playlists_laws.specs.JobResource.{resource_of}
use Rattle.hls_playlists_laws.specs.SegmentLaws.{end_fragment, first_fragment}

-- the table or refusal of a programme that is cut from a channel
abbrev pub IsProgrammeOf : State → Goal → ℕ → ℕ → Result Table ProgrammeFault → Type 0
IsProgrammeOf s goal start stop found = IsProgramme goal (kept_places s) (list_all is_finished (channel s).lanes) start stop found

-- a table with its spots counted from a cut
abbrev pub table_since : List Spot → Table → Table
table_since cut t = record { goal = t.goal; renditions = t.renditions; places = map (spots_since cut) t.places }

-- the table with its spots counted from a cut, or the same refusal
abbrev pub programme_since : List Spot → Result Table ProgrammeFault → Result Table ProgrammeFault
programme_since cut (Ok t) = Ok (table_since cut t)
programme_since cut (Err fault) = Err fault

-- a channel has the programme of another one, counted from a cut, and no other
pub record HasSameProgramme (cut : List Spot) (a b : State) (goal : Goal) (start stop : ℕ) : Type 0 where
  pub same : (found : Result Table ProgrammeFault) → IsProgrammeOf a goal start stop found → IsProgrammeOf b goal start stop (programme_since cut found)
  pub no_other : (found : Result Table ProgrammeFault) → IsProgrammeOf b goal start stop found →
      (old : Result Table ProgrammeFault) × IsProgrammeOf a goal start stop old × (found ≡ programme_since cut old)

-- two tables have the same plans, with the same costs, so the same ones are least
pub record HasSamePlans (t u : Table) : Type 0 where
  pub plans : (plan : List ℕ) → IsPlan t plan → IsPlan u plan × (plan_cost u plan ≡ plan_cost t plan)
  pub no_others : (plan : List ℕ) → IsPlan u plan → IsPlan t plan
  pub least : (plan : List ℕ) → IsLeast t plan → IsLeast u plan
  pub least_before : (plan : List ℕ) → IsLeast u plan → IsLeast t plan

-- one rendition of two channels has the same playlist of a plan, and the same bytes for it
pub record HasSameList (a b : State) (t u : Table) (plan : List ℕ) (r : ℕ) (x y : RecordingData) : Type 0 where
  pub list : job_list b.config.epoch y r u plan ≡ job_list a.config.epoch x r t plan
  pub resource : resource_of y.head y.floor y.units (first_fragment u r) (end_fragment u r)
      ≡ resource_of x.head x.floor x.units (first_fragment t r) (end_fragment t r)
