-- The listing of a channel of one rendition.
use Rattle.std.specs.Prelude.{◌≡◌, ◌≤◌, ℕ, List, length, IsSome, Some, Result}
use Rattle.hls_record.specs.RecordingData.{RecordingData}
use Rattle.hls_check_tables.specs.declared.spot.Spot.{Spot}
use Rattle.hls_check_tables.specs.Tables.{charge_of, charge_limit, goal_of, table_of}
use Rattle.hls_places_laws.specs.Order.{spots_of}
use Rattle.hls_core_laws.specs.State.{State}
use Rattle.hls_core_laws.specs.Places.{places}
use Rattle.hls_core.specs.Getters.{recording_of}
use Rattle.hls_commands.specs.declared.listing_mode.ListingMode.{ListingMode}
use Rattle.hls_commands.specs.declared.listing_mode.ListingMode.TheVariants.{Each, Planned}
use Rattle.hls_commands.specs.declared.listing_mode.ListingOutput.{ListingOutput}
use Rattle.hls_commands.specs.declared.listing_fault.ListingFault.{ListingFault}
use Rattle.hls_commands.specs.Each.{ListsEach}
use Rattle.hls_commands.specs.Plans.{ListsLeastPlan}

-- the channel has one rendition, and it has begun
pub record IsSingle (s : State) : Type 0 where
  pub one : length s.config.renditions ≡ 1
  pub begun : IsSome (recording_of s 0)

-- all places of a channel, as a table has them
abbrev pub all_places : State → List (List Spot)
all_places s = spots_of (places s)

-- the listing mode's charge for a segment, if it has one, is at most an hour
abbrev pub CanList : ListingMode → Type 0
CanList Each = Unit {0}
CanList (Planned rule certificate) = charge_of rule ≤ charge_limit

-- the listing of a recording with the state's target duration, preferred length, epoch and places
abbrev pub ListsOf : State → RecordingData → List ℕ → ListingMode → Result ListingOutput ListingFault → Type 0
ListsOf s recorded uri Each result = ListsEach s.config.target s.config.epoch recorded (all_places s) uri result
ListsOf s recorded uri (Planned rule certificate) result =
    ListsLeastPlan certificate (table_of (goal_of s.config.target s.config.preferred rule) 1 (all_places s)) s.config.epoch recorded uri result

-- the listing of the state's only recording
abbrev pub Lists : State → List ℕ → ListingMode → Result ListingOutput ListingFault → Type 0
Lists s uri listing result = (recorded : RecordingData) → recording_of s 0 ≡ Some recorded → ListsOf s recorded uri listing result
