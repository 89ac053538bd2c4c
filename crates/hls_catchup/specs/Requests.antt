-- How a state answers a request.
use Rattle.std.specs.Prelude.{◌≡◌, ℕ, ◌*◌, ◌<◌, ◌≤◌, Bool, List, length, slice_get, Some, Result, Ok, Err}
use Rattle.std.specs.List.{list_all}
use Rattle.hls_check_tables.specs.declared.goal.Goal.{Goal}
use Rattle.hls_check_tables.specs.Tables.{Table, charge_of, charge_limit, goal_of}
use Rattle.hls_record.specs.RecordingData.{RecordingData}
use Rattle.hls_core_laws.specs.State.{State, channel}
use Rattle.hls_core_laws.specs.Places.{is_finished, kept_places}
use Rattle.hls_core.specs.Getters.{recording_of}
use Rattle.hls_places_laws.specs.declared.fault.ProgrammeFault.{ProgrammeFault}
use Rattle.hls_places_laws.specs.declared.fault.ProgrammeFault.TheVariants as programme
use Rattle.hls_places_laws.specs.Programmes.{IsProgramme}
use Rattle.hls_catchup.specs.declared.request.Request.{Request}
use Rattle.hls_catchup.specs.declared.fault.CatchFault.{CatchFault}
use Rattle.hls_catchup.specs.declared.fault.CatchFault.TheVariants.{BadRange, BadPreferred, BadCharge, BeforeRecording, NotYet, AfterRecording, ProgrammeTooLong, Memory}
use Rattle.hls_catchup.specs.declared.cut_result.CutResult.{CutResult}
use Rattle.hls_catchup.specs.Answers.{AreCovered, IsRightCutResult}

-- every rendition is finished
abbrev pub all_finished : State → Bool
all_finished s = list_all is_finished (channel s).lanes

-- the preferred length is 1 microsecond to the channel's target duration
abbrev pub CanPrefer : State → Request → Type 0
CanPrefer s request = (1 ≤ request.preferred) × (request.preferred ≤ s.config.target * 1000000)

-- the charge for a segment is at most an hour
abbrev pub CanCharge : Request → Type 0
CanCharge request = charge_of request.rule ≤ charge_limit

-- the goal for the segments of a request: the channel's target duration, the preferred length and the charge
abbrev pub goal_for : State → Request → Goal
goal_for s request = goal_of s.config.target request.preferred request.rule

-- everything about a request that doesn't depend on the places is valid
pub record IsInRange (s : State) (request : Request) : Type 0 where
  pub order : request.start_us < request.stop_us
  pub preferred : CanPrefer s request
  pub charge : CanCharge request

-- the request is in range, and this is the result of its programme among the kept places of the state
pub record HasTableOrFault (s : State) (request : Request) (found : Result Table ProgrammeFault) : Type 0 where
  pub in_range : IsInRange s request
  pub programme : IsProgramme (goal_for s request) (kept_places s) (all_finished s) request.start_us request.stop_us found

-- The table of the requested programme, or the first refusal, in the order of the lines. Memory may only run out in place of the
-- table.
abbrev pub IsTableFor : State → Request → Result Table CatchFault → Type 0
IsTableFor s request (Err BadRange) = request.stop_us ≤ request.start_us
IsTableFor s request (Err BadPreferred) = (request.start_us < request.stop_us) × ¬ CanPrefer s request
IsTableFor s request (Err BadCharge) = (request.start_us < request.stop_us) × CanPrefer s request × ¬ CanCharge request
IsTableFor s request (Err BeforeRecording) = HasTableOrFault s request (Err programme.BeforeRecording)
IsTableFor s request (Err NotYet) = HasTableOrFault s request (Err programme.NotYet)
IsTableFor s request (Err AfterRecording) = HasTableOrFault s request (Err programme.AfterRecording)
IsTableFor s request (Err ProgrammeTooLong) = HasTableOrFault s request (Err programme.ProgrammeTooLong)
IsTableFor s request (Ok t) = HasTableOrFault s request (Ok t)
IsTableFor s request (Err Memory) = HasTableOrFault s request (Err programme.Memory)

-- the recordings of all renditions
pub record AreRecordings (s : State) (recordings : List RecordingData) : Type 0 where
  pub count : length recordings ≡ length (channel s).lanes
  pub each : (r : ℕ) (recorded : RecordingData) → slice_get recordings r ≡ Some recorded → recording_of s r ≡ Some recorded

-- a right answer: that of the programme's table, over the recordings of this very state, dated by its epoch
pub record IsRightAnswer (s : State) (request : Request) (cut_result : CutResult) : Type 0 where
  pub table : Table
  pub defined : IsTableFor s request (Ok table)
  pub recordings : List RecordingData
  pub are : AreRecordings s recordings
  pub covered : AreCovered table recordings
  pub right : IsRightCutResult s.config.epoch recordings table cut_result
