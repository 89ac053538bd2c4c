-- How far a part of a body was taken, if units are mended.
use Rattle.std.specs.Prelude.{◌≡◌, ◌<◌, ℕ, Bool, true, false, Option, Some, None, Result, Ok, Err, List, length, take, slice_index_or}
use Rattle.hls_media_laws.specs.{InitData.InitData, IsInitOrUnit.IsUnit}
use Rattle.hls_core_laws.specs.declared.{event.Event.TheVariants.Accept, refusal.Refusal.{Refusal, TheVariants.Overlap}, done.Done.Done}
use Rattle.hls_core.specs.{declared.feed_fault.{FeedFault.FeedFault, StreamFault.TheVariants.AheadOfChannel}}
use Rattle.hls_core_laws.specs.State.{State}
use Rattle.hls_mend_laws.specs.declared.settings.MendSettings.{MendSettings}
use Rattle.hls_mend.specs.{MendedUnits.mended_view, declared.mended.MendedUnit.MendedUnit, declared.mended.ReadUnit.ReadUnit}
use Rattle.hls_api.specs.declared.ingest.IngestCounts.{IngestCounts}
use Rattle.hls_api.specs.Acts.{Act, AtMostOne, IsFailedSubmit, IsLook, RecordsSubmit}
use Rattle.hls_api.specs.Ingest.{ChoosesInit, DecidesPart, DecidesUnit, Progress, RefusesAhead, StopsBeforeUnit, SubmitsFiller, SubmitsFillers, mended_in, mended_result, with_mended}
use Rattle.hls_core.specs.declared.feed_fault.FeedFault.TheVariants as feed_faults

-- the progress with other acts
abbrev pub with_acts : Progress → List Act → Progress
with_acts x acts = record x { acts = acts }

-- the progress with other counts and acts
abbrev pub with_counts : Progress → IngestCounts → List Act → Progress
with_counts x counts acts = record x { acts = acts; counts = counts }

-- a unit was read under the init section that was found
abbrev pub HasReadUnit : Option InitData → ReadUnit → Type 0
HasReadUnit None u = ⊥
HasReadUnit (Some init) u = IsUnit init u.bytes u.facts

-- the init section to submit is found; or an allocation failed
abbrev pub ChoosesInitOrFails : ℕ → Progress → List ℕ → Progress → Result (List ℕ) FeedFault → Type 0
ChoosesInitOrFails r x bytes y (Ok chosen) = (y ≡ with_acts x y.acts) × ChoosesInit r x bytes chosen y.acts
ChoosesInitOrFails r x bytes y (Err (feed_faults.Refused fault)) = ⊥
ChoosesInitOrFails r x bytes y (Err feed_faults.Memory) = AtMostOne IsLook x.acts y.acts

-- what mending makes of a unit in a state; or an allocation failed
abbrev pub MakesMended : MendSettings → ℕ → Option InitData → State → ReadUnit → Result MendedUnit FeedFault → Type 0
MakesMended settings r found s u (Ok mended) = (init : InitData) → found ≡ Some init → mended_view mended ≡ mended_in settings r s init u
MakesMended settings r found s u (Err (feed_faults.Refused fault)) = ⊥
MakesMended settings r found s u (Err feed_faults.Memory) = Unit {0}

-- what is submitted for a unit is decided; or it is refused as ahead of the channel; or an allocation failed
abbrev pub DecidesUnitOrFails : MendSettings → ℕ → Progress → ReadUnit → Progress → Result MendedUnit FeedFault → Type 0
DecidesUnitOrFails settings r x u y (Ok mended) =
    (y ≡ with_acts x y.acts) × ((init : InitData) → x.init ≡ Some init → DecidesUnit settings r init u x.acts (mended_view mended) y.acts)
DecidesUnitOrFails settings r x u y (Err (feed_faults.Refused fault)) =
    (fault ≡ AheadOfChannel) × (y ≡ with_acts x y.acts) × RefusesAhead settings r u.facts x.acts y.acts
DecidesUnitOrFails settings r x u y (Err feed_faults.Memory) = AtMostOne IsLook x.acts y.acts

-- what is submitted for a unit was decided, and nothing is submitted yet
pub record IsPrepared (settings : MendSettings) (r : ℕ) (x : Progress) (bytes : List ℕ) (y : Progress) (mended : MendedUnit) : Type 0 where
  pub init : InitData
  pub is : y.init ≡ Some init
  pub decided : DecidesPart settings r x bytes init (mended_view mended) y.acts
  pub counts : y.counts ≡ x.counts

-- what is submitted for a unit was decided; or the unit was refused or an allocation failed, and it isn't submitted
abbrev pub PreparesOrStops : MendSettings → ℕ → Progress → List ℕ → Progress → Result MendedUnit FeedFault → Type 0
PreparesOrStops settings r x bytes y (Ok mended) = IsPrepared settings r x bytes y mended
PreparesOrStops settings r x bytes y (Err fault) = StopsBeforeUnit settings r x bytes y (Err fault)

-- a filler is submitted, and doesn't overlap; or it does; or an allocation failed
abbrev pub SubmitsFillerOrFails : ℕ → Progress → ReadUnit → Progress → Result Bool FeedFault → Type 0
SubmitsFillerOrFails r x filler y (Ok true) = (y ≡ with_counts x y.counts y.acts) × SubmitsFiller r filler x.counts x.acts y.counts y.acts
SubmitsFillerOrFails r x filler y (Ok false) = (y ≡ with_acts x y.acts) × RecordsSubmit x.acts (Accept r filler.facts filler.bytes) (Err Overlap) y.acts
SubmitsFillerOrFails r x filler y (Err (feed_faults.Refused fault)) = ⊥
SubmitsFillerOrFails r x filler y (Err feed_faults.Memory) = AtMostOne IsFailedSubmit x.acts y.acts

-- one of the fillers overlaps, and those before it don't
pub record StopsAtOverlap (r : ℕ) (x : Progress) (fillers : List ReadUnit) (counts : IngestCounts) (after : List Act) : Type 0 where
  pub count : ℕ
  pub within : count < length fillers
  pub filler : ReadUnit
  pub filler_is : filler ≡ slice_index_or fillers count filler
  pub before : List Act
  pub fills : SubmitsFillers r (take count fillers) x.counts x.acts counts before
  pub overlaps : RecordsSubmit before (Accept r filler.facts filler.bytes) (Err Overlap) after

-- an allocation failed in a filler, after the first `count` were submitted
pub record StopsInFillers (r : ℕ) (x : Progress) (fillers : List ReadUnit) (after : List Act) : Type 0 where
  pub count : ℕ
  pub filled : IngestCounts
  pub before : List Act
  pub fills : SubmitsFillers r (take count fillers) x.counts x.acts filled before
  pub failed : AtMostOne IsFailedSubmit before after

-- fillers are submitted; or one overlaps; or an allocation failed after some of them
abbrev pub SubmitsFillersOrFail : ℕ → Progress → List ReadUnit → Progress → Result Bool FeedFault → Type 0
SubmitsFillersOrFail r x fillers y (Ok true) = (y ≡ with_counts x y.counts y.acts) × SubmitsFillers r fillers x.counts x.acts y.counts y.acts
SubmitsFillersOrFail r x fillers y (Ok false) = (y ≡ with_counts x y.counts y.acts) × StopsAtOverlap r x fillers y.counts y.acts
SubmitsFillersOrFail r x fillers y (Err (feed_faults.Refused fault)) = ⊥
SubmitsFillersOrFail r x fillers y (Err feed_faults.Memory) = StopsInFillers r x fillers y.acts

-- a unit is submitted, and the counts and the result are by its answer
pub record SubmitsMended (r : ℕ) (x : Progress) (u : ReadUnit) (changed : Bool) (y : Progress) (result : Result (Unit {0}) FeedFault) : Type 0 where
  pub answer : Result Done Refusal
  pub submits : RecordsSubmit x.acts (Accept r u.facts u.bytes) answer y.acts
  pub counts : y.counts ≡ with_mended changed answer x.counts
  pub kept : y.init ≡ x.init
  pub result_is : result ≡ mended_result answer
