-- One more part, by the results of the readers and of the step.
use Rattle.std.proofs.Common.{◌≡◌, ◌∙◌, ℕ, List, Option, Some, None, Result, Ok, Err, refl, ap, sym}
use Rattle.hls_boxes.specs.declared.part.Part.TheVariants as parts
use Rattle.hls_media_laws.specs.declared.fault.MediaFault.{MediaFault}
use Rattle.hls_media_laws.specs.declared.fault.MediaFault.TheVariants as faults
use Rattle.hls_media_laws.specs.declared.facts.Facts.{Facts}
use Rattle.hls_media_laws.specs.InitData.{InitData}
use Rattle.hls_media_laws.specs.Inits.{init_of}
use Rattle.hls_media_laws.specs.IsInitOrUnit.{ReadsAs}
use Rattle.hls_media_laws.specs.UnitFacts.{facts}
use Rattle.hls_record.specs.RecordingData.{RecordingData}
use Rattle.hls_core_laws.specs.declared.event.Event.{Event}
use Rattle.hls_core_laws.specs.declared.event.Event.TheVariants.{Begin, Accept}
use Rattle.hls_core_laws.specs.declared.refusal.Refusal.{Refusal}
use Rattle.hls_core_laws.specs.declared.refusal.Refusal.TheVariants as refusal
use Rattle.hls_core_laws.specs.State.{State}
use Rattle.hls_core_laws.specs.Outcome.{Outcome, New, Repeated, Refused, outcome_of}
use Rattle.hls_core_laws.specs.Moves.{IsRefused, state_with_entry}
use Rattle.hls_core.specs.Getters.{recording_of}
use Rattle.hls_core.specs.declared.feed_fault.StreamFault.{StreamFault}
use Rattle.hls_core.specs.declared.feed_fault.StreamFault.TheVariants as fault
use Rattle.hls_core.specs.declared.feed_fault.FeedFault.{FeedFault}
use Rattle.hls_core.specs.declared.feed_fault.FeedFault.TheVariants as feed_fault
use Rattle.hls_commands.specs.MemoryCases.{IsDefinedOrMemory, IsReadOrMemory}
use Rattle.hls_commands.specs.RecordedState.{state_by_outcome, state_after, with_part, with_unit}
use Rattle.hls_commands.specs.OrRefused.{◌>>=◌, or_refused_as}

-- ---- an init section that was read

-- if reading an init section ended with a fault other than out of memory, that is the defined refusal
pub means_fault : (f : MediaFault) (defined : Result InitData MediaFault) → (f ≡ faults.Memory → ⊥) → ReadsAs (Err f) defined → IsReadOrMemory (or_refused_as fault.Media defined) (Err (feed_fault.Refused (fault.Media f)))
means_fault faults.Memory defined other is = absurd (other refl)
means_fault f defined other is = ap (or_refused_as fault.Media) is

-- ---- a step

-- the state after an event is the one by its outcome
pub stepped_by : (s new : State) (event : Event) (outcome : Outcome) (found : Result State StreamFault) → outcome_of s event ≡ outcome → state_by_outcome outcome (state_with_entry s 0 event) s ≡ found → state_after s event ≡ found
stepped_by s new event outcome found is then = ap (λ (x : Outcome). state_by_outcome x (state_with_entry s 0 event) s) is ∙ then

-- a new event leads to the state with its entry
pub steps_new : (s new : State) (event : Event) → outcome_of s event ≡ New → new ≡ state_with_entry s 0 event → state_after s event ≡ Ok new
steps_new s new event is next = stepped_by s new event New (Ok new) is (ap Ok (sym next))

-- a repeated event leads to the same state
pub steps_again : (s : State) (event : Event) → outcome_of s event ≡ Repeated → state_after s event ≡ Ok s
steps_again s event is = stepped_by s s event Repeated (Ok s) is refl

-- a refused event leads to its refusal, unless that is out of memory
pub steps_refused : (s : State) (event : Event) (r : Refusal) → (r ≡ refusal.Memory → ⊥) → IsRefused s event r → state_after s event ≡ Err (fault.Core r)
steps_refused s event refusal.Memory other is = absurd (other refl)
steps_refused s event r other is = stepped_by s s event (Refused r) (Err (fault.Core r)) is refl

-- ---- a part

-- a result that fits a defined value fits an equal one
becomes_as : {A : Type 0} (x y : Result A StreamFault) (new : A) (result : Result (Unit {0}) FeedFault) → y ≡ x → IsDefinedOrMemory x new result → IsDefinedOrMemory y new result
becomes_as x y new (Ok done) same is = same ∙ is
becomes_as x y new (Err feed_fault.Memory) same is = tt
becomes_as x y new (Err (feed_fault.Refused f)) same is = same ∙ is

-- if a reading whose refusal was wrapped is a value, the reading itself is that value
means_ok : (bytes : List ℕ) (x : Result InitData MediaFault) (init : InitData) → or_refused_as fault.Media x ≡ Ok init → x ≡ Ok init
means_ok bytes (Ok i) init is = cc
means_ok bytes (Err f) init is = cc

-- an init section that was read is the defined one
pub reads_init : (bytes : List ℕ) (init : InitData) → IsReadOrMemory (or_refused_as fault.Media (init_of bytes)) (Ok init) → init_of bytes ≡ Ok init
reads_init bytes init is = means_ok bytes (init_of bytes) init is

-- if an init section was read, the result of its event is the result of the part
pub accepts_init : (s new : State) (bytes : List ℕ) (init : InitData) (result : Result (Unit {0}) FeedFault) → IsReadOrMemory (or_refused_as fault.Media (init_of bytes)) (Ok init)
    → IsDefinedOrMemory (state_after s (Begin 0 init bytes)) new result → IsDefinedOrMemory (with_part s (parts.Init bytes)) new result
unfolding with_part
accepts_init s new bytes init result means becomes =
    becomes_as _ (with_part s (parts.Init bytes)) new result (ap (λ (x : Result InitData StreamFault). x >>= (λ i. state_after s (Begin 0 i bytes))) means) becomes

-- if reading an init section failed, the part fails with the same fault
pub refuses_init : (s new : State) (bytes : List ℕ) (f : FeedFault) → IsReadOrMemory (or_refused_as fault.Media (init_of bytes)) (Err f) → IsDefinedOrMemory (with_part s (parts.Init bytes)) new (Err f)
unfolding with_part
refuses_init s new bytes feed_fault.Memory means = tt
refuses_init s new bytes (feed_fault.Refused f) means = ap (λ (x : Result InitData StreamFault). x >>= (λ i. state_after s (Begin 0 i bytes))) means

-- the state after a unit is the one by the recording that was found
unit_by : (s : State) (bytes : List ℕ) (found : Option RecordingData) → recording_of s 0 ≡ found → with_part s (parts.Unit bytes) ≡ with_unit found s bytes
unfolding with_part
unit_by s bytes found is = ap (λ (x : Option RecordingData). with_unit x s bytes) is

-- if a unit was read under the recording's init section, the result of its event is the result of the part
pub accepts_unit : (s new : State) (bytes : List ℕ) (recorded : RecordingData) (f : Facts) (result : Result (Unit {0}) FeedFault) → recording_of s 0 ≡ Some recorded → facts recorded.init bytes ≡ Ok f
    → IsDefinedOrMemory (state_after s (Accept 0 f bytes)) new result → IsDefinedOrMemory (with_part s (parts.Unit bytes)) new result
accepts_unit s new bytes recorded f result is found becomes =
    becomes_as _ (with_part s (parts.Unit bytes)) new result
    (unit_by s bytes (Some recorded) is ∙ ap (λ (x : Result Facts MediaFault). or_refused_as fault.Media x >>= (λ g. state_after s (Accept 0 g bytes))) found) becomes

-- if a unit is invalid under the recording's init section, the part is refused for that
pub refuses_unit : (s new : State) (bytes : List ℕ) (recorded : RecordingData) (f : MediaFault) → recording_of s 0 ≡ Some recorded → facts recorded.init bytes ≡ Err f → IsDefinedOrMemory (with_part s (parts.Unit bytes)) new (Err (feed_fault.Refused (fault.Media f)))
refuses_unit s new bytes recorded f is found =
    unit_by s bytes (Some recorded) is ∙ ap (λ (x : Result Facts MediaFault). or_refused_as fault.Media x >>= (λ g. state_after s (Accept 0 g bytes))) found

-- a unit before any init section is refused as NoInit
pub refuses_early : (s new : State) (bytes : List ℕ) → recording_of s 0 ≡ None → IsDefinedOrMemory (with_part s (parts.Unit bytes)) new (Err (feed_fault.Refused (fault.Core refusal.NoInit)))
refuses_early s new bytes is = unit_by s bytes None is
