-- What a connection asks of its keeper, the keeper's answers, and how that changes what the keeper knows.
use Rattle.std.specs.{Prelude.{◌≡◌, ◌⊎◌, ℕ, List, [], ◌∷◌, ◌++◌, Result, Ok, Err}, declared.sync.Arc.Arc}
use Rattle.hls_core_laws.specs.{declared.event.LoggedEvent.LoggedEvent, declared.refusal.Refusal.TheVariants.Memory, Moves.IsFittingAsSeen}
use Rattle.hls_catchup.specs.Jobs.Shared.{HasRemoved}
use Rattle.hls_api.specs.{JobTable.IsAddResult, OtherActors.OtherActors, OtherActors.MayBecome, OtherActors.HasMet}
use Rattle.hls_api.specs.Types.{Event, Refusal, Request, State, Done, JobFault, PassView}
use Rattle.hls_api.specs.declared.encoder_readings.EncoderReadings.{EncoderReadings}
use Rattle.hls_core_laws.specs.PassView as calls

-- a look, and the state that it returned; a look that returned none, for an allocation failure; an event, and its outcome; a job that
-- was added with a state, and a job that was removed, each with its result; what was read of the encoders. Reading the table of jobs is
-- no act
pub data Act : Type 0 where
  Looked : (state : State) → Act
  LookFailed : Act
  Submitted : (event : Event) (answer : Result Done Refusal) → Act
  Added : (state : State) (request : Request) (result : Result ℕ JobFault) → Act
  Removed : (id : ℕ) (result : Result (Unit {0}) JobFault) → Act
  ReadEncoders : (readings : EncoderReadings) → Act

-- ---- one act is added

-- one act is added to the acts: a look that returned the state s
abbrev pub RecordsLook : List Act → State → List Act → Type 0
RecordsLook before s after = after ≡ before ++ Looked s ∷ []

-- one act is added to the acts: a look that returned a state, or one that failed
abbrev pub RecordsLookResult : {A E : Type 0} → List Act → Result (Arc State A) E → List Act → Type 0
RecordsLookResult before (Ok s) after = RecordsLook before s.value after
RecordsLookResult before (Err e) after = after ≡ before ++ LookFailed ∷ []

-- one act is added to the acts: an event that was submitted, with its outcome
abbrev pub RecordsSubmit : List Act → Event → Result Done Refusal → List Act → Type 0
RecordsSubmit before event answer after = after ≡ before ++ Submitted event answer ∷ []

-- one act is added to the acts: a job that was added with the state s for a request, with the result
abbrev pub RecordsAdd : List Act → State → Request → Result ℕ JobFault → List Act → Type 0
RecordsAdd before s request result after = after ≡ before ++ Added s request result ∷ []

-- one act is added to the acts: the removal of job `id`, with its result
abbrev pub RecordsRemove : List Act → ℕ → Result (Unit {0}) JobFault → List Act → Type 0
RecordsRemove before id result after = after ≡ before ++ Removed id result ∷ []

-- one act is added to the acts: these readings of the encoders
abbrev pub RecordsReading : List Act → EncoderReadings → List Act → Type 0
RecordsReading before readings after = after ≡ before ++ ReadEncoders readings ∷ []

-- ---- acts that change nothing

-- the act is a look, whether it returned a state or failed
abbrev pub IsLook : Act → Type 0
IsLook (Looked s) = Unit {0}
IsLook LookFailed = Unit {0}
IsLook act = ⊥

-- an event that failed with an allocation failure
abbrev pub IsFailedSubmit : Act → Type 0
IsFailedSubmit (Submitted event (Err Memory)) = Unit {0}
IsFailedSubmit act = ⊥

-- the act is a look, or an event that failed with an allocation failure: neither changes the channel
abbrev pub ChangesNothing : Act → Type 0
ChangesNothing act = IsLook act ⊎ IsFailedSubmit act

-- at most one act is added, and it is such an act
abbrev pub AtMostOne : (Act → Type 0) → List Act → List Act → Type 0
AtMostOne Is before after = (after ≡ before) ⊎ ((act : Act) × Is act × (after ≡ before ++ act ∷ []))

-- at most one look, or one event that failed with an allocation failure
abbrev pub ActsChangeNothing : List Act → List Act → Type 0
ActsChangeNothing before after = AtMostOne ChangesNothing before after

-- at most one look is added, and then at most one event that failed with an allocation failure
abbrev pub LooksAndFailsToSubmit : List Act → List Act → Type 0
LooksAndFailsToSubmit before after = (looked : List Act) × AtMostOne IsLook before looked × AtMostOne IsFailedSubmit looked after

-- ---- what acts do

-- what a keeper knows: its number, the state that it saw last, and the events that it submitted; and all acts, by any connection
pub record Knowledge : Type 0 where
  pub number : ℕ
  pub seen : State
  pub mine : List LoggedEvent
  pub acts : List Act

-- what a keeper knows of the channel, without the acts
abbrev pub view_of : Knowledge → PassView
view_of a = record { number = a.number; seen = a.seen; mine = a.mine }

-- what a keeper knows: its view of the channel, and these acts
abbrev pub knowledge_of : PassView → List Act → Knowledge
knowledge_of known acts = record { number = known.number; seen = known.seen; mine = known.mine; acts = acts }

-- one act is added, and nothing else changes
abbrev pub knowledge_after : Knowledge → Act → Knowledge
knowledge_after a act = record a { acts = a.acts ++ act ∷ [] }

-- the effect of an act on what a keeper knows of the channel; adding or removing a job and reading the encoders have none
abbrev pub HasEffect : PassView → Act → PassView → Type 0
HasEffect a (Looked s) b = calls.Looks a s b
HasEffect a LookFailed b = calls.MaySeeLater a b
HasEffect a (Submitted event answer) b = IsFittingAsSeen a.seen event × calls.Submits a event answer b
HasEffect a (Added s request result) b = (b ≡ a) × IsAddResult s request result
HasEffect a (Removed id result) b = (b ≡ a) × HasRemoved id result
HasEffect a (ReadEncoders readings) b = b ≡ a

-- a step from what the keeper knew to what it knows: this act is added, and no other
pub record IsActStep (a : Knowledge) (act : Act) (b : Knowledge) : Type 0 where
  pub asked : b.acts ≡ a.acts ++ act ∷ []
  pub does : HasEffect (view_of a) act (view_of b)

-- the state that an act meets is one to which the other actors may have led
abbrev pub Meets : OtherActors → Knowledge → Act → Knowledge → Type 0
Meets m a (Looked s) b = MayBecome m a.seen b.seen
Meets m a LookFailed b = MayBecome m a.seen b.seen
Meets m a (Submitted event answer) b = HasMet m (view_of a) event (view_of b)
Meets m a act b = Unit {0}

-- each act starts where the one before it led, from what is known first to what is known last
abbrev pub AreActSteps : OtherActors → Knowledge → List Act → Knowledge → Type 0
AreActSteps m a [] b = b ≡ a
AreActSteps m a (act ∷ acts) b = (middle : Knowledge) × IsActStep a act middle × Meets m a act middle × AreActSteps m middle acts b

-- the acts between two points lead from what was known at the first to what is known at the second
abbrev pub ActsExtend : OtherActors → Knowledge → List Act → Knowledge → List Act → Type 0
ActsExtend m a before b after = (acts : List Act) × (after ≡ before ++ acts) × AreActSteps m a acts b
