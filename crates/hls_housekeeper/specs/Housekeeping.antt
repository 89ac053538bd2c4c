-- What the housekeeper does, in terms of its pass's knowledge before and after.
use Rattle.std.specs.Prelude.{◌≡◌, ◌⊎◌, ℕ, Bool, true, Option, Some, None, Result, List, [], ◌∷◌}
use Rattle.hls_core_laws.specs.{declared.{event.Event.{Event, TheVariants.Trim}, refusal.Refusal.Refusal, done.Done.Done}, State.State}
use Rattle.hls_core_laws.specs.PassView.{PassView, MaySeeLater, Submits}
use Rattle.hls_core.specs.Upkeeps.{IsUpkeepOf}
use Rattle.hls_mend_laws.specs.declared.settings.MendSettings.{MendSettings}
use Rattle.hls_mend.specs.declared.mended.ReadUnit.{ReadUnit}
use Rattle.hls_housekeeper.specs.Away.{accept_of, filler_of}
use Rattle.hls_housekeeper.specs.TrimHolds.{holds_back}
use Rattle.hls_housekeeper.specs.declared.trim_hold.TrimHold.{TrimHold}
use Rattle.hls_housekeeper.specs.declared.housekeeper.UpkeepOutcome.{UpkeepOutcome, TheVariants.{UpToDate, Trimmed, BackedOff}}

-- the submitted event is the one that upkeep yields for the state that the pass saw last
pub record SubmitsUpkeep (window keep : ℕ) (old new : PassView) : Type 0 where
  pub event : Event
  pub due : IsUpkeepOf old.seen window keep (Some event)
  pub answer : Result Done Refusal
  pub submits : Submits old event answer new

-- the submitted event is the filler that a rendition needs next in the state that the pass saw last, by what was heard of its encoders;
-- only where units are mended
pub record SubmitsFiller (mending : Option MendSettings) (old new : PassView) : Type 0 where
  pub settings : MendSettings
  pub mends : mending ≡ Some settings
  pub silent : List Bool
  pub rendition : ℕ
  pub filler : ReadUnit
  pub due : filler_of settings.fill_us old.seen silent rendition ≡ Some filler
  pub answer : Result Done Refusal
  pub submits : Submits old (accept_of rendition filler) answer new

-- one action of the housekeeper on its pass
abbrev pub Acts : Option MendSettings → ℕ → ℕ → PassView → PassView → Type 0
Acts mending window keep old new = MaySeeLater old new ⊎ (SubmitsUpkeep window keep old new ⊎ SubmitsFiller mending old new)

-- a sequence of actions, with the knowledge after each, newest first
unfoldable pub RunsUpkeepThrough : Option MendSettings → ℕ → ℕ → PassView → List PassView → PassView → Type 0
RunsUpkeepThrough mending window keep old [] new = new ≡ old
RunsUpkeepThrough mending window keep old (last ∷ before) new = RunsUpkeepThrough mending window keep old before last × Acts mending window keep last new

-- all that the pass did was to look at the state, and to submit what upkeep yields and the fillers that are needed in the state it saw: its
-- own events grew only by such slides, trims and fillers
pub record RunsUpkeep (mending : Option MendSettings) (window keep : ℕ) (old new : PassView) : Type 0 where
  pub through : List PassView
  pub steps : RunsUpkeepThrough mending window keep old through new

-- how a round ends, given the state seen last: a trim that is held back waits, and nothing else that is due does
abbrev pub EndsRound : TrimHold → ℕ → ℕ → State → UpkeepOutcome → Type 0
EndsRound hold window keep s BackedOff = (rendition floor : ℕ) × IsUpkeepOf s window keep (Some (Trim rendition floor)) × (holds_back hold rendition floor ≡ true)
EndsRound hold window keep s UpToDate = IsUpkeepOf s window keep None
EndsRound hold window keep s Trimmed = IsUpkeepOf s window keep None
