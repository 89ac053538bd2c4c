-- What is submitted at the end of a rendition, as it was seen, continues it.
use Rattle.std.specs.Prelude.{◌≡◌, ℕ, List, Some, slice_get}
use Rattle.hls_media_laws.specs.FactLists.{last_end}
use Rattle.hls_media_laws.specs.declared.facts.Facts.{Facts}
use Rattle.hls_core_laws.specs.Channel.{Lane}
use Rattle.hls_core_laws.specs.Follows.{Extends}
use Rattle.hls_core_laws.specs.IsState.{IsState}
use Rattle.hls_core_laws.specs.Outcome.{New, outcome_of}
use Rattle.hls_core_laws.specs.State.{State, channel}
use Rattle.hls_core_laws.specs.declared.event.Event.TheVariants.{Accept}

-- in this state, rendition r has exactly these units
pub record HasUnits (s : State) (r : ℕ) (facts : List Facts) : Type 0 where
  pub lane : Lane
  pub at : slice_get (channel s).lanes r ≡ Some lane
  pub same : lane.facts ≡ facts

-- if a unit starts where its rendition ended in state a, and a later state b takes it, then no unit was recorded in between
abbrev pub SubmittedContinues : Type 0
SubmittedContinues =
    (a b : State) (r : ℕ) (l : Lane) (f : Facts) (bytes : List ℕ) → IsState b → Extends a b → slice_get (channel a).lanes r ≡ Some l
    → f.start ≡ last_end l.facts → outcome_of b (Accept r f bytes) ≡ New → HasUnits b r l.facts
