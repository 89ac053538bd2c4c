-- The upkeep of a state, and the event that performs it.
use Rattle.std.specs.Prelude.{◌≡◌, ℕ, Option, Some, None}
use Rattle.hls_places_laws.specs.Line.Upkeep.{UpkeepView, Upkeep, Idle, Slides, Trims, IsUpkeep}
use Rattle.hls_core_laws.specs.declared.event.Event.{Event}
use Rattle.hls_core_laws.specs.declared.event.Event.TheVariants.{Slide, Trim}
use Rattle.hls_core_laws.specs.State.{State}
use Rattle.hls_core_laws.specs.Places.{places, floors}
use Rattle.hls_core_laws.specs.Line.{line}

-- the part of a state that upkeep depends on; `window` microseconds stay in the live playlist, and `keep` before its end
abbrev pub upkeep_view : State → ℕ → ℕ → UpkeepView
upkeep_view s window keep = record { live = line s; floors = floors s; places = places s; window = window; keep = keep }

-- the event of an upkeep, or none if nothing is due
abbrev pub event_of : Upkeep → Option Event
event_of Idle = None
event_of (Slides count) = Some (Slide count)
event_of (Trims rendition floor) = Some (Trim rendition floor)

-- the event of the state's upkeep, or none if nothing is due
pub record IsUpkeepOf (s : State) (window keep : ℕ) (event : Option Event) : Type 0 where
  pub upkeep : Upkeep
  pub is : IsUpkeep (upkeep_view s window keep) upkeep
  pub event_is : event ≡ event_of upkeep
