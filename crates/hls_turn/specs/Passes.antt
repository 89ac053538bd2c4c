-- A pass as its callers see it: its turn, its number, the state that it saw last, and the events that it submitted.
use Rattle.std.specs.Prelude.{◌≡◌, ℕ, [], Some, None, length, unwrap_or}
use Rattle.atomic_table.specs.Seated.{TableId}
use Rattle.hls_core_laws.specs.Base.{no_base}
use Rattle.hls_core_laws.specs.State.{State}
use Rattle.hls_core_laws.specs.IsState.{IsState}
use Rattle.hls_core_laws.specs.PassView.{PassView}
use Rattle.hls_core_laws.specs.Workers.{events_by}
use Rattle.hls_turn.specs.declared.view.View.{View}

-- a pass by the turn that it belongs to and what it knows
pub record PassData : Type 0 where
  pub turn : TableId
  pub known : PassView

-- a state of no channel, for a pass that has seen none: between calls each has seen one
abbrev pub no_state : State
no_state = record { config = record { target = 0; preferred = 0; renditions = []; epoch = None; base = no_base }; log = []; bytes = [] }

-- the state that a pass saw last, or the default if it has seen none
abbrev pub seen_by : View → State
seen_by v = unwrap_or v.seen no_state

-- what a pass knows by its view: its number, the state that it saw last, and the events that it submitted
abbrev pub known_by : View → PassView
known_by v = record { number = v.number; seen = seen_by v; mine = v.mine }

-- between calls a pass has seen a valid state, holds none, and its events are the entries of its number in what it saw
pub record IsPass (v : View) : Type 0 where
  pub seen : v.seen ≡ Some (seen_by v)
  pub holds : v.holds ≡ None
  pub mine : events_by v.number (seen_by v).log ≡ v.mine
  pub valid : IsState (seen_by v)

-- the number of renditions in the state that a pass has seen; it never changes
abbrev pub renditions_seen : View → ℕ
renditions_seen v = length (seen_by v).config.renditions
