-- The effect of each call on a turn, on what its pass knows.
use Rattle.std.specs.Prelude.{◌≡◌, ℕ, ◌-◌, Option, option_map, List, length, map, slice_get}
use Rattle.std.specs.List.{range_with_len}
use Rattle.atomic_table.specs.Seated.{TableId}
use Rattle.hls_core_laws.specs.State.{State}
use Rattle.hls_core_laws.specs.Follows.{Follows}
use Rattle.hls_core_laws.specs.Workers.{events_by}
use Rattle.hls_core_laws.specs.PassView.{MaySeeLater, Looks}
use Rattle.hls_turn.specs.Passes.{PassData}

-- pass i at the opening: it has seen the initial state, and its events are that state's entries of number i
abbrev pub opening_pass : TableId → State → ℕ → PassData
opening_pass turn s number = record { turn = turn; known = record { number = number; seen = s; mine = events_by number s.log } }

-- the passes of a new turn: one for each worker, numbered from 0
abbrev pub opening_passes : TableId → State → ℕ → List PassData
opening_passes turn s workers = map (opening_pass turn s) (range_with_len 0 workers)

-- a pass may have seen a later state; its turn, its number and its own events are unchanged
pub record HasLooked (old new : PassData) : Type 0 where
  pub turn : new.turn ≡ old.turn
  pub looked : MaySeeLater old.known new.known

-- a pass looks: what it then sees follows what it saw before and has exactly its events, and it keeps its turn
pub record LooksAt (old new : PassData) : Type 0 where
  pub turn : new.turn ≡ old.turn
  pub looks : Looks old.known new.known.seen new.known

-- one of several passes that look together meets at s: s follows what it has seen, and has exactly its events under its number
pub record MeetsAt (s : State) (old new : PassData) : Type 0 where
  pub turn : new.turn ≡ old.turn
  pub looked : MaySeeLater old.known new.known
  pub follows : Follows new.known.seen s
  pub entries : events_by old.known.number s.log ≡ old.known.mine

-- the state that the last of these passes has seen, if there are passes
abbrev pub last_seen : List PassData → Option State
last_seen passes = option_map (λ p. p.known.seen) (slice_get passes (length passes - 1))

-- s follows what the pass saw, and has no further entry of its number
pub record SettledAt (s : State) (seen : State) (pass : PassData) : Type 0 where
  pub follows : Follows seen s
  pub entries : length (events_by pass.known.number s.log) ≡ length (events_by pass.known.number seen.log)
