-- The result of a step.
use Rattle.std.specs.Prelude.{◌≡◌, ℕ, Result, Ok, Err, length}
use Rattle.hls_core_laws.specs.declared.done.Done.{Done}
use Rattle.hls_core_laws.specs.declared.done.Done.TheVariants as done
use Rattle.hls_core_laws.specs.declared.event.Event.{Event}
use Rattle.hls_core_laws.specs.declared.refusal.Refusal.{Refusal}
use Rattle.hls_core_laws.specs.State.{State}
use Rattle.hls_core_laws.specs.Outcome.{New, Repeated, Refused}
use Rattle.hls_core_laws.specs.Moves.{Moves}
use Rattle.hls_core.specs.declared.stepped.Stepped.{Stepped}
use Rattle.hls_core.specs.declared.stepped.Stepped.TheVariants as stepped

-- the answer is the move's: a new state, the old one, or the refusal
abbrev pub Steps : State → ℕ → Event → Result Stepped Refusal → Type 0
Steps a by event (Ok (stepped.New b)) = Moves a by event New b.value
Steps a by event (Ok stepped.Repeat) = Moves a by event Repeated a
Steps a by event (Err r) = Moves a by event (Refused r) a

-- the event takes state a to state b, and the answer is the length of the new log, a repeat, or the refusal
abbrev pub Applies : State → ℕ → Event → State → Result Done Refusal → Type 0
Applies a by event b (Ok (done.New version)) = Moves a by event New b × (version ≡ length b.log)
Applies a by event b (Ok done.Repeat) = Moves a by event Repeated b
Applies a by event b (Err r) = Moves a by event (Refused r) b
