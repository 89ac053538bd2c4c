-- For the proofs of this crate; no public clause cites it.
-- What a step of a connection's turn may return.
use Rattle.std.specs.Prelude.{◌≡◌, ℕ, List, length, Option, Some}
use Rattle.hls_event_loop.specs.declared.{handler.ConnectionEnd.ConnectionEnd, step.StepOutcome.StepOutcome}
use Rattle.hls_event_loop.specs.declared.step.StepOutcome.TheVariants as outcomes

-- a read or a write neither ends the connection nor parks it
abbrev pub IsOfIo : StepOutcome → Type 0
IsOfIo (outcomes.End end) = ⊥
IsOfIo outcomes.Wait = ⊥
IsOfIo step = Unit {0}

-- a step ends the connection only as it ended by itself, and parks it only if it waits; either way nothing is left to send
abbrev pub IsJustified : StepOutcome → Option ConnectionEnd → List ℕ → Type 0 → Type 0
IsJustified (outcomes.End end) own_end pending waits = (own_end ≡ Some end) × (length pending ≡ 0)
IsJustified outcomes.Wait own_end pending waits = waits × (length pending ≡ 0)
IsJustified step own_end pending waits = Unit {0}
