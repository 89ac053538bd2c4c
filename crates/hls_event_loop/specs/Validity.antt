-- The handler suits the connections of its worker.
use Rattle.std.specs.Prelude.{◌≡◌, ℕ, Some}
use Rattle.slab.specs.Slab.{Slab, get}
use Rattle.hls_event_loop.specs.declared.slot.Slot.{Slot}

module _ {H V : Type 0} (valid : H → V → Type 0) where
  -- the handler suits every connection that it suited before
  abbrev pub StaysValid : H → H → Type 0
  StaysValid before now = (connection : V) → valid before connection → valid now connection

  -- the handler suits every connection of the worker
  abbrev pub AllValid : H → Slab (Slot V) → Type 0
  AllValid handler slots = (key : ℕ) (slot : Slot V) → get slots key ≡ Some slot → valid handler slot.connection
