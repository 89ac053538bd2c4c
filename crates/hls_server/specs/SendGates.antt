-- Bytes that are held back until the state that they were made of is durable.
use Rattle.std.specs.Prelude.{◌≡◌, ◌⊎◌, ◌≤◌, ◌-◌, ◌&&◌, ◌||◌, ℕ, Bool, false, List, [], ◌∷◌, length, cond, nat_lt, Option, None}
use Rattle.hls_event_loop.specs.declared.activity.ConnectionStage.{ConnectionStage}
use Rattle.hls_event_loop.specs.declared.activity.ConnectionStage.TheVariants as stages
use Rattle.hls_api.specs.Types.{State}
use Rattle.hls_server.specs.declared.send_gate.SendGate.{SendGate}
use Rattle.hls_server.specs.declared.send_gate.NeededPoint.{NeededPoint}

-- the journal isn't as far as it must be
abbrev pub is_closed : SendGate → Bool
is_closed gate = nat_lt gate.durable.version gate.needed.version || nat_lt gate.durable.round gate.needed.round

-- an encoder's body isn't read: the journal is more than 1024 versions behind what was seen
abbrev pub is_behind : SendGate → Bool
is_behind gate = gate.is_receiving && nat_lt 1024 (gate.needed.version - gate.durable.version)

-- the journal holds a connection: there are bytes to send and the gate is closed, or there are none and a body isn't read
abbrev pub is_held_by_journal : SendGate → List ℕ → Bool
is_held_by_journal gate [] = is_behind gate
is_held_by_journal gate (byte ∷ bytes) = is_closed gate

-- a connection is held: its encoder's body is paused, or the journal holds it
abbrev pub holds_back : SendGate → List ℕ → Bool
holds_back gate bytes = gate.is_paused || is_held_by_journal gate bytes

-- the stage of a connection that is held: within a body, or with a response that waits
abbrev pub held_stage : SendGate → ConnectionStage
held_stage gate = cond (gate.is_paused || gate.is_receiving) stages.Held stages.Waiting

-- the bytes that may be sent
abbrev pub released : SendGate → List ℕ → List ℕ
released gate bytes = cond (holds_back gate bytes) [] bytes

-- how a connection ends once its bytes are sent; it doesn't while they are held back
abbrev pub unless_held : {A : Type 0} → SendGate → List ℕ → Option A → Option A
unless_held gate bytes end = cond (holds_back gate bytes) None end

-- What must be durable covers the state that was seen, unless what was made is exempt: at least its version; else a round that hadn't
-- begun must end, which looks at a later state.
abbrev pub Covers : State → NeededPoint → Type 0
Covers seen needed = needed.is_exempt ≡ false → needed.round ≡ 0 → length seen.log ≤ needed.version

-- nothing more was seen and the same is needed, or what is needed covers what was seen
abbrev pub KeepsCovered : State → NeededPoint → State → NeededPoint → Type 0
KeepsCovered before was seen needed = ((seen ≡ before) × (needed ≡ was)) ⊎ Covers seen needed
