-- What a read or a write does to a connection's history.
use Rattle.std.specs.{Prelude.{◌≡◌, ℕ, false, List, [], ◌++◌, ◌==◌, length, take, drop, Option}, Io.KnownBytes.{Consumes, IsAtEnd, Keeps}}
use Rattle.hls_api.specs.ConnectionStates.{History}

-- the history of a new connection: nothing was received, done or sent
abbrev pub new_history : History
new_history = record { received = []; ended = false; unread = []; acts = []; sent = []; pending = [] }

-- the history after these bytes were read; no bytes mean the end of the input
abbrev pub after_read : History → List ℕ → History
after_read h more = record h { received = h.received ++ more; ended = length more == 0; unread = h.unread ++ more }

-- the history after the first `count` of the pending bytes were sent
abbrev pub after_sent : History → ℕ → History
after_sent h count = record h { sent = h.sent ++ take count h.pending; pending = drop count h.pending }

-- a read returned the next n bytes of the input; n is 0 only at the input's end
abbrev pub HasRead : History → History → Option (List ℕ) → Option (List ℕ) → ℕ → Type 0
HasRead old new before left n =
    (more : List ℕ) × (length more ≡ n) × Consumes before left more × (new ≡ after_read old more) × (n ≡ 0 → IsAtEnd left)

-- a read failed, and the history and the input stay as they were
abbrev pub FailsToRead : History → History → Option (List ℕ) → Option (List ℕ) → Type 0
FailsToRead old new before left = (new ≡ old) × Keeps before left

-- nothing was read and nothing was sent
pub record StaysQuiet (old new : History) : Type 0 where
  pub received : new.received ≡ old.received
  pub ended : new.ended ≡ old.ended
  pub sent : new.sent ≡ old.sent
