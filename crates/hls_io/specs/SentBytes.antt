-- The bytes that are sent if the given numbers of bytes are taken in turn, and those that then wait.
use Rattle.std.specs.Prelude.{◌≡◌, ℕ, List, [], ◌∷◌, ◌++◌, take, drop}

-- the bytes that are sent if these numbers of bytes are taken from the front, one after the other
abbrev pub sent_bytes : List ℕ → List ℕ → List ℕ
sent_bytes bytes [] = []
sent_bytes bytes (count ∷ counts) = take count bytes ++ sent_bytes (drop count bytes) counts

-- the bytes that are then left
abbrev pub waiting_bytes : List ℕ → List ℕ → List ℕ
waiting_bytes bytes [] = bytes
waiting_bytes bytes (count ∷ counts) = waiting_bytes (drop count bytes) counts

-- the bytes that are sent and those that wait are together all bytes, in order
abbrev pub SentAndWaitingAreAll : Type 0
SentAndWaitingAreAll = (bytes counts : List ℕ) → sent_bytes bytes counts ++ waiting_bytes bytes counts ≡ bytes
