-- The bytes that a connection receives and sends in a turn, and their effect on its reader and its writer.
use Rattle.std.specs.Prelude.{◌≡◌, ℕ, Bool, false, List, [], ◌++◌, ◌==◌, ◌||◌, length, Option, IsTrue, IfSome}
use Rattle.std.specs.Io.KnownBytes.{Appends, Consumes}
use Rattle.hls_event_loop.specs.declared.socket.Socket.{Socket}

-- the bytes received, whether the input's end was read, and the bytes sent
pub record Traffic : Type 0 where
  pub received : List ℕ
  pub ended : Bool
  pub sent : List ℕ

-- the traffic of a turn in which nothing was received or sent
abbrev pub no_traffic : Traffic
no_traffic = record { received = []; ended = false; sent = [] }

-- the traffic of one read of these bytes; no byte means the input's end
abbrev pub received_bytes : List ℕ → Traffic
received_bytes bytes = record { received = bytes; ended = length bytes == 0; sent = [] }

-- the traffic of sending these bytes
abbrev pub sent_bytes : List ℕ → Traffic
sent_bytes bytes = record { received = []; ended = false; sent = bytes }

-- the traffic of two turns in a row
abbrev pub followed_by : Traffic → Traffic → Traffic
followed_by s t = record { received = s.received ++ t.received; ended = s.ended || t.ended; sent = s.sent ++ t.sent }

-- The reader gave the bytes received, and had no others if its end was read; the writer took the bytes sent. This restricts readers and
-- writers whose bytes are known, such as those over memory.
pub record MatchesStreams (t : Traffic) (remaining left contents_before contents_after : Option (List ℕ)) : Type 0 where
  pub read : Consumes remaining left t.received
  pub whole : IsTrue t.ended → IfSome remaining (λ text. text ≡ t.received)
  pub written : Appends contents_before contents_after t.sent

-- the handler served the connection, and the reader and the writer gave and took exactly its traffic
pub record ServesExactly {H V : Type 0} (becomes : H → V → Traffic → H → V → Type 0) (a : H) (u : V) (b : H) (v : V)
    (remaining left contents_before contents_after : Option (List ℕ)) : Type 0 where
  pub traffic : Traffic
  pub becomes_is : becomes a u traffic b v
  pub matches : MatchesStreams traffic remaining left contents_before contents_after

-- the handler served the connection over a socket, whose reader and writer gave and took exactly its traffic
abbrev pub ServesOver : {H V R W : Type 0} → (R → Option (List ℕ)) → (W → Option (List ℕ)) → (H → V → Traffic → H → V → Type 0) → H → V → Socket R W → H → V → Socket R W → Type 0
ServesOver remaining contents becomes a u s b v t = ServesExactly becomes a u b v (remaining s.input.reader) (remaining t.input.reader) (contents s.output.writer) (contents t.output.writer)
