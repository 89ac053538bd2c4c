-- A worker's connections, in the terms of the worker's loop.
use Rattle.std.specs.Prelude.{◌≡◌, ◌++◌, ◌||◌, ℕ, List, Option, None, Some, IsTrue}
use Rattle.hls_event_loop.specs.{Traffic.Traffic, declared.handler.ConnectionEnd.ConnectionEnd}
use Rattle.hls_connection.specs.{declared.connection.Connection.Connection, Connections.history, Connections.channel_of, Connections.IsStatus}
use Rattle.hls_api.specs.{Acts.{ActsExtend, Knowledge}, ConnectionStates.{Over, Stage}, OtherActors.Others}
use Rattle.hls_server.specs.{SendGates.{KeepsCovered, held_stage, holds_back, released}, declared.logged_connection.LoggedConnection.LoggedConnection}
use Rattle.hls_event_loop.specs.declared.activity.ConnectionStage.{ConnectionStage}
use Rattle.hls_http.specs.declared.end.SessionEnd.TheVariants as ends
use Rattle.hls_event_loop.specs.declared.handler.ConnectionEnd.TheVariants as own_end

-- The connection's history grew by this traffic, and by acts that lead from what the channel handle knew at first to what it knows at last.
pub record HistoryGrows (a : Knowledge) (old : Connection) (t : Traffic) (b : Knowledge) (new : Connection) : Type 0 where
  pub received : (history new).received ≡ (history old).received ++ t.received
  pub ended : (history new).ended ≡ ((history old).ended || t.ended)
  pub sent : (history new).sent ≡ (history old).sent ++ t.sent
  pub acts : ActsExtend Others a (history old).acts b (history new).acts
  pub channel : channel_of new ≡ channel_of old

-- the connection's history grew by this traffic, and what must be durable before its bytes are sent covers what the handle saw
pub record ServesHeld (a : Knowledge) (old : LoggedConnection) (t : Traffic) (b : Knowledge) (new : LoggedConnection) : Type 0 where
  pub grows : HistoryGrows a old.connection t b new.connection
  pub covered : KeepsCovered a.seen old.gate.needed b.seen new.gate.needed

-- the bytes that may be sent now
abbrev pub unsent : LoggedConnection → List ℕ
unsent logged = released logged.gate (history logged.connection).pending

-- a connection's bytes are held back, or its body isn't read
abbrev pub IsHeld : LoggedConnection → Type 0
IsHeld logged = IsTrue (holds_back logged.gate (history logged.connection).pending)

-- a connection that is held is within a body that isn't read, or waits; otherwise its stage is that of its session
abbrev pub HasStage : LoggedConnection → ConnectionStage → Type 0
HasStage logged stage = (IsHeld logged → stage ≡ held_stage logged.gate) × ((IsHeld logged → ⊥) → IsStatus stage logged.connection)

-- how the socket of a connection that is over is closed: after its last reply, further input is dropped for a while
abbrev pub socket_end : Stage → Option ConnectionEnd
socket_end (Over ends.Closed) = Some own_end.Responded
socket_end (Over ends.Refused) = Some own_end.Responded
socket_end (Over end) = Some own_end.Closed
socket_end stage = None
