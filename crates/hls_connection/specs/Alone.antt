-- What is known of a channel that one thread has for itself.
use Rattle.std.specs.Prelude.{ℕ}
use Rattle.hls_core_laws.specs.Workers.{events_by}
use Rattle.hls_api.specs.Types.{PassView, State}

-- what the thread with this number knows: the channel's state, and the events in its log that have this number
abbrev pub known_alone : ℕ → State → PassView
known_alone number s = record { number = number; seen = s; mine = events_by number s.log }
