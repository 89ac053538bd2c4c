-- How many connections a process may hold.
use Rattle.std.specs.Prelude.{ℕ, ◌+◌, ◌-◌, ◌*◌, max, min}

-- The number of connections, of those wanted, that a process can have with this limit on open files: a worker uses four, and 32
-- are for the rest of the process. It is at least 1.
abbrev pub connection_limit : ℕ → ℕ → ℕ → ℕ
connection_limit files wanted workers = min wanted (max (files - (4 * workers + 32)) 1)
