-- What a server needs by its settings, in bytes.
use Rattle.std.specs.Prelude.{ℕ, Bool, cond, nat_le, ◌+◌, ◌*◌, ◌/◌, ◌^◌, min, max, Option, Some, None, List, [], ◌∷◌, ◌++◌, length, codes}
use Rattle.hls_core_laws.specs.declared.rendition.Rendition.{Rendition}
use Rattle.std.specs.Fmt.{decimal}
use Rattle.hls_core_laws.specs.State.{log_limit}
use Rattle.hls_settings.specs.declared.window_settings.WindowSettings.{WindowSettings}
use Rattle.hls_settings.specs.declared.thread_settings.ThreadSettings.{ThreadSettings}
use Rattle.hls_housekeeper.specs.Backoff.{backoff_ms}
use Rattle.hls_housekeeper.specs.Memory.{bits_of, retained_us}
use Rattle.hls_housekeeper.specs.declared.memory_needs.MemoryNeeds.{MemoryNeeds}
use Rattle.hls_housekeeper.specs.declared.memory_needs.MemoryParts.{MemoryParts}

-- no part is more, so that sums fit
abbrev pub most : ℕ
most = 2 ^ 56

-- bytes of a bit rate over a time in microseconds
abbrev pub bytes_over : ℕ → ℕ → ℕ
bytes_over bits us = min (bits * us / 8000000) most

-- jobs hold media for an hour, or as long as the channel keeps them if that is more
abbrev pub held_us : WindowSettings → ℕ
held_us t = max (retained_us t) 3600000000

-- entries in twelve days: in each rendition a unit every two seconds, and a trim after each backoff but not more often; slides
abbrev pub log_entries : ℕ → WindowSettings → ℕ
log_entries renditions t =
    min (renditions * 518400 + (renditions * (1036800000 / max 2000 (backoff_ms t.keep)) + 1036800000000 / max 1 t.preferred)) log_limit

-- entries that are kept: in each rendition a unit every two seconds, the begin and the end
abbrev pub kept_entries : ℕ → WindowSettings → ℕ
kept_entries renditions t = renditions * (retained_us t / 2000000 + 2)

-- entries with a journal: of a log that has 262144 or is kept by half, and of the new log that replaces it
abbrev pub renewed_entries : ℕ → WindowSettings → ℕ
renewed_entries renditions t = min (kept_entries renditions t + max (2 * kept_entries renditions t) 262144) log_limit

-- entries of the log, with or without a journal
abbrev pub entries_of : Bool → ℕ → WindowSettings → ℕ
entries_of has_journal renditions t = cond has_journal (renewed_entries renditions t) (log_entries renditions t)

-- the parts in bytes, without the sockets, which aren't in the address space; each rendition may have a large incomplete unit of 64 MiB, and
-- 16 MiB of small ones
abbrev pub parts_of : Bool → ℕ → ℕ → WindowSettings → ThreadSettings → MemoryParts
parts_of has_journal bits renditions t w = record {
  media = bytes_over bits (retained_us t);
  jobs = bytes_over bits (held_us t);
  arriving = 83886080 * renditions;
  log = 400 * entries_of has_journal renditions t;
  threads = min (8388608 * (w.workers + w.planners + 2)) most;
  connections = min (1024 * w.connections) most;
}

-- the sum of the parts, in bytes
abbrev pub sum_of : MemoryParts → ℕ
sum_of p = p.media + (p.jobs + (p.arriving + (p.log + (p.threads + p.connections))))

-- the sum, a quarter more for what bit rates don't show, and 32 MiB for the program itself
abbrev pub space_for : ℕ → ℕ
space_for sum = 33554432 + (sum + sum / 4)

-- what the kernel may hold for the connections
abbrev pub sockets_for : ThreadSettings → ℕ
sockets_for w = min (327680 * w.connections) most

-- what a server needs by these parts and its sockets: the address space, and the memory, which includes the sockets
abbrev pub needs_with : MemoryParts → ℕ → MemoryNeeds
needs_with p sockets = record { parts = p; sockets = sockets; address_space = space_for (sum_of p); memory = space_for (sum_of p) + sockets }

-- what a server needs with or without a journal, for the bits per second of all renditions, their number, and its settings
abbrev pub needs_of : Bool → ℕ → ℕ → WindowSettings → ThreadSettings → MemoryNeeds
needs_of has_journal bits renditions t w = needs_with (parts_of has_journal bits renditions t w) (sockets_for w)

-- what the settings of a server need, if they have a target duration that they can have
abbrev pub needs_for : Bool → List Rendition → WindowSettings → ThreadSettings → Option MemoryNeeds
needs_for has_journal rs t w =
    cond (nat_le t.target 3600) (Some (needs_of has_journal (bits_of rs) (min (length rs) 16) t w)) None

-- whole mebibytes, rounded down, and one more
abbrev pub mebibytes : ℕ → ℕ
mebibytes bytes = bytes / 1048576 + 1

-- ---- the text

-- the line of a part: its name, and whole mebibytes
unfoldable pub part_line : List ℕ → ℕ → List ℕ
part_line name bytes = name ++ (32 ∷ (decimal (mebibytes bytes) ++ 10 ∷ []))

-- the line of a limit, as systemd.exec(5) and systemd.resource-control(5) read it
unfoldable pub limit_line : List ℕ → ℕ → List ℕ
limit_line name bytes = name ++ (61 ∷ (decimal (mebibytes bytes) ++ codes "M\n"))

-- the lines of the media that are kept, that jobs hold, and that arrive
unfoldable pub media_lines : MemoryParts → List ℕ
media_lines p = part_line (codes "media") p.media ++ (part_line (codes "jobs") p.jobs ++ part_line (codes "arriving") p.arriving)

-- the lines of the log, the threads and the connections
unfoldable pub process_lines : MemoryParts → List ℕ
process_lines p = part_line (codes "log") p.log ++ (part_line (codes "threads") p.threads ++ part_line (codes "connections") p.connections)

-- the lines of the sockets and of both limits
unfoldable pub limit_lines : MemoryNeeds → List ℕ
limit_lines n =
    part_line (codes "sockets") n.sockets ++ (limit_line (codes "LimitAS") n.address_space ++ limit_line (codes "MemoryMax") n.memory)

-- the text of what a server needs, line by line
unfoldable pub needs_text : MemoryNeeds → List ℕ
needs_text n = media_lines n.parts ++ (process_lines n.parts ++ limit_lines n)
