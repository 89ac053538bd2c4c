-- A worker's wait queue.
use Rattle.std.specs.Prelude.{◌≡◌}
use Rattle.hls_event_loop.specs.declared.wait_queue.WaitQueue.{WaitQueue}

-- each waiting connection gets a turn
abbrev pub IsWoken : WaitQueue → Type 0
IsWoken queue = queue.woken ≡ queue.entries.len
