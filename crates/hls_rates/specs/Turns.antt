-- Whose turn is next among bodies that wait.
use Rattle.std.specs.Prelude.{ℕ, ◌+◌, ◌-◌, ◌^◌, Bool, not, cond, ◌&&◌, ◌||◌, ◌==◌, min, nat_le, nat_lt}
use Rattle.hls_rates.specs.declared.turn_queue.TurnQueue.{TurnQueue}

-- a body may have the next turn: it is its turn, or that of none, or that of one that hasn't asked for two and a half seconds
abbrev pub is_next : ℕ → ℕ → TurnQueue → Bool
is_next number now q = q.next == 0 || (q.next == number || nat_le 2500 (now - q.asked_ms))

-- bodies wait: one was held in the last two and a half seconds
abbrev pub has_waiting : ℕ → TurnQueue → Bool
has_waiting now q = nat_lt 0 q.issued && nat_lt (now - q.held_ms) 2500

-- a body may go if there is no pause: one that comes if none waits, one that waits if it is next
abbrev pub may_go : ℕ → ℕ → TurnQueue → Bool
may_go number now q = cond (number == 0) (not (has_waiting now q)) (is_next number now q)

-- the queue after a body is held: by a pause, or again; one that only comes while others wait doesn't hold those that come after it
abbrev pub queue_held : ℕ → Bool → ℕ → TurnQueue → TurnQueue
queue_held number is_paused now q =
    cond (is_paused || not (number == 0)) (record { issued = q.issued; next = q.next; asked_ms = q.asked_ms; held_ms = now }) q

-- after a body asks and waits on, it is next if it may be or if it came first; otherwise nothing changes
abbrev pub queue_with : ℕ → ℕ → TurnQueue → TurnQueue
queue_with number now q =
    cond (is_next number now q || nat_lt number q.next) (record { issued = q.issued; next = number; asked_ms = now; held_ms = q.held_ms }) q

-- the queue once the next number is issued
abbrev pub with_issued : TurnQueue → TurnQueue
with_issued q = record { issued = min (q.issued + 1) (2 ^ 64 - 1); next = q.next; asked_ms = q.asked_ms; held_ms = q.held_ms }

-- the queue after a turn: those that wait ask anew
abbrev pub after_turn : TurnQueue → TurnQueue
after_turn q = record { issued = q.issued; next = 0; asked_ms = q.asked_ms; held_ms = q.held_ms }

-- the queue after a body waits by a number, a new one if it has none
abbrev pub queue_waiting : ℕ → ℕ → TurnQueue → TurnQueue
queue_waiting number now q = cond (number == 0) (queue_with (with_issued q).issued now (with_issued q)) (queue_with number now q)

-- a body has its turn: there is no pause, and it may go
abbrev pub has_turn : ℕ → Bool → ℕ → TurnQueue → Bool
has_turn number is_paused now q = not is_paused && may_go number now q

-- the queue after a body asks
abbrev pub queue_after : ℕ → Bool → ℕ → TurnQueue → TurnQueue
queue_after number is_paused now q =
    cond (has_turn number is_paused now q) (after_turn q) (queue_waiting number now (queue_held number is_paused now q))

-- the number by which it waits; 0 if it has its turn
abbrev pub answer_of : ℕ → Bool → ℕ → TurnQueue → ℕ
answer_of number is_paused now q =
    cond (has_turn number is_paused now q) 0 (cond (number == 0) (with_issued q).issued number)

-- the queue once a body waits no longer
abbrev pub queue_without : ℕ → TurnQueue → TurnQueue
queue_without number q = cond (q.next == number) (after_turn q) q
