-- Which connection is evicted when all places are in use: while bodies take more than nine tenths of the places, the body with the fewest
-- bytes; then the longest idle connection, then the youngest incomplete head, else none.
use Rattle.std.specs.Prelude.{ℕ, ◌+◌, ◌-◌, ◌*◌, ◌^◌, Bool, true, false, cond, nat_lt, min, Option, Some, None}
use Rattle.hls_event_loop.specs.declared.activity.ConnectionStage.TheVariants.{Idle, Head, Ingesting, Held, Discarding, Waiting, Writing, Responding, Lingering}
use Rattle.hls_event_loop.specs.declared.activity.{ConnectionStage.ConnectionStage, Activity.Activity}

-- bodies take more than nine tenths of the places for connections
abbrev pub is_crowded : ℕ → ℕ → Bool
is_crowded bodies places = nat_lt (9 * places) (10 * bodies)

-- a connection is in the middle of a request's body, whether that is read or held
abbrev pub is_in_body_in : ConnectionStage → Bool
is_in_body_in Idle = false
is_in_body_in Head = false
is_in_body_in Ingesting = true
is_in_body_in Held = true
is_in_body_in Discarding = true
is_in_body_in Waiting = false
is_in_body_in Writing = false
is_in_body_in Responding = false
is_in_body_in Lingering = false

-- a connection may be evicted while it is idle or its head is incomplete, and in the middle of a body while bodies are crowded
abbrev pub may_yield_in : Bool → ConnectionStage → Bool
may_yield_in crowded Idle = true
may_yield_in crowded Head = true
may_yield_in crowded Ingesting = crowded
may_yield_in crowded Held = crowded
may_yield_in crowded Discarding = crowded
may_yield_in crowded Waiting = false
may_yield_in crowded Writing = false
may_yield_in crowded Responding = false
may_yield_in crowded Lingering = false

-- a connection may be evicted, by its stage
abbrev pub may_yield : Bool → Activity → Bool
may_yield crowded activity = may_yield_in crowded activity.stage

-- a connection is in the middle of a body
abbrev pub is_in_body : Activity → Bool
is_in_body activity = is_in_body_in activity.stage

-- a connection is idle between requests
abbrev pub is_idle_in : ConnectionStage → Bool
is_idle_in Idle = true
is_idle_in _ = false

-- the first of two that have no body is evicted before the other: an idle one before a head, the longer idle first, the younger head first
abbrev pub yields_before_without_bodies : Activity → Activity → Bool
yields_before_without_bodies activity other =
    cond (is_idle_in activity.stage)
    (cond (is_idle_in other.stage) (nat_lt activity.moved_ms other.moved_ms) true)
    (cond (is_idle_in other.stage) false (nat_lt other.since_ms activity.since_ms))

-- the first of two is evicted before the other: a body before what is none, and of two bodies the one with fewer bytes
abbrev pub yields_before : Activity → Activity → Bool
yields_before activity other =
    cond (is_in_body activity)
    (cond (is_in_body other) (nat_lt activity.bytes other.bytes) true)
    (cond (is_in_body other) false (yields_before_without_bodies activity other))

-- the connection to evict of one that was found, if any, and the next one, by its key
abbrev pub first_to_yield : Option (ℕ × Activity) → ℕ → Activity → Option (ℕ × Activity)
first_to_yield None key activity = Some (key, activity)
first_to_yield (Some found) key activity = cond (yields_before activity found.1) (Some (key, activity)) (Some found)

-- the connection to evict of one that was found, if any, and the next one, if it may be evicted
abbrev pub choose_yielding : Bool → Option (ℕ × Activity) → ℕ → Activity → Option (ℕ × Activity)
choose_yielding crowded found key activity = cond (may_yield crowded activity) (first_to_yield found key activity) found

-- the rank of a stage
abbrev pub rank_in : ConnectionStage → Activity → ℕ
rank_in Idle activity = min (activity.moved_ms + 1025) (2 ^ 64 - 1)
rank_in Head activity = 2 ^ 64 - 1 - activity.since_ms
rank_in _ activity = min activity.bytes 1023 + 1

-- the order of eviction among workers, least first: bodies by their bytes, idle connections, heads. Bodies with 1023 bytes or more have one rank
abbrev pub yield_rank : Activity → ℕ
yield_rank activity = rank_in activity.stage activity
