-- A rendition's lane: which body may be read, and in which order.
use Rattle.std.specs.Prelude.{◌≡◌, ℕ, Bool, true, false, not, cond, ◌==◌, max, nat_lt}
use Rattle.hls_rates.specs.{Shares.sum_within, Shares.share_after_turn, Rates.pause_of, Rates.meter_at, Rates.meter_with, Rates.meter_within, Turns.answer_of, Turns.queue_after, Turns.queue_without, Seats.SeatsChecked, Seats.places_left, Seats.wakes, Seats.share_with}
use Rattle.hls_rates.specs.declared.rate.Rate.{Rate}
use Rattle.hls_rates.specs.declared.meter.Meter.{Meter}
use Rattle.hls_rates.specs.declared.turn_queue.TurnQueue.{TurnQueue}
use Rattle.hls_rates.specs.declared.places.Places.{Places}
use Rattle.hls_rates.specs.declared.lane.Lane.{Lane}
use Rattle.hls_rates.specs.declared.lane_limits.LaneLimits.{LaneLimits}
use Rattle.hls_rates.specs.declared.share.BodyShare.{BodyShare}
use Rattle.hls_rates.specs.declared.share.BodyTurn.{BodyTurn}

-- until when no body is read: a pause that isn't over lasts as long as necessary; otherwise not at all without a pause, else two seconds longer
abbrev pub pause_end : ℕ → ℕ → ℕ → ℕ
pause_end until now pause =
    cond (nat_lt now until) (max until (sum_within now pause)) (cond (pause == 0) 0 (sum_within (sum_within now pause) 2000))

-- a meter after an amount is taken at a moment: no more than twice the burst is owed
abbrev pub meter_taken : Rate → ℕ → ℕ → Meter → Meter
meter_taken rate now amount m = meter_within rate (meter_with amount (meter_at rate now m))

-- the pause after a turn: until both rates allow more, or at least a rest while too much of the rendition is kept
abbrev pub pause_after : LaneLimits → Bool → Meter → Meter → ℕ
pause_after l is_full units bytes = max (max (pause_of l.units units) (pause_of l.bytes bytes)) (cond is_full 1 0)

-- What a turn takes of a lane: its parts and its bytes are owed, nobody is read during the pause that follows, and the queue stays.
abbrev pub TakesTurn : LaneLimits → BodyTurn → ℕ → Bool → Lane → Lane → Type 0
TakesTurn l turn bytes is_full before after =
    (after.units ≡ meter_taken l.units turn.now_ms turn.parts before.units)
    × (after.bytes ≡ meter_taken l.bytes turn.now_ms bytes before.bytes)
    × (after.until_ms ≡ pause_end before.until_ms turn.now_ms (pause_after l is_full after.units after.bytes))
    × (after.queue ≡ before.queue)

-- the share after it waits by a number
abbrev pub share_waiting : ℕ → BodyShare → BodyShare
share_waiting number s = record {
  rendition = s.rendition;
  received = s.received;
  incomplete = s.incomplete;
  ticket = s.ticket;
  was_slow = s.was_slow;
  needs_place = s.needs_place;
  number = number;
}

-- a body without need of a place asks for its turn, and is held just if it gets a number to wait by
abbrev pub AsksTurn : ℕ → Lane → BodyShare → Lane → BodyShare → Bool → Type 0
AsksTurn now before share after new held =
    (after.queue ≡ queue_after share.number (nat_lt now before.until_ms) now before.queue)
    × (new ≡ share_waiting (answer_of share.number (nat_lt now before.until_ms) now before.queue) share)
    × (held ≡ not (new.number == 0))

-- the lane with another queue and other places
abbrev pub lane_with : TurnQueue → Places → Lane → Lane
lane_with queue places l = record { units = l.units; bytes = l.bytes; until_ms = l.until_ms; queue = queue; places = places }

-- a body that needs a place took it if it may, and then asked for its turn; else it is held, and the queue is as it was
abbrev pub HoldsSeated : ℕ → Lane → BodyShare → Lane → BodyShare → Bool → Type 0
HoldsSeated now before got after new held =
    (got.needs_place ≡ true → (held ≡ true) × (after.queue ≡ before.queue) × (new ≡ got))
    × (got.needs_place ≡ false → AsksTurn now before got after new held)

-- Nothing is taken, and the pause lasts as long as before. A body that doesn't need a place asks for its turn, and wakes nobody. One that does
-- takes it first, and another one is woken just if a place was left for which it waits.
pub record HoldsBody (patience now : ℕ) (before : Lane) (share : BodyShare) (after : Lane) (new : BodyShare) (held woken : Bool) : Type 0 where
  pub kept : after ≡ lane_with after.queue after.places before
  pub plain : share.needs_place ≡ false → AsksTurn now before share after new held × (after.places ≡ before.places) × (woken ≡ false)
  pub seats : share.needs_place ≡ true → (got : BodyShare) × SeatsChecked patience now before.places share after.places got woken
      × HoldsSeated now before got after new held

-- the lane once a body left it: its turn is over, and its places are free
abbrev pub lane_left : ℕ → BodyShare → Lane → Lane
lane_left now s l = lane_with (queue_without s.number l.queue) (places_left s.ticket now l.places) l

-- What a turn takes of a lane, whatever other threads made of it before.
pub record TakesAtSome (l : LaneLimits) (turn : BodyTurn) (share new : BodyShare) (woken : Bool) : Type 0 where
  pub before : Lane
  pub after : Lane
  pub is_full : Bool
  pub takes : TakesTurn l turn share.received is_full before after
  pub seats : SeatsChecked l.patience_ms turn.now_ms before.places (share_after_turn turn share) after.places new woken

-- Whether a body is held at a lane, whatever other threads made of it before.
pub record HeldAtSome (patience now : ℕ) (share new : BodyShare) (held woken : Bool) : Type 0 where
  pub before : Lane
  pub after : Lane
  pub holds : HoldsBody patience now before share after new held woken

-- What a body has at a lane is free, whatever other threads made of it before: its turn and its places. One that waits for them is woken, if
-- one waits.
pub record LeavesSome (now : ℕ) (share new : BodyShare) (woken : Bool) : Type 0 where
  pub before : Lane
  pub after : Lane
  pub lane : after ≡ lane_left now share before
  pub share_is : new ≡ share_waiting 0 (share_with 0 share)
  pub woken_is : woken ≡ wakes share.ticket before.places
