-- A connection's share of a lane.
use Rattle.std.specs.Prelude.{ℕ, ◌+◌, ◌-◌, ◌^◌, Bool, false, not, cond, ◌&&◌, ◌||◌, min, nat_lt}
use Rattle.hls_rates.specs.declared.share.BodyShare.{BodyShare}
use Rattle.hls_rates.specs.declared.share.BodyTurn.{BodyTurn}

-- a sum, as far as 64 bits count it
abbrev pub sum_within : ℕ → ℕ → ℕ
sum_within a b = min (a + b) (2 ^ 64 - 1)

-- the share after bytes were read
abbrev pub share_after_read : ℕ → BodyShare → BodyShare
share_after_read bytes s = record {
  rendition = s.rendition;
  received = sum_within s.received bytes;
  incomplete = s.incomplete;
  ticket = s.ticket;
  was_slow = s.was_slow;
  needs_place = s.needs_place;
  number = s.number;
}

-- a turn ended a unit: it completed a part, or the body is over
abbrev pub ends_unit : BodyTurn → Bool
ends_unit turn = nat_lt 0 turn.parts || not turn.is_open

-- the share after a turn: what was read is of the incomplete unit, unless the turn ended one; a body that ended one is slow no longer
abbrev pub share_after_turn : BodyTurn → BodyShare → BodyShare
share_after_turn turn s = record {
  rendition = turn.rendition;
  received = 0;
  incomplete = cond (ends_unit turn) 0 (sum_within s.incomplete s.received);
  ticket = s.ticket;
  was_slow = cond (ends_unit turn) false s.was_slow;
  needs_place = s.needs_place;
  number = s.number;
}

-- the number by which a body waits whose client has hung up: after all that are below 2^63
abbrev pub number_gone : ℕ → ℕ
number_gone number = cond (nat_lt 0 number && nat_lt number (2 ^ 63)) (number + 2 ^ 63) number

-- the share once its client has hung up: it waits last, for a turn and for a place
abbrev pub share_gone : BodyShare → BodyShare
share_gone s = record {
  rendition = s.rendition;
  received = s.received;
  incomplete = s.incomplete;
  ticket = s.ticket;
  was_slow = s.was_slow || s.needs_place;
  needs_place = s.needs_place;
  number = number_gone s.number;
}
