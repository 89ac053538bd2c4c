-- Rates of what is taken: a token bucket. What is taken is owed, in thousandths, and time pays it.
use Rattle.std.specs.Prelude.{ℕ, ◌+◌, ◌-◌, ◌*◌, ◌/◌, ◌^◌, ◌≤◌, ◌↔◌, min, max, List, [], ◌∷◌}
use Rattle.std.specs.Int.{div_ceil}
use Rattle.hls_rates.specs.declared.rate.Rate.{Rate}
use Rattle.hls_rates.specs.declared.meter.Meter.{Meter}

-- the greatest number of 64 bits
abbrev pub most : ℕ
most = 2 ^ 64 - 1

-- units a second, averaged over ten seconds; at least one
abbrev pub units_rate : ℕ → Rate
units_rate per_second = record { per_second = max per_second 1; at_once = min (max per_second 1 * 10) most }

-- four times the bytes of a bit rate, averaged over a minute; at least the longest unit, 64 MiB, at once
abbrev pub bytes_rate : ℕ → Rate
bytes_rate bits = record { per_second = max (bits / 2) 1; at_once = max (min (max (bits / 2) 1 * 60) most) 67108864 }

-- what is still owed after some milliseconds: time pays a rate a second as thousandths a millisecond, and no more than is owed
abbrev pub owed_after : ℕ → ℕ → ℕ → ℕ
owed_after per_second time_ms owed = owed - time_ms * per_second

-- the meter at a moment
abbrev pub meter_at : Rate → ℕ → Meter → Meter
meter_at rate now m = record { owed = owed_after rate.per_second (now - m.paid_ms) m.owed; paid_ms = max now m.paid_ms }

-- the meter after an amount is taken, as far as 64 bits count it
abbrev pub meter_with : ℕ → Meter → Meter
meter_with amount m = record { owed = min (m.owed + min (amount * 1000) most) most; paid_ms = m.paid_ms }

-- the meter, with at most twice the burst owed
abbrev pub meter_within : Rate → Meter → Meter
meter_within rate m = record { owed = min m.owed (min (min (rate.at_once * 1000) most * 2) most); paid_ms = m.paid_ms }

-- for how many milliseconds nothing more may be taken: what is owed above the burst, divided by the rate and rounded up
abbrev pub pause_of : Rate → Meter → ℕ
pause_of rate m = div_ceil (m.owed - min (rate.at_once * 1000) most) rate.per_second

-- the pause is over after a time just if no more than the burst is owed then
abbrev pub IsPause : Rate → Meter → ℕ → ℕ → Type 0
IsPause rate m pause_ms time_ms = pause_ms ≤ time_ms ↔ owed_after rate.per_second time_ms m.owed ≤ rate.at_once * 1000

-- what is owed after takes in their order: each is a time in milliseconds since the one before, and an amount
abbrev pub owed_over : ℕ → List (ℕ × ℕ) → ℕ → ℕ
owed_over per_second [] owed = owed
owed_over per_second (t ∷ takes) owed = owed_over per_second takes (owed_after per_second t.0 owed + 1000 * t.1)

-- the amount of takes
abbrev pub amount_of : List (ℕ × ℕ) → ℕ
amount_of [] = 0
amount_of (t ∷ takes) = t.1 + amount_of takes

-- the time of takes, in milliseconds
abbrev pub time_of : List (ℕ × ℕ) → ℕ
time_of [] = 0
time_of (t ∷ takes) = t.0 + time_of takes
