-- Places for incomplete units.
use Rattle.std.specs.Prelude.{ℕ, ◌-◌, Bool, cond, ◌&&◌, ◌||◌, ◌==◌, nat_le}
use Rattle.hls_rates.specs.declared.place.Place.{Place}
use Rattle.hls_rates.specs.declared.place.UnitSize.{UnitSize}
use Rattle.hls_rates.specs.declared.place.UnitSize.TheVariants as sizes

-- how large an incomplete unit is: up to 64 KiB, up to 1 MiB, or larger
abbrev pub size_of_unit : ℕ → UnitSize
size_of_unit bytes = cond (nat_le bytes 65536) sizes.Tiny (cond (nat_le bytes 1048576) sizes.Small sizes.Large)

-- a place has been as it is for the patience
abbrev pub is_old : ℕ → ℕ → Place → Bool
is_old patience_ms now p = nat_le patience_ms (now - p.since_ms)

-- another body may take a place that is free, or that its holder has had for the patience; one that was slow, only a place that has been
-- free for the patience
abbrev pub may_take_place : Bool → ℕ → ℕ → Place → Bool
may_take_place was_slow patience_ms now p =
    cond was_slow (p.holder == 0 && is_old patience_ms now p) (p.holder == 0 || is_old patience_ms now p)

-- a place that a body leaves is free from now on, if that body has it
abbrev pub place_left_by : ℕ → ℕ → Place → Place
place_left_by ticket now p = cond (p.holder == ticket) (record { holder = 0; since_ms = now }) p
