-- Counts of failed calls.
use Rattle.std.specs.Prelude.{◌≡◌, ℕ, ◌^◌, ◌<◌, ◌⊎◌}

-- a count of failures has increased; one at its maximum counts as increased
abbrev pub FailuresRose : ℕ → ℕ → Type 0
FailuresRose old new = (old < new) ⊎ (new ≡ 2 ^ 63)
