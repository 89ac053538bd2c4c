-- What takes add up to.
use Rattle.std.proofs.Common.{◌≡◌, ℕ, ◌+◌, ◌*◌, ◌≤◌, List, [], ◌∷◌, arith}
use Rattle.hls_rates.specs.Rates.{amount_of, owed_after, owed_over, time_of}

-- products over a sum
spread : (a x y : ℕ) → a * (x + y) ≡ a * x + a * y
spread a x y = grind arith

-- factors in the other order
turned : (a b : ℕ) → a * b ≡ b * a
turned a b = grind arith

-- without a take nothing is added
nothing : (per owed : ℕ) → owed + 1000 * 0 ≤ owed + per * 0
nothing per owed = grind arith

-- if the rest is bounded, so is all with one take before it
step : (per owed time amount amounts rest times : ℕ) → owed_after per time owed + 1000 * amount + 1000 * amounts ≤ rest + per * times
    → owed + 1000 * (amount + amounts) ≤ rest + per * (time + times)
step per owed time amount amounts rest times h = omega (arith, h, spread per time times, turned time per)

-- the amount of takes is at most what is owed after them and what their time has paid
pub bounded : (per owed : ℕ) (takes : List (ℕ × ℕ)) → owed + 1000 * amount_of takes ≤ owed_over per takes owed + per * time_of takes
bounded per owed [] = nothing per owed
bounded per owed (t ∷ takes) =
    step per owed t.0 t.1 (amount_of takes) (owed_over per takes (owed_after per t.0 owed + 1000 * t.1)) (time_of takes)
    (bounded per (owed_after per t.0 owed + 1000 * t.1) takes)
