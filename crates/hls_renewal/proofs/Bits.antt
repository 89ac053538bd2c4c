-- A truth value as a number.
use Rattle.std.proofs.Common.{◌≡◌, ◌≤◌, Bool, true, false, refl, arith}
use Rattle.std.specs.Prelude.{if◌then◌else◌}
use Rattle.std.specs.Int.{from_bool}

-- a truth value as a number is at most 1
pub bit_small : (b : Bool) → from_bool b ≤ 1
bit_small true = omega arith
bit_small false = omega arith

-- a truth value as a number is 1 if it is true, else 0
pub bit_is : (b : Bool) → from_bool b ≡ (if b then 1 else 0)
bit_is true = refl
bit_is false = refl
