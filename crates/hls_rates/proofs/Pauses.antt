-- A pause is the quotient of what is owed above the burst, rounded up.
use Rattle.std.proofs.Common.{◌≡◌, ℕ, ◌+◌, ◌-◌, ◌*◌, ◌/◌, ◌%◌, ◌<◌, ◌≤◌, ◌↔◌, min, arith}
use Rattle.std.proofs.Math.Nat.{lt_of_mul-lt-mul_right, mul-le-mul_right}
use Rattle.std.proofs.lemmas.Grind.{div_ceil_times}

-- the product of the next number
times_next : (time per : ℕ) → (time + 1) * per ≡ time * per + per
times_next time per = grind arith

-- a number whose product is less than the next number's product is at most that number
at_most : (q per time above : ℕ) → q * per < above + per → above ≤ time * per → q ≤ time
at_most q per time above bound paid =
    let less : q * per < (time + 1) * per = omega (arith, times_next time per, bound, paid) in
    omega (arith, lt_of_mul-lt-mul_right per less)

-- a product that is enough stays enough for a greater number
enough : (q per time above : ℕ) → above ≤ q * per → q ≤ time → above ≤ time * per
enough q per time above least later = omega (arith, mul-le-mul_right per later, least)

-- what is owed above the burst is paid after a time just if no more than the burst is owed then
pub paid_after : (owed burst per time : ℕ) → 0 < per → ((owed - burst) / per + min 1 ((owed - burst) % per) ≤ time) ↔ (owed - time * per ≤ burst)
paid_after owed burst per time positive =
    let q = (owed - burst) / per + min 1 ((owed - burst) % per) in
    let bounds = div_ceil_times (owed - burst) per positive in (
      λ later. omega (arith, enough q per time (owed - burst) bounds.0 later),
      λ paid. at_most q per time (owed - burst) bounds.1 (omega (arith, paid)),
    )
