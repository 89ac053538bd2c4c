-- The length of a descriptor, one byte at a time.
use Rattle.std.proofs.Common.{◌≡◌, ℕ, zero, suc, ◌+◌, ◌-◌, ◌*◌, ◌%◌, ◌^◌, ◌<◌, ◌≤◌, nat_lt, true, false, List, [], ◌∷◌, length, drop, Some, None, refl, arith}
use Rattle.std.specs.Prelude.{slice_index}
use Rattle.std.proofs.Math.Nat.{pow-succ', pow-le-pow_right}
use Rattle.std.proofs.lemmas.Bool.Decides.{nat_tests}
use Rattle.hls_codecs.specs.Audio.{descriptor_length}

-- a length that continues after the last byte that it may have is none
pub length-end : (most len : ℕ) (bytes : List ℕ) → most ≡ 0 → descriptor_length most len bytes ≡ None
unfolding descriptor_length
length-end zero len bytes none = refl
length-end (suc most) len bytes none = absurd (omega arith)

-- a length whose bytes end too early is none
pub length-cut : (most len : ℕ) (bytes : List ℕ) → length bytes < 1 → descriptor_length most len bytes ≡ None
unfolding descriptor_length
length-cut zero len bytes none = refl
length-cut (suc most) len [] none = refl
length-cut (suc most) len (b ∷ bytes) none = absurd (omega arith)

-- a byte below 128 is the last of a length
is-last : (b : ℕ) → b < 128 → nat_lt b 128 ≡ true
is-last b last = grind (arith, nat_tests)

-- a byte from 128 on isn't the last of a length
is-not-last : (b : ℕ) → 128 ≤ b → nat_lt b 128 ≡ false
is-not-last b more = grind (arith, nat_tests)

-- a byte below 128 ends the length with its seven bits
pub length-last : (most len b : ℕ) (bytes : List ℕ) → 0 < most → 1 ≤ length bytes → b ≡ slice_index bytes 0 → b < 128 → Some (len * 128 + b, drop 1 bytes) ≡ descriptor_length most len bytes
unfolding descriptor_length
length-last zero len b bytes some more is last = absurd (omega arith)
length-last (suc most) len b [] some more is last = absurd (omega arith)
length-last (suc most) len b (a ∷ bytes) some more is last = rw is (rw (is-last a (rw is at last)) refl)

-- a byte from 128 on adds its lower seven bits, and the length continues
pub length-next : (most len b : ℕ) (bytes : List ℕ) → 0 < most → 1 ≤ length bytes → b ≡ slice_index bytes 0 → 128 ≤ b
    → descriptor_length (most - 1) (len * 128 + b % 128) (drop 1 bytes) ≡ descriptor_length most len bytes
unfolding descriptor_length
length-next zero len b bytes some more is next = absurd (omega arith)
length-next (suc most) len b [] some more is next = absurd (omega arith)
length-next (suc most) len b (a ∷ bytes) some more is next = let e : suc most - 1 ≡ most = omega arith in rw (is, e) (rw (is-not-last a (rw is at next)) refl)

-- one more byte's seven bits keep the length below 128 to the power of the number of bytes read
pub length-bound : (len b left : ℕ) → 0 < left → left ≤ 4 → len < 128 ^ (4 - left) → b < 128 → len * 128 + b < 128 ^ (4 - (left - 1))
length-bound len b left some few below bit =
    let e : 4 - (left - 1) ≡ suc (4 - left) = omega arith in
    rw (e, pow-succ' 128 (4 - left)) (omega arith)

-- before the last byte the length is below 2^21
pub length-small : (len left : ℕ) → 0 < left → len < 128 ^ (4 - left) → len < 2097152
length-small len left some below =
    let few : 4 - left ≤ 3 = omega arith in
    let positive : zero < 128 = omega arith in
    let most : 128 ^ (4 - left) ≤ 128 ^ 3 = pow-le-pow_right positive few in
    omega arith
