-- A number is read bit by bit, from the highest on.
use Rattle.std.proofs.Common.{◌≡◌, ℕ, zero, suc, ◌+◌, ◌-◌, ◌*◌, ◌^◌, ◌<◌, List, sym, ◌∙◌, arith}
use Rattle.std.proofs.Math.Nat.{pow-succ'}
use Rattle.hls_codecs.specs.Boxes.{bit_at, bits_at}

-- the next bit of a number doubles what was read and adds the bit
one-more : (v b p r : ℕ) → v * (2 * p) + (b * p + r) ≡ (v * 2 + b) * p + r
one-more v b p r = grind arith

-- the bits still to read are the next one and the others
bits-step : (v k at : ℕ) (bytes : List ℕ) → v * 2 ^ suc k + bits_at (suc k) at bytes ≡ (v * 2 + bit_at at bytes) * 2 ^ k + bits_at k (suc at) bytes
unfolding bits_at
bits-step v k at bytes = rw (pow-succ' 2 k) (one-more v (bit_at at bytes) (2 ^ k) (bits_at k (suc at) bytes))

-- reading one more bit leaves the number that the bits read and those still to read make up as it is
pub bits-next : (v b number count done at : ℕ) (bytes : List ℕ) → done < count → b ≡ bit_at (at + done) bytes
    → v * 2 ^ (count - done) + bits_at (count - done) (at + done) bytes ≡ number
    → (v * 2 + b) * 2 ^ (count - (done + 1)) + bits_at (count - (done + 1)) (at + (done + 1)) bytes ≡ number
bits-next v b number count done at bytes more is before =
    let k : count - done ≡ suc (count - (done + 1)) = omega arith in
    let next : at + (done + 1) ≡ suc (at + done) = omega arith in
    rw (is, next) (sym (bits-step v (count - (done + 1)) (at + done) bytes) ∙ (rw k at before))

-- after the last bit the number that was read is the whole one
pub bits-end : (v number count done at : ℕ) (bytes : List ℕ) → done ≡ count
    → v * 2 ^ (count - done) + bits_at (count - done) (at + done) bytes ≡ number → v ≡ number
unfolding bits_at
bits-end v number count done at bytes all before =
    let k : count - done ≡ zero = omega arith in
    let e : v * 2 ^ zero + bits_at zero (at + done) bytes ≡ number = rw k at before in
    omega arith

-- a number of `done` bits and one more bit are a number of `done` + 1 bits
pub bits-bound : (v b done : ℕ) → v < 2 ^ done → b < 2 → v * 2 + b < 2 ^ (done + 1)
bits-bound v b done below bit =
    let e : done + 1 ≡ suc done = omega arith in
    rw (e, pow-succ' 2 done) (omega arith)
