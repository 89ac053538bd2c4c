-- Whether renditions continue over a gap, one unit and one rendition at a time.
use Rattle.std.proofs.Common.{◌≡◌, ℕ, zero, suc, ◌+◌, ◌-◌, ◌<◌, true, false, List, refl, subst, arith}
use Rattle.std.specs.Prelude.{nat_le, ◌||◌}
use Rattle.hls_media_laws.specs.declared.facts.Facts.{Facts}
use Rattle.hls_media_laws.specs.FactLists.{fact_at}
use Rattle.hls_core_laws.specs.State.{State}
use Rattle.hls_core.specs.Getters.{recording_of}
use Rattle.hls_api.specs.GapLimits.{any_continues, continues_over, is_joined, reaches_back}

-- none of zero renditions continues over a gap
pub any_zero : (fill_us from_us to_us : ℕ) (s : State) → any_continues fill_us from_us to_us s 0 ≡ false
unfolding any_continues
any_zero fill_us from_us to_us s = refl

-- one of the first n + 1 renditions continues over a gap if one of the first n or rendition n does
pub any_next : (fill_us from_us to_us : ℕ) (s : State) (n : ℕ)
    → any_continues fill_us from_us to_us s (n + 1) ≡ any_continues fill_us from_us to_us s n || continues_over fill_us from_us to_us (recording_of s n)
unfolding any_continues
any_next fill_us from_us to_us s n = let a : n + 1 ≡ suc n = omega arith in rw a refl

-- ---- units

-- units don't reach back if none may be looked at
pub back_over : (fs : List Facts) (from_us count : ℕ) → reaches_back 0 fs from_us count ≡ false
unfolding reaches_back
back_over fs from_us count = refl

-- no units don't reach back
pub back_none : (left : ℕ) (fs : List Facts) (from_us : ℕ) → reaches_back left fs from_us 0 ≡ false
unfolding reaches_back
back_none zero fs from_us = refl
back_none (suc left) fs from_us = refl

-- units reach back to a moment if the last of them starts at or before it
pub back_found : (left count : ℕ) (fs : List Facts) (from_us : ℕ) → 0 < left → 0 < count → nat_le (fact_at fs (count - 1)).start_us from_us ≡ true
    → reaches_back left fs from_us count ≡ true
unfolding reaches_back
back_found zero count fs from_us some more is = absurd (omega (arith, some))
back_found (suc left) zero fs from_us some more is = absurd (omega (arith, more))
back_found (suc left) (suc n) fs from_us some more is =
    let b : suc n - 1 ≡ n = omega arith in
    let found : nat_le (fact_at fs n).start_us from_us ≡ true = subst (λ (k : ℕ). nat_le (fact_at fs k).start_us from_us ≡ true) b is in
    rw found refl

-- units don't reach back to a moment if the last of them starts after it and there is a hole before it
pub back_hole : (left count : ℕ) (fs : List Facts) (from_us : ℕ) → 0 < left → 0 < count → nat_le (fact_at fs (count - 1)).start_us from_us ≡ false
    → is_joined fs (count - 1) ≡ false → reaches_back left fs from_us count ≡ false
unfolding reaches_back
back_hole zero count fs from_us some more late hole = absurd (omega (arith, some))
back_hole (suc left) zero fs from_us some more late hole = absurd (omega (arith, more))
back_hole (suc left) (suc n) fs from_us some more late hole =
    let b : suc n - 1 ≡ n = omega arith in
    let after : nat_le (fact_at fs n).start_us from_us ≡ false = subst (λ (k : ℕ). nat_le (fact_at fs k).start_us from_us ≡ false) b late in
    let apart : is_joined fs n ≡ false = subst (λ (k : ℕ). is_joined fs k ≡ false) b hole in
    rw (after, apart) refl

-- if the last unit starts after the moment without a hole before it, units reach back if those before it do, with one fewer to look at
pub back_next : (left count : ℕ) (fs : List Facts) (from_us : ℕ) → 0 < left → 0 < count → nat_le (fact_at fs (count - 1)).start_us from_us ≡ false
    → is_joined fs (count - 1) ≡ true → reaches_back left fs from_us count ≡ reaches_back (left - 1) fs from_us (count - 1)
unfolding reaches_back
back_next zero count fs from_us some more late joined = absurd (omega (arith, some))
back_next (suc left) zero fs from_us some more late joined = absurd (omega (arith, more))
back_next (suc left) (suc n) fs from_us some more late joined =
    let a : suc left - 1 ≡ left = omega arith in
    let b : suc n - 1 ≡ n = omega arith in
    let after : nat_le (fact_at fs n).start_us from_us ≡ false = subst (λ (k : ℕ). nat_le (fact_at fs k).start_us from_us ≡ false) b late in
    let together : is_joined fs n ≡ true = subst (λ (k : ℕ). is_joined fs k ≡ true) b joined in
    rw (a, b, after, together) refl
