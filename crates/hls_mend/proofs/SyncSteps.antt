-- The last unit that begins with a sync sample, one unit at a time.
use Rattle.std.proofs.Common.{◌≡◌, ℕ, zero, suc, ◌-◌, ◌<◌, true, false, Some, None, List, refl, subst, arith}
use Rattle.std.specs.Prelude.{slice_index_or}
use Rattle.hls_media_laws.specs.declared.facts.Facts.{Facts}
use Rattle.hls_media_laws.specs.FactLists.{no_facts}
use Rattle.hls_mend.specs.MendedUnits.{last_sync}

-- if the last unit doesn't begin with a sync sample, the search continues among those before it, one fewer of them
pub sync-next : (left count : ℕ) (fs : List Facts) → 0 < left → 0 < count → (slice_index_or fs (count - 1) no_facts).sync ≡ false
    → last_sync left fs count ≡ last_sync (left - 1) fs (count - 1)
unfolding last_sync
sync-next zero count fs some more other = absurd (omega (arith, some))
sync-next (suc left) zero fs some more other = absurd (omega (arith, more))
sync-next (suc left) (suc n) fs some more other =
    let a : suc left - 1 ≡ left = omega arith in
    let b : suc n - 1 ≡ n = omega arith in
    let same : (slice_index_or fs n no_facts).sync ≡ false = subst (λ (k : ℕ). (slice_index_or fs k no_facts).sync ≡ false) b other in
    rw (a, b, same) refl

-- if the last unit begins with a sync sample, it is found
pub sync-found : (left count : ℕ) (fs : List Facts) → 0 < left → 0 < count → (slice_index_or fs (count - 1) no_facts).sync ≡ true
    → last_sync left fs count ≡ Some (count - 1)
unfolding last_sync
sync-found zero count fs some more is = absurd (omega (arith, some))
sync-found (suc left) zero fs some more is = absurd (omega (arith, more))
sync-found (suc left) (suc n) fs some more is =
    let b : suc n - 1 ≡ n = omega arith in
    let found : (slice_index_or fs n no_facts).sync ≡ true = subst (λ (k : ℕ). (slice_index_or fs k no_facts).sync ≡ true) b is in
    rw (b, found) refl

-- among no units, none is found
pub sync-none : (left : ℕ) (fs : List Facts) → last_sync left fs 0 ≡ None
unfolding last_sync
sync-none zero fs = refl
sync-none (suc left) fs = refl

-- if no more units may be looked at, none is found
pub sync-over : (fs : List Facts) (count : ℕ) → last_sync 0 fs count ≡ None
unfolding last_sync
sync-over fs count = refl
