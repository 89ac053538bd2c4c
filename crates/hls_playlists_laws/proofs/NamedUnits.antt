-- What a path names, by its tests.
use Rattle.std.proofs.Common.{◌≡◌, ◌⊎◌, ℕ, ◌+◌, ◌-◌, ◌<◌, ◌≤◌, Bool, true, false, List, cond, Option, Some, None, arith, refl, sym, ap, inl, inr, ◌∙◌}
use Rattle.std.specs.Prelude.{nat_lt}
use Rattle.std.proofs.lemmas.Bool.{cases_lt, cond-true, cond-false, le-ltb, lt-ltb, ltb-true, ltb-false}
use Rattle.hls_media_laws.specs.declared.facts.Facts.{Facts}
use Rattle.hls_playlists_laws.specs.NamedUnits.{KeptUnits, Named, NoUnits, TrimmedUnits, may_be_segment, named_between, named_units, unit_after}

-- a path passes the tests to name the units from number m to the one before n: both its ends are found, and they may be a segment
pub record IsNamed (before target size : ℕ) (facts : List Facts) (first last m n : ℕ) : Type 0 where
  pub low : size + before ≤ first
  pub begins : unit_after 0 facts (first - (size + before)) ≡ Some m
  pub ends : unit_after 0 facts (last + 1 - (size + before)) ≡ Some n
  pub may : may_be_segment target facts m n ≡ true

-- if kept units result after the two tests of the first byte, both tests fail
outer-kept : (b c : Bool) (rest : Named) (m n : ℕ) → cond b NoUnits (cond c TrimmedUnits rest) ≡ KeptUnits m n →
    (b ≡ false) × (c ≡ false) × (rest ≡ KeptUnits m n)
outer-kept true c rest m n is = absurd (cc)
outer-kept false true rest m n is = absurd (cc)
outer-kept false false rest m n is = (refl, refl, is)

-- if kept units result from the two tests of found units, these may be a segment and the first is not trimmed
inner-kept : (b c : Bool) (i j m n : ℕ) → cond b (cond c TrimmedUnits (KeptUnits i j)) NoUnits ≡ KeptUnits m n →
    (b ≡ true) × (c ≡ false) × (i ≡ m) × (j ≡ n)
inner-kept true true i j m n is = absurd (cc)
inner-kept true false i j m n is =
    let left : i ≡ m = cc in
    let right : j ≡ n = cc in
    (refl, refl, left, right)
inner-kept false c i j m n is = absurd (cc)

-- units from number m to the one before n are found, may be a segment, and begin at the floor or after it
record AreKept (target : ℕ) (facts : List Facts) (floor : ℕ) (o p : Option ℕ) (m n : ℕ) : Type 0 where
  begins : o ≡ Some m
  ends : p ≡ Some n
  may : may_be_segment target facts m n ≡ true
  kept : floor ≤ m

-- if kept units are named between two units, both are found, they may be a segment, and the first is at the floor or after it
between-kept : (target : ℕ) (facts : List Facts) (floor : ℕ) (o p : Option ℕ) (m n : ℕ) → named_between target facts floor o p ≡ KeptUnits m n →
    AreKept target facts floor o p m n
between-kept target facts floor None None m n is = absurd (cc)
between-kept target facts floor None (Some j) m n is = absurd (cc)
between-kept target facts floor (Some i) None m n is = absurd (cc)
between-kept target facts floor (Some i) (Some j) m n is =
    let found = inner-kept (may_be_segment target facts i j) (nat_lt i floor) i j m n is in
    record {
      begins = ap (λ (k : ℕ). Some k) found.2;
      ends = ap (λ (k : ℕ). Some k) found.3;
      may = ap (λ (k : ℕ). may_be_segment target facts m k) (sym found.3)
          ∙ (ap (λ (k : ℕ). may_be_segment target facts k j) (sym found.2) ∙ found.0);
      kept = omega (arith, ltb-false i floor found.1, found.2);
    }

-- a path that names kept units passes the tests, and the first unit is at the floor or after it
pub is-named : (before target size : ℕ) (facts : List Facts) (floor first last m n : ℕ) →
    named_units before target size facts floor first last ≡ KeptUnits m n → IsNamed before target size facts first last m n × (floor ≤ m)
is-named before target size facts floor first last m n is =
    let o : Option ℕ = unit_after 0 facts (first - (size + before)) in
    let p : Option ℕ = unit_after 0 facts (last + 1 - (size + before)) in
    let out = outer-kept (nat_lt first size) (nat_lt first (size + before)) (named_between target facts floor o p) m n is in
    let inner = between-kept target facts floor o p m n out.2 in (
      record {
        low = ltb-false first (size + before) out.1;
        begins = inner.begins;
        ends = inner.ends;
        may = inner.may;
      },
      inner.kept,
    )

-- units that are found and may be a segment are named, or trimmed ones if the first is below the floor
between-put : (target : ℕ) (facts : List Facts) (floor : ℕ) (o p : Option ℕ) (m n : ℕ) → o ≡ Some m → p ≡ Some n →
    may_be_segment target facts m n ≡ true → named_between target facts floor o p ≡ cond (nat_lt m floor) TrimmedUnits (KeptUnits m n)
between-put target facts floor o p m n begins ends may =
    ap (λ (x : Option ℕ). named_between target facts floor x p) begins
    ∙ (ap (named_between target facts floor (Some m)) ends ∙ cond-true (may_be_segment target facts m n) _ _ may)

-- a path that passes the tests names these units, or trimmed ones if the first is below the floor
named-put : (before target size : ℕ) (facts : List Facts) (floor first last m n : ℕ) → IsNamed before target size facts first last m n →
    named_units before target size facts floor first last ≡ cond (nat_lt m floor) TrimmedUnits (KeptUnits m n)
named-put before target size facts floor first last m n named =
    cond-false (nat_lt first size) _ _ (le-ltb first size (omega (arith, named.low)))
    ∙ (cond-false (nat_lt first (size + before)) _ _ (le-ltb first (size + before) named.low)
    ∙ between-put target facts floor (unit_after 0 facts (first - (size + before))) (unit_after 0 facts (last + 1 - (size + before))) m n
    named.begins named.ends named.may)

-- a path that passes the tests names kept units if the first is at the floor or after it
pub kept-named : (before target size : ℕ) (facts : List Facts) (floor first last m n : ℕ) → IsNamed before target size facts first last m n →
    floor ≤ m → named_units before target size facts floor first last ≡ KeptUnits m n
kept-named before target size facts floor first last m n named kept =
    named-put before target size facts floor first last m n named ∙ cond-false (nat_lt m floor) _ _ (le-ltb m floor kept)

-- a path that passes the tests names trimmed units if the first is below the floor
pub trimmed-named : (before target size : ℕ) (facts : List Facts) (floor first last m n : ℕ) → IsNamed before target size facts first last m n →
    m < floor → named_units before target size facts floor first last ≡ TrimmedUnits
trimmed-named before target size facts floor first last m n named gone =
    named-put before target size facts floor first last m n named ∙ cond-true (nat_lt m floor) _ _ (lt-ltb m floor gone)

-- a path that passes the tests names these units, or trimmed ones
pub named-either : (before target size : ℕ) (facts : List Facts) (floor first last m n : ℕ) → IsNamed before target size facts first last m n →
    (named_units before target size facts floor first last ≡ KeptUnits m n) ⊎ (named_units before target size facts floor first last ≡ TrimmedUnits)
named-either before target size facts floor first last m n named =
    elim (cases_lt m floor) [
      | inl gone ↦ inr (trimmed-named before target size facts floor first last m n named gone)
      | inr kept ↦ inl (kept-named before target size facts floor first last m n named kept)
    ]

-- what names trimmed units begins among those that precede the recording, or names units whose first is trimmed
pub data IsTrimmed (before target size : ℕ) (facts : List Facts) (floor first last : ℕ) : Type 0 where
  Precedes : (size ≤ first) → (first < size + before) → IsTrimmed before target size facts floor first last
  Below : (m n : ℕ) → IsNamed before target size facts first last m n → m < floor → IsTrimmed before target size facts floor first last

-- if trimmed units result from the two tests of found units, these may be a segment and the first is trimmed
inner-trimmed : (b c : Bool) (i j : ℕ) → cond b (cond c TrimmedUnits (KeptUnits i j)) NoUnits ≡ TrimmedUnits → (b ≡ true) × (c ≡ true)
inner-trimmed true true i j is = (refl, refl)
inner-trimmed true false i j is = absurd (cc)
inner-trimmed false c i j is = absurd (cc)

-- if trimmed units are named between two units, both are found, they may be a segment, and the first is below the floor
between-trimmed : (target : ℕ) (facts : List Facts) (floor : ℕ) (o p : Option ℕ) → named_between target facts floor o p ≡ TrimmedUnits →
    (m : ℕ) × (n : ℕ) × (o ≡ Some m) × (p ≡ Some n) × (may_be_segment target facts m n ≡ true) × (m < floor)
between-trimmed target facts floor None None is = absurd (cc)
between-trimmed target facts floor None (Some j) is = absurd (cc)
between-trimmed target facts floor (Some i) None is = absurd (cc)
between-trimmed target facts floor (Some i) (Some j) is =
    let found = inner-trimmed (may_be_segment target facts i j) (nat_lt i floor) i j is in
    (i, j, refl, refl, found.0, ltb-true i floor found.1)

-- the same for a whole path, by the results of the two tests of its first byte
outer-trimmed : (before target size : ℕ) (facts : List Facts) (floor first last : ℕ) (b c : Bool) → nat_lt first size ≡ b →
    nat_lt first (size + before) ≡ c →
    cond b NoUnits (cond c TrimmedUnits (named_between target facts floor (unit_after 0 facts (first - (size + before))) (unit_after 0 facts (last + 1 - (size + before)))))
    ≡ TrimmedUnits → IsTrimmed before target size facts floor first last
outer-trimmed before target size facts floor first last true c low few is = absurd (cc)
outer-trimmed before target size facts floor first last false true low few is =
    Precedes (ltb-false first size low) (ltb-true first (size + before) few)
outer-trimmed before target size facts floor first last false false low few is =
    let found = between-trimmed target facts floor (unit_after 0 facts (first - (size + before))) (unit_after 0 facts (last + 1 - (size + before))) is in
    Below found.0 found.1 (record {
      low = ltb-false first (size + before) few;
      begins = found.2;
      ends = found.3;
      may = found.4;
    }) found.5

-- a path that names trimmed units begins among those that precede the recording, or names units whose first is below the floor
pub is-trimmed : (before target size : ℕ) (facts : List Facts) (floor first last : ℕ) →
    named_units before target size facts floor first last ≡ TrimmedUnits → IsTrimmed before target size facts floor first last
is-trimmed before target size facts floor first last is =
    outer-trimmed before target size facts floor first last (nat_lt first size) (nat_lt first (size + before)) refl refl is
