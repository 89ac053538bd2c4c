-- The grammar of a part, and the walk over the types of its boxes.
use Rattle.std.proofs.Common.{◌≡◌, ℕ, ◌==◌, Bool, true, false, ◌&&◌, List, [], ◌∷◌, ◌++◌, ◌∙◌, ap, refl}
use Rattle.std.specs.List.{list_all}
use Rattle.hls_boxes.specs.Kinds.{moov_type, moof_type, mdat_type}
use Rattle.hls_boxes.specs.Grammar.{is_loose, AreLoose, InitKinds, UnitKinds}
use Rattle.hls_boxes.proofs.KindTests.{is_last, ends_init, ends_unit, has_unit}
use Rattle.hls_boxes.proofs.KindLaws.{by_kind, only-last}

-- both parts of a true conjunction are true
both : (a b : Bool) → (a && b) ≡ true → (a ≡ true) × (b ≡ true)
both true b is = (refl, is)
both false b is = absurd (cc)

-- loose types with one more loose type in front are loose
loose-more : (k : ℕ) (kinds : List ℕ) → is_loose k ≡ true → AreLoose kinds → AreLoose (k ∷ kinds)
loose-more k kinds is are = rw (is, are) refl

-- loose types without the first one are loose
pub loose-rest : (k : ℕ) (kinds : List ℕ) → AreLoose (k ∷ kinds) → AreLoose kinds
loose-rest k kinds are = (both (is_loose k) (list_all is_loose kinds) are).1

-- a type that is none of the three is loose
is_loose-true : (k : ℕ) → (k == moov_type) ≡ false → (k == moof_type) ≡ false → (k == mdat_type) ≡ false → is_loose k ≡ true
is_loose-true k a b c = rw (a, b, c) refl

-- loose types, and this one at the end
record Ended (last : ℕ) (kinds : List ℕ) : Type 0 where
  front : List ℕ
  loose : AreLoose front
  in_order : kinds ≡ front ++ last ∷ []

-- a type with no type after it is at the end of the types
ended-last : (last : ℕ) (kinds : List ℕ) → is_last kinds ≡ true → Ended last (last ∷ kinds)
ended-last last kinds is = record { front = []; loose = refl; in_order = ap (λ (ks : List ℕ). last ∷ ks) (only-last kinds is) }

-- types that end with a type still do so with a loose type in front
ended-more : (last k : ℕ) (kinds : List ℕ) → is_loose k ≡ true → Ended last kinds → Ended last (k ∷ kinds)
ended-more last k kinds is e = record { front = k ∷ e.front; loose = loose-more k e.front is e.loose; in_order = ap (λ (ks : List ℕ). k ∷ ks) e.in_order }

-- types that pass the test of an init section are loose, with a `moov` at the end
ends_init-ended : (kinds : List ℕ) → ends_init kinds ≡ true → Ended moov_type kinds
ends_init-ended [] = λ is. absurd (cc)
ends_init-ended (k ∷ kinds) = by_kind k (λ k. ends_init (k ∷ kinds) ≡ true → Ended moov_type (k ∷ kinds))
    (λ is. ended-last moov_type kinds is) (λ is. absurd (cc)) (λ is. absurd (cc))
    (λ a b c is. let more : ends_init kinds ≡ true = rw (a, b, c) at is in ended-more moov_type k kinds (is_loose-true k a b c) (ends_init-ended kinds more))

-- loose types with a `moov` at the end pass the test of an init section
ended-ends_init : (front : List ℕ) → AreLoose front → ends_init (front ++ moov_type ∷ []) ≡ true
ended-ends_init [] = λ are. refl
ended-ends_init (k ∷ front) = by_kind k (λ k. AreLoose (k ∷ front) → ends_init (k ∷ (front ++ moov_type ∷ [])) ≡ true)
    (λ are. absurd (cc)) (λ are. absurd (cc)) (λ are. absurd (cc))
    (λ a b c are. rw (a, b, c) (ended-ends_init front (loose-rest k front are)))

-- types that pass the test of a unit after its `moof` are loose, with an `mdat` at the end
ends_unit-ended : (kinds : List ℕ) → ends_unit kinds ≡ true → Ended mdat_type kinds
ends_unit-ended [] = λ is. absurd (cc)
ends_unit-ended (k ∷ kinds) = by_kind k (λ k. ends_unit (k ∷ kinds) ≡ true → Ended mdat_type (k ∷ kinds))
    (λ is. absurd (cc)) (λ is. absurd (cc)) (λ is. ended-last mdat_type kinds is)
    (λ a b c is. let more : ends_unit kinds ≡ true = rw (a, b, c) at is in ended-more mdat_type k kinds (is_loose-true k a b c) (ends_unit-ended kinds more))

-- loose types with an `mdat` at the end pass the test of a unit after its `moof`
ended-ends_unit : (front : List ℕ) → AreLoose front → ends_unit (front ++ mdat_type ∷ []) ≡ true
ended-ends_unit [] = λ are. refl
ended-ends_unit (k ∷ front) = by_kind k (λ k. AreLoose (k ∷ front) → ends_unit (k ∷ (front ++ mdat_type ∷ [])) ≡ true)
    (λ are. absurd (cc)) (λ are. absurd (cc)) (λ are. absurd (cc))
    (λ a b c are. rw (a, b, c) (ended-ends_unit front (loose-rest k front are)))

-- types that pass the test of an init section are those of the grammar
pub ends_init-kinds : (kinds : List ℕ) → ends_init kinds ≡ true → InitKinds kinds
ends_init-kinds kinds is =
    let e = ends_init-ended kinds is in
    record { front = e.front; loose = e.loose; in_order = e.in_order }

-- the types of an init section by the grammar pass its test
pub kinds-ends_init : (kinds : List ℕ) → InitKinds kinds → ends_init kinds ≡ true
kinds-ends_init kinds is = ap ends_init is.in_order ∙ ended-ends_init is.front is.loose

-- a `moof` before loose types with an `mdat` at the end makes the types of a unit
unit_begins : (kinds : List ℕ) → Ended mdat_type kinds → UnitKinds (moof_type ∷ kinds)
unit_begins kinds e = record { front = []; between = e.front; loose = refl; loose_between = e.loose; in_order = ap (λ (ks : List ℕ). moof_type ∷ ks) e.in_order }

-- the types of a unit with a loose type in front are those of a unit
unit_more : (k : ℕ) (kinds : List ℕ) → is_loose k ≡ true → UnitKinds kinds → UnitKinds (k ∷ kinds)
unit_more k kinds is u = record { front = k ∷ u.front; between = u.between; loose = loose-more k u.front is u.loose; loose_between = u.loose_between; in_order = ap (λ (ks : List ℕ). k ∷ ks) u.in_order }

-- types that pass the test of a unit are those of the grammar
pub has_unit-kinds : (kinds : List ℕ) → has_unit kinds ≡ true → UnitKinds kinds
has_unit-kinds [] = λ is. absurd (cc)
has_unit-kinds (k ∷ kinds) = by_kind k (λ k. has_unit (k ∷ kinds) ≡ true → UnitKinds (k ∷ kinds))
    (λ is. absurd (cc)) (λ is. unit_begins kinds (ends_unit-ended kinds is)) (λ is. absurd (cc))
    (λ a b c is. let more : has_unit kinds ≡ true = rw (a, b, c) at is in unit_more k kinds (is_loose-true k a b c) (has_unit-kinds kinds more))

-- loose types, a `moof`, loose types and an `mdat` pass the test of a unit
in_order-has_unit : (front between : List ℕ) → AreLoose front → AreLoose between → has_unit (front ++ moof_type ∷ (between ++ mdat_type ∷ [])) ≡ true
in_order-has_unit [] between are loose = ended-ends_unit between loose
in_order-has_unit (k ∷ front) between are loose = by_kind k (λ k. AreLoose (k ∷ front) → has_unit (k ∷ (front ++ moof_type ∷ (between ++ mdat_type ∷ []))) ≡ true)
    (λ are. absurd (cc)) (λ are. absurd (cc)) (λ are. absurd (cc))
    (λ a b c are. rw (a, b, c) (in_order-has_unit front between (loose-rest k front are) loose)) are

-- the types of a unit by the grammar pass its test
pub kinds-has_unit : (kinds : List ℕ) → UnitKinds kinds → has_unit kinds ≡ true
kinds-has_unit kinds is = ap has_unit is.in_order ∙ in_order-has_unit is.front is.between is.loose is.loose_between
