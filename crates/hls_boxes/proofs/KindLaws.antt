-- The types of a part's boxes, tested in order.
use Rattle.std.proofs.Common.{◌≡◌, ℕ, ◌+◌, ◌≤◌, ◌==◌, nat_lt, Bool, true, false, ◌||◌, ◌&&◌, not, if◌then◌else◌, Option, Some, None, List, [], ◌∷◌, sym, ◌∙◌, inl, inr, arith, refl, subst}
use Rattle.std.proofs.lemmas.Bool.{cases_lt, cases_Bool, lt-ltb, le-ltb, eqb-true, ne_eqb}
use Rattle.hls_boxes.specs.declared.box_header.BoxHeader.{BoxHeader}
use Rattle.hls_boxes.specs.declared.fault.BoxFault.{BoxFault}
use Rattle.hls_boxes.specs.declared.fault.BoxFault.TheVariants.{BadSize, TooLarge, OpenEnded, MdatAlone, MoofWithoutMdat}
use Rattle.hls_boxes.specs.declared.part.Part.{Part}
use Rattle.hls_boxes.specs.declared.part.Part.TheVariants as parts
use Rattle.hls_boxes.specs.Kinds.{moov_type, moof_type, mdat_type, init_limit, unit_limit}
use Rattle.hls_boxes.specs.Parts.{fault_of, limit_of, part_of}
use Rattle.hls_boxes.proofs.KindTests.{is_last, ends_init, ends_unit, has_unit}
use Rattle.hls_boxes.proofs.Steps.{is_end}

-- what holds of the three types that the cut distinguishes, and of each other type, holds of each type
pub by_kind : (k : ℕ) (P : ℕ → Type 0) → P moov_type → P moof_type → P mdat_type
    → ((k == moov_type) ≡ false → (k == moof_type) ≡ false → (k == mdat_type) ≡ false → P k) → P k
by_kind k P moov moof mdat loose =
    elim (cases_Bool (k == moov_type)) [
      | inl is ↦ subst P (sym (eqb-true k moov_type is)) moov
      | inr not_moov ↦ elim (cases_Bool (k == moof_type)) [
        | inl is ↦ subst P (sym (eqb-true k moof_type is)) moof
        | inr not_moof ↦ elim (cases_Bool (k == mdat_type)) [
          | inl is ↦ subst P (sym (eqb-true k mdat_type is)) mdat
          | inr not_mdat ↦ loose not_moov not_moof not_mdat
        ]
      ]
    ]

-- boxes of these types complete a part of this kind, after a `moof` or before one
abbrev pub walks : Part → Bool → List ℕ → Bool
walks (parts.Init bytes) false kinds = ends_init kinds
walks (parts.Init bytes) true kinds = false
walks (parts.Unit bytes) false kinds = has_unit kinds
walks (parts.Unit bytes) true kinds = ends_unit kinds

-- the limit of a part by its kind, in bytes
abbrev pub limit_of_part : Part → ℕ
limit_of_part (parts.Init bytes) = init_limit
limit_of_part (parts.Unit bytes) = unit_limit

-- a header without a fault
pub record Good (h : BoxHeader) (before : ℕ) (has_moof : Bool) : Type 0 where
  pub fits : h.head ≤ h.size
  pub mdat : (h.kind == mdat_type && not has_moof) ≡ false
  pub moof : ((h.kind == moof_type || h.kind == moov_type) && has_moof) ≡ false
  pub limit : before + h.size ≤ limit_of h.kind

-- if a chain of tests finds no fault, its first test doesn't hold, and the others find none
if-none : (b : Bool) (fault : BoxFault) (o : Option BoxFault) → (if b then Some fault else o) ≡ None → (b ≡ false) × (o ≡ None)
if-none true fault o is = absurd (cc)
if-none false fault o is = (refl, is)

-- a number that isn't below another is at least as great
ltb-le : (a b : ℕ) → nat_lt a b ≡ false → b ≤ a
ltb-le a b is = elim (cases_lt a b) [ inl lt ↦ let no : true ≡ false = sym (lt-ltb a b lt) ∙ is in absurd (cc) | inr le ↦ le ]

-- a header without a fault passes each test
pub fault_of-good : (h : BoxHeader) (before : ℕ) (has_moof : Bool) → fault_of h before has_moof ≡ None → Good h before has_moof
fault_of-good h before has_moof is =
    let a = if-none _ OpenEnded _ is in
    let b = if-none _ BadSize _ a.1 in
    let c = if-none _ MdatAlone _ b.1 in
    let d = if-none _ MoofWithoutMdat _ c.1 in
    let e = if-none _ TooLarge _ d.1 in
    record { fits = ltb-le h.size h.head b.0; mdat = c.0; moof = d.0; limit = ltb-le (limit_of h.kind) (before + h.size) e.0 }

-- a header that passes each test, and is at least 8 bytes long, has no fault
pub good-fault_of : (h : BoxHeader) (before : ℕ) (has_moof : Bool) → 8 ≤ h.head → Good h before has_moof → fault_of h before has_moof ≡ None
good-fault_of h before has_moof wide good =
    let fits = good.fits in
    let some : (h.size == 0) ≡ false = ne_eqb h.size 0 (λ e. omega arith) in
    rw (some, le-ltb h.size h.head good.fits, good.mdat, good.moof, le-ltb (limit_of h.kind) (before + h.size) good.limit) refl

-- boxes with one in front that ends no part complete a part exactly if they do so after that one
pub walks-joins : (p : Part) (has_moof : Bool) (k : ℕ) (kinds : List ℕ) → is_end k ≡ false → ((k == moof_type || k == moov_type) && has_moof) ≡ false
    → walks p has_moof (k ∷ kinds) ≡ walks p (has_moof || k == moof_type) kinds
walks-joins (parts.Init bytes) false k kinds = by_kind k (λ k. is_end k ≡ false → ((k == moof_type || k == moov_type) && false) ≡ false → walks (parts.Init bytes) false (k ∷ kinds) ≡ walks (parts.Init bytes) (false || k == moof_type) kinds)
    (λ e g. absurd (cc)) (λ e g. refl) (λ e g. absurd (cc)) (λ a b c e g. rw (a, b, c) refl)
walks-joins (parts.Init bytes) true k kinds = λ e g. refl
walks-joins (parts.Unit bytes) false k kinds = by_kind k (λ k. is_end k ≡ false → ((k == moof_type || k == moov_type) && false) ≡ false → walks (parts.Unit bytes) false (k ∷ kinds) ≡ walks (parts.Unit bytes) (false || k == moof_type) kinds)
    (λ e g. absurd (cc)) (λ e g. refl) (λ e g. absurd (cc)) (λ a b c e g. rw (a, b, c) refl)
walks-joins (parts.Unit bytes) true k kinds = by_kind k (λ k. is_end k ≡ false → ((k == moof_type || k == moov_type) && true) ≡ false → walks (parts.Unit bytes) true (k ∷ kinds) ≡ walks (parts.Unit bytes) (true || k == moof_type) kinds)
    (λ e g. absurd (cc)) (λ e g. absurd (cc)) (λ e g. absurd (cc)) (λ a b c e g. rw (a, b, c) refl)

-- a box without a fault that ends a part completes it alone
pub walks-ends : (bytes : List ℕ) (has_moof : Bool) (k : ℕ) → is_end k ≡ true → (k == mdat_type && not has_moof) ≡ false → ((k == moof_type || k == moov_type) && has_moof) ≡ false
    → walks (part_of k bytes) has_moof (k ∷ []) ≡ true
walks-ends bytes false k = by_kind k (λ k. is_end k ≡ true → (k == mdat_type && true) ≡ false → ((k == moof_type || k == moov_type) && false) ≡ false → walks (part_of k bytes) false (k ∷ []) ≡ true)
    (λ e f g. refl) (λ e f g. absurd (cc)) (λ e f g. absurd (cc)) (λ a b c e f g. let no : false ≡ true = rw (a, c) at e in absurd (cc))
walks-ends bytes true k = by_kind k (λ k. is_end k ≡ true → (k == mdat_type && false) ≡ false → ((k == moof_type || k == moov_type) && true) ≡ false → walks (part_of k bytes) true (k ∷ []) ≡ true)
    (λ e f g. absurd (cc)) (λ e f g. absurd (cc)) (λ e f g. refl) (λ a b c e f g. let no : false ≡ true = rw (a, c) at e in absurd (cc))

-- a part with these bytes and the other's kind
abbrev pub part_like : Part → List ℕ → Part
part_like (parts.Init old) bytes = parts.Init bytes
part_like (parts.Unit old) bytes = parts.Unit bytes

-- what holds of the first of the boxes that complete a part
pub record Allowed (p : Part) (has_moof : Bool) (k : ℕ) (kinds : List ℕ) : Type 0 where
  pub mdat : (k == mdat_type && not has_moof) ≡ false
  pub moof : ((k == moof_type || k == moov_type) && has_moof) ≡ false
  pub limit : limit_of_part p ≤ limit_of k
  pub last : is_end k ≡ true → (kinds ≡ []) × ((bytes : List ℕ) → part_of k bytes ≡ part_like p bytes)

-- no type follows the last one
pub only-last : (kinds : List ℕ) → is_last kinds ≡ true → kinds ≡ []
only-last [] is = refl
only-last (k ∷ kinds) is = absurd (cc)

-- a loose box may come first in the rest of a part of each kind
loose-allowed : (p : Part) (has_moof : Bool) (k : ℕ) (kinds : List ℕ) → (k == moov_type) ≡ false → (k == moof_type) ≡ false → (k == mdat_type) ≡ false → limit_of_part p ≤ unit_limit → Allowed p has_moof k kinds
loose-allowed p has_moof k kinds a b c within = record {
  mdat = rw c refl;
  moof = rw (b, a) refl;
  limit = rw a within;
  last = λ e. let no : false ≡ true = rw (a, c) at e in absurd (cc);
}

-- if boxes complete a part, the first of them has no fault, and is the last one if it ends a part
pub walks-allowed : (p : Part) (has_moof : Bool) (k : ℕ) (kinds : List ℕ) → walks p has_moof (k ∷ kinds) ≡ true → Allowed p has_moof k kinds
walks-allowed (parts.Init bytes) false k kinds = by_kind k (λ k. walks (parts.Init bytes) false (k ∷ kinds) ≡ true → Allowed (parts.Init bytes) false k kinds)
    (λ w. record { mdat = refl; moof = refl; limit = omega arith; last = λ e. (only-last kinds w, λ bytes. refl) })
    (λ w. absurd (cc)) (λ w. absurd (cc)) (λ a b c w. loose-allowed (parts.Init bytes) false k kinds a b c (omega arith))
walks-allowed (parts.Init bytes) true k kinds = λ w. absurd (cc)
walks-allowed (parts.Unit bytes) false k kinds = by_kind k (λ k. walks (parts.Unit bytes) false (k ∷ kinds) ≡ true → Allowed (parts.Unit bytes) false k kinds)
    (λ w. absurd (cc))
    (λ w. record { mdat = refl; moof = refl; limit = omega arith; last = λ e. absurd (cc) })
    (λ w. absurd (cc)) (λ a b c w. loose-allowed (parts.Unit bytes) false k kinds a b c (omega arith))
walks-allowed (parts.Unit bytes) true k kinds = by_kind k (λ k. walks (parts.Unit bytes) true (k ∷ kinds) ≡ true → Allowed (parts.Unit bytes) true k kinds)
    (λ w. absurd (cc)) (λ w. absurd (cc))
    (λ w. record { mdat = refl; moof = refl; limit = omega arith; last = λ e. (only-last kinds w, λ bytes. refl) })
    (λ a b c w. loose-allowed (parts.Unit bytes) true k kinds a b c (omega arith))
