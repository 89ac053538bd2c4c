-- What a renewal's events make of one rendition: only its own events change what is kept of it.
use Rattle.std.proofs.Common.{◌≡◌, ◌∙◌, ℕ, zero, suc, ◌+◌, ◌-◌, ◌<◌, ◌==◌, Bool, true, false, Option, Some, None, List, [], ◌∷◌, ◌++◌, length, refl, sym, ap, inl, inr, arith}
use Rattle.std.specs.Prelude.{◌≢◌, ◌⊎◌, slice_get, slice_index_or, slice_set}
use Rattle.std.proofs.lemmas.Bool.{eqb-true, eq-eqb}
use Rattle.hls_check_tables.specs.declared.spot.Spot.{Spot}
use Rattle.hls_media_laws.specs.declared.facts.Facts.{Facts}
use Rattle.hls_record.specs.RecordingData.{RecordingData, unit_at}
use Rattle.hls_core_laws.specs.declared.event.Event.{Event}
use Rattle.hls_core_laws.specs.declared.event.Event.TheVariants.{Begin, Accept, Finish, Slide, Trim}
use Rattle.hls_core_laws.specs.State.{State}
use Rattle.hls_core_laws.proofs.Callers.{at_or}
use Rattle.hls_core.specs.Getters.{recording_of, finished_at}
use Rattle.hls_renewal.specs.Renewals.{end_of, media_from, rendition_from, renditions_from, slide_by, units_from, with_unit}

-- events one after the other, where `after` is the effect of one on what is kept of rendition r
abbrev pub run : {X : Type 0} → (ℕ → Event → X → X) → ℕ → List (ℕ × Event) → X → X
run after r [] x = x
run after r (e ∷ es) x = run after r es (after r e.1 x)

-- an event of another rendition, or of none
abbrev pub IsOther : ℕ → Event → Type 0
IsOther r (Begin q init bytes) = (r == q) ≡ false
IsOther r (Accept q f bytes) = (r == q) ≡ false
IsOther r (Finish q) = (r == q) ≡ false
IsOther r (Slide count) = Unit {0}
IsOther r (Trim q floor) = (r == q) ≡ false

bool_cases : (b : Bool) → (b ≡ true) ⊎ (b ≡ false)
bool_cases true = inl refl
bool_cases false = inr refl

-- a smaller number isn't equal to a greater one, by the test for equality
not_equal : (r q : ℕ) → r < q → (r == q) ≡ false
not_equal r q less = elim (bool_cases (r == q)) [
  | inl same ↦ absurd (omega (arith, less, eqb-true r q same))
  | inr differ ↦ differ
]

-- a greater number isn't equal to a smaller one, by the test for equality
pub not_equal_up : (r q : ℕ) → q < r → (r == q) ≡ false
not_equal_up r q less = elim (bool_cases (r == q)) [
  | inl same ↦ absurd (omega (arith, less, eqb-true r q same))
  | inr differ ↦ differ
]

-- `new` if the condition is true, else `old`
abbrev pub chosen : {X : Type 0} → Bool → X → X → X
chosen true new old = new
chosen false new old = old

-- a list that has element r has `y` there after it is set
set_here : {A : Type 0} (xs : List A) (r : ℕ) (x y : A) → slice_get xs r ≡ Some x → slice_get (slice_set xs r y) r ≡ Some y
set_here [] r x y at = absurd (cc)
set_here (z ∷ xs) zero x y at = refl
set_here (z ∷ xs) (suc r) x y at = set_here xs r x y at

-- setting element q leaves each other element
set_else : {A : Type 0} (xs : List A) (q : ℕ) (y : A) (r : ℕ) → r ≢ q → slice_get (slice_set xs q y) r ≡ slice_get xs r
set_else [] q y r differ = refl
set_else (z ∷ xs) zero y zero differ = absurd (differ refl)
set_else (z ∷ xs) zero y (suc r) differ = refl
set_else (z ∷ xs) (suc q) y zero differ = refl
set_else (z ∷ xs) (suc q) y (suc r) differ = set_else xs q y r (λ h. differ (ap suc h))

-- after f is applied to element q of a list, element r is changed if r is q, and else is as it was
pub set_chosen : {A : Type 0} (xs : List A) (d : A) (r q : ℕ) (x : A) (f : A → A) → slice_get xs r ≡ Some x
    → slice_get (slice_set xs q (f (slice_index_or xs q d))) r ≡ Some (chosen (r == q) (f x) x)
set_chosen {A} xs d r q x f at = elim (bool_cases (r == q)) [
  | inl here ↦
      let same : r ≡ q = eqb-true r q here in
      let there : slice_get xs q ≡ Some x = ap (λ k. slice_get xs k) (sym same) ∙ at in
      let is : slice_index_or xs q d ≡ x = at_or xs q d x there in
      ap (λ k. slice_get (slice_set xs q (f (slice_index_or xs q d))) k) same
      ∙ set_here xs q x (f (slice_index_or xs q d)) there
      ∙ ap (λ (y : A). Some (f y)) is
      ∙ ap (λ (b : Bool). Some (chosen b (f x) x)) (sym here)
  | inr other ↦
      let differ : r ≢ q = λ h. let equal = eq-eqb r q h in absurd (cc) in
      set_else xs q (f (slice_index_or xs q d)) r differ ∙ at ∙ ap (λ (b : Bool). Some (chosen b (f x) x)) (sym other)
]

-- a run of two lists of events is the run of the second from the result of the first
pub run_append : {X : Type 0} (after : ℕ → Event → X → X) (r : ℕ) (xs ys : List (ℕ × Event)) (x : X) → run after r (xs ++ ys) x ≡ run after r ys (run after r xs x)
run_append after r [] ys x = refl
run_append after r (e ∷ xs) ys x = run_append after r xs ys (after r e.1 x)

-- an event of another rendition, or of none, leaves what is kept of rendition r
abbrev pub IgnoresOthers : {X : Type 0} → (ℕ → Event → X → X) → Type 0
IgnoresOthers {X} after = (r : ℕ) (e : Event) (x : X) → IsOther r e → after r e x ≡ x

module _ {X : Type 0} (after : ℕ → Event → X → X) (ignores : IgnoresOthers after) where
  -- the event of a unit of another rendition leaves rendition r if the events after it do
  apart_unit : (r q : ℕ) (f : Option Facts) (unit : Option (List ℕ)) (more : List (ℕ × Event)) (x : X) → (r == q) ≡ false
      → ((y : X) → run after r more y ≡ y) → run after r (with_unit q f unit more) x ≡ x
  apart_unit r q None unit more x differ rest = refl
  apart_unit r q (Some f) None more x differ rest = refl
  apart_unit r q (Some f) (Some unit) more x differ rest = ap (λ y. run after r more y) (ignores r (Accept q f unit) x differ) ∙ rest x

  -- the units of another rendition leave rendition r
  apart_units : (r q : ℕ) (rec : RecordingData) (n count : ℕ) (x : X) → (r == q) ≡ false → run after r (units_from q rec n count) x ≡ x
  apart_units r q rec n zero x differ = refl
  apart_units r q rec n (suc count) x differ =
      apart_unit r q (slice_get rec.facts n) (unit_at rec n) (units_from q rec (suc n) count) x differ (λ y. apart_units r q rec (suc n) count y differ)

  -- the init section and the units of another rendition leave rendition r
  apart_media : (r q n : ℕ) (rec : Option RecordingData) (x : X) → (r == q) ≡ false → run after r (media_from q rec n) x ≡ x
  apart_media r q n None x differ = refl
  apart_media r q n (Some rec) x differ =
      ap (λ y. run after r (units_from q rec n (length rec.facts - n)) y) (ignores r (Begin q rec.init rec.head) x differ)
      ∙ apart_units r q rec n (length rec.facts - n) x differ

  -- the end of another rendition leaves rendition r
  apart_end : (r q : ℕ) (finished : Option Bool) (x : X) → (r == q) ≡ false → run after r (end_of q finished) x ≡ x
  apart_end r q None x differ = refl
  apart_end r q (Some true) x differ = ignores r (Finish q) x differ
  apart_end r q (Some false) x differ = refl

  -- all events of another rendition leave rendition r
  pub apart : (a : State) (r q n : ℕ) (x : X) → (r == q) ≡ false → run after r (rendition_from a q n) x ≡ x
  apart a r q n x differ =
      run_append after r (media_from q (recording_of a q) n) (end_of q (finished_at a q)) x
      ∙ ap (λ y. run after r (end_of q (finished_at a q)) y) (apart_media r q n (recording_of a q) x differ)
      ∙ apart_end r q (finished_at a q) x differ

  -- the events of later renditions leave rendition r
  later_apart : (a : State) (r q : ℕ) (spots : List Spot) (x : X) → r < q → run after r (renditions_from a q spots) x ≡ x
  later_apart a r q [] x less = refl
  later_apart a r q (spot ∷ spots) x less =
      run_append after r (rendition_from a q spot.fragment) (renditions_from a (suc q) spots) x
      ∙ ap (λ y. run after r (renditions_from a (suc q) spots) y) (apart a r q spot.fragment x (not_equal r q less))
      ∙ later_apart a r (suc q) spots x (omega (arith, less))

  -- of the events of the renditions from number q on, only those of rendition r change what is kept of it
  pub own_events : (a : State) (r k q : ℕ) (spots : List Spot) (spot : Spot) (x : X) → r ≡ q + k → slice_get spots k ≡ Some spot
      → run after r (renditions_from a q spots) x ≡ run after r (rendition_from a r spot.fragment) x
  own_events a r k q [] spot x is at = absurd (cc)
  own_events a r zero q (s ∷ spots) spot x is at =
      let same : s ≡ spot = cc in
      let number : q ≡ r = omega (arith, is) in
      run_append after r (rendition_from a q s.fragment) (renditions_from a (suc q) spots) x
      ∙ later_apart a r (suc q) spots (run after r (rendition_from a q s.fragment) x) (omega (arith, is))
      ∙ ap (λ (y : Spot). run after r (rendition_from a q y.fragment) x) same
      ∙ ap (λ j. run after r (rendition_from a j spot.fragment) x) number
  own_events a r (suc k) q (s ∷ spots) spot x is at =
      run_append after r (rendition_from a q s.fragment) (renditions_from a (suc q) spots) x
      ∙ ap (λ y. run after r (renditions_from a (suc q) spots) y) (apart a r q s.fragment x (not_equal_up r q (omega (arith, is))))
      ∙ own_events a r k (suc q) spots spot x (omega (arith, is)) at

  -- a slide leaves rendition r
  slide_apart : (r n : ℕ) (x : X) → run after r (slide_by n) x ≡ x
  slide_apart r zero x = refl
  slide_apart r (suc n) x = ignores r (Slide (suc n)) x tt

  -- of all events of a renewal, only those of rendition r change what is kept of it
  pub renewal_run : (a : State) (r slid : ℕ) (spots : List Spot) (spot : Spot) (x : X) → slice_get spots r ≡ Some spot
      → run after r (renditions_from a 0 spots ++ slide_by slid) x ≡ run after r (rendition_from a r spot.fragment) x
  renewal_run a r slid spots spot x at =
      run_append after r (renditions_from a 0 spots) (slide_by slid) x
      ∙ slide_apart r slid (run after r (renditions_from a 0 spots) x)
      ∙ own_events a r r 0 spots spot x (omega arith) at
