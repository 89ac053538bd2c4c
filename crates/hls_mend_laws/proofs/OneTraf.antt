-- The facts of a unit with one `traf`: they exist exactly if no cause for which it is rejected applies.
use Rattle.std.proofs.Common.{◌≡◌, ℕ, pos, ◌==◌, ◌||◌, nat_lt, Bool, true, false, is_none, List, [], ◌∷◌, length, filter, refl, ap, subst, inl, inr}
use Rattle.std.specs.Prelude.{Ok, Err, Some, slice_index_or}
use Rattle.std.specs.List.{list_any}
use Rattle.std.proofs.lemmas.Bool.{cases_Bool, or_parts, or_from}
use Rattle.hls_media_laws.specs.Causes.{Cause, first_fault_or}
use Rattle.hls_media_laws.specs.Trafs.{Traf}
use Rattle.hls_media_laws.specs.TrafFacts.{UnitContext, is_unknown, has_base_offset, is_timing, lacks_defaults, extents_of_unit, lies_outside}
use Rattle.hls_media_laws.specs.declared.facts.Facts.{Facts}
use Rattle.hls_media_laws.specs.UnitFacts.{timing_traf, no_traf, is_empty, is_too_large, causes, facts_if_good, facts_with}

-- no cause of rejection applies to a unit with this one `traf`
pub record IsGoodTraf (g : UnitContext) (t : Traf) : Type 0 where
  pub known : is_unknown g t ≡ false
  pub no_base : has_base_offset t ≡ false
  pub timing : is_timing g t ≡ true
  pub timed : is_none t.time ≡ false
  pub valued : lacks_defaults g (t ∷ []) t ≡ false
  pub lasting : is_empty g t ≡ false
  pub early : is_too_large g t ≡ false
  pub inside : list_any (lies_outside g) (extents_of_unit g (pos 0) (t ∷ [])) ≡ false

-- a unit's only `traf`, if it is of the timing track, is the timing track's first
timing-alone : (g : UnitContext) (t : Traf) → is_timing g t ≡ true → timing_traf g (t ∷ []) ≡ t
timing-alone g t timing =
    let alone : filter (is_timing g) (t ∷ []) ≡ t ∷ [] = rw timing refl in
    ap (λ (ts : List Traf). slice_index_or ts 0 no_traf) alone

-- if no cause of rejection applies, a unit with one `traf` has the facts that are read of it
pub good-facts : (g : UnitContext) (len : ℕ) (t : Traf) → IsGoodTraf g t → facts_with g len (Some (t ∷ [])) ≡ Ok (facts_if_good g len t)
good-facts g len t good =
    rw (timing-alone g t good.timing, good.known, good.no_base, good.timing, good.timed, good.valued, good.lasting, good.early, good.inside) refl

-- ---- the other way round

-- if the result is a value and not a fault, no cause applies, and the value is the given one
no-fault : {A : Type 0} (cs : List Cause) (x y : A) → first_fault_or cs x ≡ Ok y → (list_any (λ (c : Cause). c.present) cs ≡ false) × (x ≡ y)
no-fault [] x y is = (refl, cc)
no-fault (c ∷ cs) x y is =
    elim (cases_Bool c.present) [
      | inl applies ↦ (let fault : Err c.fault ≡ Ok y = rw applies at is in absurd (cc))
      | inr not-this ↦
          let others : first_fault_or cs x ≡ Ok y = rw not-this at is in
          let rest = no-fault cs x y others in
          (or_from c.present (list_any (λ (c : Cause). c.present) cs) not-this rest.0, rest.1)
    ]

-- if a unit with one `traf` has one of the timing track, it is that `traf`
is-timing-track : (g : UnitContext) (t : Traf) → (length (filter (is_timing g) (t ∷ [])) == 0) ≡ false → is_timing g t ≡ true
is-timing-track g t some =
    elim (cases_Bool (is_timing g t)) [
      | inl timing ↦ timing
      | inr other ↦ (let none : true ≡ false = rw other at some in absurd (cc))
    ]

alone : (b : Bool) → (b || false) ≡ false → b ≡ false
alone b is = (or_parts b false is).0

-- a unit with one `traf` has these facts: no cause of rejection applies, and they are those that are read of the `traf`
pub record HasFacts (g : UnitContext) (len : ℕ) (t : Traf) (f : Facts) : Type 0 where
  pub good : IsGoodTraf g t
  pub facts_are : facts_if_good g len t ≡ f

-- a unit with one `traf` has facts only if no cause of rejection applies, and then those that are read of it
pub has-facts : (g : UnitContext) (len : ℕ) (t : Traf) (f : Facts) → facts_with g len (Some (t ∷ [])) ≡ Ok f → HasFacts g len t f
has-facts g len t f is =
    let first = timing_traf g (t ∷ []) in
    let ok = no-fault (causes g (Some (t ∷ [])) (t ∷ []) first) (facts_if_good g len first) f is in
    let boxes = or_parts false _ ok.0 in
    let tracks = or_parts _ _ boxes.1 in
    let bases = or_parts _ _ tracks.1 in
    let one = or_parts _ _ bases.1 in
    let two = or_parts (nat_lt 1 (length (filter (is_timing g) (t ∷ [])))) _ one.1 in
    let time = or_parts _ _ two.1 in
    let defaults = or_parts _ _ time.1 in
    let empty = or_parts _ _ defaults.1 in
    let large = or_parts _ _ empty.1 in
    let timing : is_timing g t ≡ true = is-timing-track g t one.0 in
    let it : first ≡ t = timing-alone g t timing in
    record {
      good = record {
        known = alone (is_unknown g t) tracks.0;
        no_base = alone (has_base_offset t) bases.0;
        timing = timing;
        timed = subst (λ (u : Traf). is_none u.time ≡ false) it time.0;
        valued = subst (λ (u : Traf). lacks_defaults g (t ∷ []) u ≡ false) it defaults.0;
        lasting = subst (λ (u : Traf). is_empty g u ≡ false) it empty.0;
        early = subst (λ (u : Traf). is_too_large g u ≡ false) it large.0;
        inside = alone (list_any (lies_outside g) (extents_of_unit g (pos 0) (t ∷ []))) large.1;
      };
      facts_are = subst (λ (u : Traf). facts_if_good g len u ≡ f) it ok.1;
    }
