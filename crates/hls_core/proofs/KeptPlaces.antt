-- The results of a search among the places of a state.
use Rattle.std.proofs.Common.{◌≡◌, ℕ, zero, suc, ◌+◌, ◌-◌, ◌<◌, ◌≤◌, Bool, true, false, List, [], ◌∷◌, length, map, get_or, None, Some, arith, refl, sym, ap, inl, inr, ◌∙◌}
use Rattle.std.specs.Prelude.{slice_get, slice_index, not, nat_le}
use Rattle.std.proofs.lemmas.Bool.{cases_lt, cond-true, cond-false, leb-true, leb-false, le-leb}
use Rattle.hls_places_laws.specs.declared.place.Place.{Place}
use Rattle.hls_places_laws.specs.Order.{time_of}
use Rattle.hls_places_laws.specs.Programmes.{is_kept, filter_kept}
use Rattle.hls_core_laws.specs.Channel.{Lane}
use Rattle.hls_core_laws.specs.State.{State, channel}
use Rattle.hls_core_laws.specs.IsState.{IsState}
use Rattle.hls_core_laws.specs.Places.{places, floors, floor_of, kept_places}
use Rattle.std.proofs.lemmas.Option.{slice_get_within}
use Rattle.hls_core.proofs.Cited.{kept-goes-on, times-rise}
use Rattle.hls_core.specs.declared.place_search.PlacePredicate.{PlacePredicate}
use Rattle.hls_core.specs.declared.place_search.PlacePredicate.TheVariants.{AtOrBefore, Trimmed}
use Rattle.hls_core.specs.KeptPlaces.{IsLastKeptBy, NoKeptBy}
use Rattle.hls_core.specs.Predicates.{satisfies, SatisfyBelow, NoneSatisfiesFrom, IsFront}

-- `Some` is injective
some-is : {A : Type 0} (x y : A) → Some x ≡ Some y → x ≡ y
some-is x y is = cc

-- the floor of a rendition without a lane is read as 0
none-floor : (lanes : List Lane) (r : ℕ) → slice_get lanes r ≡ None → get_or (map floor_of lanes) r 0 ≡ 0
none-floor [] r is = refl
none-floor (l ∷ lanes) zero is = absurd (cc)
none-floor (l ∷ lanes) (suc r) is = none-floor lanes r is

-- a state's floor of a rendition that it doesn't have is read as 0
pub floor-none : (s : State) (r : ℕ) → slice_get (channel s).lanes r ≡ None → 0 ≡ slice_index (floors s) r
floor-none s r is = sym (none-floor (channel s).lanes r is)

-- what holds below a number and at that number holds below the next number
pub one-more : (P : ℕ → Type 0) (r : ℕ) → ((k : ℕ) → k < r → P k) → P r → (k : ℕ) → k < r + 1 → P k
one-more P r before here k less =
    elim (cases_lt k r) [
      | inl earlier ↦ before k earlier
      | inr later ↦
          let same : k ≡ r = omega arith in
          rw same here
    ]

-- a condition is false if its negation is true
is-not : (b : Bool) → not b ≡ true → b ≡ false
is-not true is = sym is
is-not false is = refl

-- a condition is true if its negation is false
is-so : (b : Bool) → not b ≡ false → b ≡ true
is-so true is = refl
is-so false is = sym is

-- along the places of a state, times never decrease
times-keep : (s : State) → IsState s → (i j : ℕ) (p q : Place) → i ≤ j → slice_get (places s) i ≡ Some p → slice_get (places s) j ≡ Some q → time_of p ≤ time_of q
times-keep s state i j p q before at also =
    elim (cases_lt i j) [
      | inl less ↦ omega (arith, times-rise s state i j p q less at also)
      | inr more ↦
          let number : i ≡ j = omega arith in
          let same : p ≡ q = some-is p q (sym at ∙ (ap (slice_get (places s)) number ∙ also)) in
          omega (arith, ap time_of same)
    ]

-- if a place of a state satisfies the predicate, each place before it does
met-before : (s : State) → IsState s → (predicate : PlacePredicate) (i j : ℕ) (p q : Place) → i ≤ j → slice_get (places s) i ≡ Some p → slice_get (places s) j ≡ Some q →
    satisfies s predicate q ≡ true → satisfies s predicate p ≡ true
met-before s state (AtOrBefore time) i j p q before at also is =
    le-leb (time_of p) time (omega (arith, times-keep s state i j p q before at also, leb-true (time_of q) time is))
met-before s state Trimmed i j p q before at also is = elim (is_kept (floors s) p) as (λ b. is_kept (floors s) p ≡ b → not b ≡ true) [
  | true ↦ λ kept.
      let never : true ≡ false = sym (kept-goes-on s state i j p q before at also kept) ∙ is-not (is_kept (floors s) q) is in
      absurd (cc)
  | false ↦ λ kept. refl
] refl

-- if a place of a state satisfies the predicate, each place up to it, inclusive, does
pub met-more : (s : State) → IsState s → (predicate : PlacePredicate) (middle : ℕ) (here : Place) → slice_get (places s) middle ≡ Some here → satisfies s predicate here ≡ true →
    SatisfyBelow s predicate (middle + 1)
met-more s state predicate middle here there is k p less at = met-before s state predicate k middle p here (omega (arith, less)) at there is

-- if a place of a state doesn't satisfy the predicate, no place from it on does
pub unmet-more : (s : State) → IsState s → (predicate : PlacePredicate) (middle : ℕ) (here : Place) → slice_get (places s) middle ≡ Some here → satisfies s predicate here ≡ false →
    NoneSatisfiesFrom s predicate middle
unmet-more s state predicate middle here there isnt k p more at = elim (satisfies s predicate p) as (λ b. satisfies s predicate p ≡ b → b ≡ false) [
  | true ↦ λ is.
      let never : true ≡ false = sym (met-before s state predicate middle k here p more there at is) ∙ isnt in
      absurd (cc)
  | false ↦ λ is. refl
] refl

-- after the last place no place satisfies the predicate
pub none-past : (s : State) (predicate : PlacePredicate) (n : ℕ) → length (places s) ≤ n → NoneSatisfiesFrom s predicate n
none-past s predicate n past k p more at = absurd (omega (arith, slice_get_within (places s) k p at))

-- if exactly the first n places aren't kept, the kept places are as many as the others
behind : (above : List ℕ) (ps : List Place) (n : ℕ) → ((k : ℕ) (p : Place) → k < n → slice_get ps k ≡ Some p → not (is_kept above p) ≡ true) →
    ((k : ℕ) (p : Place) → n ≤ k → slice_get ps k ≡ Some p → not (is_kept above p) ≡ false) → length (filter_kept above ps) ≡ length ps - n
behind above [] n trimmed rest = omega arith
behind above (p ∷ ps) zero trimmed rest =
    let is : is_kept above p ≡ true = is-so (is_kept above p) (rest 0 p (omega arith) refl) in
    let more : filter_kept above (p ∷ ps) ≡ p ∷ filter_kept above ps = cond-true (is_kept above p) (p ∷ filter_kept above ps) (filter_kept above ps) is in
    let others = behind above ps 0 (λ k q less at. absurd (omega (arith, less))) (λ k q past at. rest (suc k) q (omega arith) at) in
    omega (arith, ap length more, others)
behind above (p ∷ ps) (suc n) trimmed rest =
    let isnt : is_kept above p ≡ false = is-not (is_kept above p) (trimmed 0 p (omega arith) refl) in
    let same : filter_kept above (p ∷ ps) ≡ filter_kept above ps = cond-false (is_kept above p) (p ∷ filter_kept above ps) (filter_kept above ps) isnt in
    let others = behind above ps n (λ k q less at. trimmed (suc k) q (omega (arith, less)) at) (λ k q past at. rest (suc k) q (omega (arith, past)) at) in
    omega (arith, ap length same, others)

-- if exactly the first `count` places are trimmed, the kept places are as many as the others
pub kept-counted : (s : State) (count : ℕ) → IsFront s Trimmed count → length (kept_places s) ≡ length (places s) - count
kept-counted s count front = behind (floors s) (places s) count front.met front.unmet

-- a place that isn't at or before a time is after it
late : (time : ℕ) (p : Place) → nat_le (time_of p) time ≡ false → time < time_of p
late time p isnt = leb-false (time_of p) time isnt

-- if no place is at or before a time, no kept place is
pub none-by : (s : State) (time : ℕ) → IsFront s (AtOrBefore time) 0 → NoKeptBy s time
none-by s time front k p at is = late time p (front.unmet k p (omega arith) at)

-- if the last place at or before a time isn't kept, no kept place is at or before that time
pub none-kept-by : (s : State) → IsState s → (time count : ℕ) (p : Place) → IsFront s (AtOrBefore time) count → slice_get (places s) (count - 1) ≡ Some p →
    is_kept (floors s) p ≡ false → NoKeptBy s time
none-kept-by s state time count p front there isnt k q at is =
    elim (cases_lt k count) [
      | inl less ↦
          let never : true ≡ false = sym (kept-goes-on s state k (count - 1) q p (omega (arith, less)) at there is) ∙ isnt in
          absurd (cc)
      | inr more ↦ late time q (front.unmet k q more at)
    ]

-- if the last place at or before a time is kept, it is the last kept place by that time
pub last-by : (s : State) (time count : ℕ) (p : Place) → IsFront s (AtOrBefore time) count → 0 < count → slice_get (places s) (count - 1) ≡ Some p →
    is_kept (floors s) p ≡ true → IsLastKeptBy s time (count - 1)
last-by s time count p front some there is =
    let number : count - 1 + 1 ≡ count = omega arith in
    record {
      place = p;
      there = there;
      kept = is;
      by = rw number (record {
        few = front.few;
        early = λ k q less at. leb-true (time_of q) time (front.met k q less at);
        late = λ k q more at. late time q (front.unmet k q more at);
      });
    }
