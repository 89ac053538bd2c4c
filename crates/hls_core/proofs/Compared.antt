-- Comparisons of logs and of kept bytes, extended by one element.
use Rattle.std.proofs.Common.{◌≡◌, ℕ, ◌+◌, ◌-◌, ◌<◌, true, false, List, [], ◌∷◌, ◌++◌, Some, length, take, drop, refl, sym, ap, subst, inl, inr, ◌∙◌, arith, length-append}
use Rattle.std.specs.Prelude.{slice_get, nat_lt, ◌==◌}
use Rattle.std.proofs.lemmas.Bool.{le-ltb, eq-eqb, ne_eqb, cases_eq}
use Rattle.std.proofs.lemmas.List.{take-append-drop}
use Rattle.hls_blocks.specs.Numbered.{Numbered, item_at}
use Rattle.hls_core_laws.specs.declared.event.Entry.{Entry}
use Rattle.hls_core_laws.specs.Channel.{Lane, no_lane, lane}
use Rattle.hls_core_laws.specs.State.{State, HeldBytes, channel}
use Rattle.hls_core_laws.specs.Follows.{Extends, AllHaveSameBytes, HaveSameBytes}
use Rattle.hls_core_laws.specs.Workers.{events_by}
use Rattle.hls_core.proofs.Cited.{at_or, events_by-append, take_at}
use Rattle.hls_core.specs.declared.rendition_state.RenditionState.{RenditionState}
use Rattle.hls_core.specs.RenditionStates.{lane_of, held_of, HasRenditionState}

module _ {T : Type 0} where
  -- if a list counts from 0, its item n is the element at index n
  pub item_there : (s : Numbered T) (n : ℕ) (x : T) → s.first ≡ 0 → Some x ≡ item_at s n → slice_get s.items n ≡ Some x
  item_there s n x first is =
      let test : nat_lt n s.first ≡ false = le-ltb n s.first (omega arith) in
      let number : n - s.first ≡ n = omega arith in
      let at : item_at s n ≡ slice_get s.items n = rw (test, number) refl in
      sym (is ∙ at)

-- if two logs have the same first n entries and the same entry n, they have the same first n + 1 entries
pub begins_more : (a b : List Entry) (n : ℕ) (x y : Entry) → slice_get a n ≡ Some x → slice_get b n ≡ Some y → x ≡ y → take n b ≡ take n a → take (n + 1) b ≡ take (n + 1) a
begins_more a b n x y at_a at_b same front =
    let front_a = take_at a n x at_a in
    let front_b = take_at b n y at_b in
    cc

-- an entry of a worker is, on its own, one event of that worker
one_by : (by : ℕ) (e : Entry) → e.by ≡ by → length (events_by by (e ∷ [])) ≡ 1
one_by by e is = let test : (e.by == by) ≡ true = eq-eqb e.by by is in rw test refl

-- an entry of another worker is, on its own, no event of this worker
none_by : (by : ℕ) (e : Entry) → (e.by ≡ by → ⊥) → length (events_by by (e ∷ [])) ≡ 0
none_by by e isnt = let test : (e.by == by) ≡ false = ne_eqb e.by by isnt in rw test refl

-- the first n + 1 entries have as many events of a worker as the first n and entry n together
counted : (by : ℕ) (xs : List Entry) (n : ℕ) (e : Entry) → slice_get xs n ≡ Some e → length (events_by by (take (n + 1) xs)) ≡ length (events_by by (take n xs)) + length (events_by by (e ∷ []))
counted by xs n e at =
    ap (λ (ys : List Entry). length (events_by by ys)) (take_at xs n e at)
    ∙ ap length (events_by-append by (take n xs) (e ∷ []))
    ∙ length-append (events_by by (take n xs)) (events_by by (e ∷ []))

-- if entry n is a worker's, the first n + 1 entries have one event more of that worker than the first n
pub counted_own : (by : ℕ) (xs : List Entry) (n : ℕ) (e : Entry) → slice_get xs n ≡ Some e → e.by ≡ by → length (events_by by (take (n + 1) xs)) ≡ length (events_by by (take n xs)) + 1
counted_own by xs n e at is = counted by xs n e at ∙ ap (λ k. length (events_by by (take n xs)) + k) (one_by by e is)

-- if entry n is another worker's, the first n + 1 entries have as many events of this worker as the first n
pub counted_other : (by : ℕ) (xs : List Entry) (n : ℕ) (e : Entry) → slice_get xs n ≡ Some e → (e.by ≡ by → ⊥) → length (events_by by (take (n + 1) xs)) ≡ length (events_by by (take n xs))
counted_other by xs n e at isnt = let none = none_by by e isnt in omega (arith, counted by xs n e at, none)

-- if two rendition states keep the same bytes, so do the two states of the channel in their rendition r
pub sides_same : (a b : State) (r : ℕ) (x y : RenditionState) → HasRenditionState a r x → HasRenditionState b r y → HaveSameBytes (lane_of x) (lane_of y) (held_of x) (held_of y) → (ha hb : HeldBytes) → slice_get a.bytes r ≡ Some ha → slice_get b.bytes r ≡ Some hb → HaveSameBytes (lane (channel a) r) (lane (channel b) r) ha hb
sides_same a b r x y at_a at_b same ha hb held_a held_b =
    let a_is : held_of x ≡ ha = let was = at_a.held in cc in
    let b_is : held_of y ≡ hb = let was = at_b.held in cc in
    let lane_a : lane (channel a) r ≡ lane_of x = at_or (channel a).lanes r no_lane (lane_of x) at_a.lane in
    let lane_b : lane (channel b) r ≡ lane_of y = at_or (channel b).lanes r no_lane (lane_of y) at_b.lane in
    subst (λ (l : Lane). HaveSameBytes l (lane (channel b) r) ha hb) (sym lane_a)
    (subst (λ (l : Lane). HaveSameBytes (lane_of x) l ha hb) (sym lane_b)
    (subst (λ (h : HeldBytes). HaveSameBytes (lane_of x) (lane_of y) h hb) a_is
    (subst (λ (h : HeldBytes). HaveSameBytes (lane_of x) (lane_of y) (held_of x) h) b_is same)))

-- if two states of the channel keep the same bytes, so do the states of their rendition r
pub same_at : (a b : State) (r : ℕ) (x y : RenditionState) → HasRenditionState a r x → HasRenditionState b r y → AllHaveSameBytes a b → HaveSameBytes (lane_of x) (lane_of y) (held_of x) (held_of y)
same_at a b r x y at_a at_b same =
    let lane_a : lane (channel a) r ≡ lane_of x = at_or (channel a).lanes r no_lane (lane_of x) at_a.lane in
    let lane_b : lane (channel b) r ≡ lane_of y = at_or (channel b).lanes r no_lane (lane_of y) at_b.lane in
    subst (λ (l : Lane). HaveSameBytes l (lane_of y) (held_of x) (held_of y)) lane_a
    (subst (λ (l : Lane). HaveSameBytes (lane (channel a) r) l (held_of x) (held_of y)) lane_b
    (same r (held_of x) (held_of y) at_a.held at_b.held))

-- if two states keep the same bytes in each rendition below n and in rendition n, they do in each below n + 1
pub same_more : (a b : State) (n : ℕ) (x y : RenditionState) → HasRenditionState a n x → HasRenditionState b n y → HaveSameBytes (lane_of x) (lane_of y) (held_of x) (held_of y)
    → ((r : ℕ) (ha hb : HeldBytes) → r < n → slice_get a.bytes r ≡ Some ha → slice_get b.bytes r ≡ Some hb → HaveSameBytes (lane (channel a) r) (lane (channel b) r) ha hb)
    → (r : ℕ) (ha hb : HeldBytes) → r < n + 1 → slice_get a.bytes r ≡ Some ha → slice_get b.bytes r ≡ Some hb → HaveSameBytes (lane (channel a) r) (lane (channel b) r) ha hb
same_more a b n x y at_a at_b same before r ha hb below held_a held_b = elim (cases_eq r n) [
  | inl here ↦
      let held_an : slice_get a.bytes n ≡ Some ha = subst (λ (k : ℕ). slice_get a.bytes k ≡ Some ha) here held_a in
      let held_bn : slice_get b.bytes n ≡ Some hb = subst (λ (k : ℕ). slice_get b.bytes k ≡ Some hb) here held_b in
      subst (λ (k : ℕ). HaveSameBytes (lane (channel a) k) (lane (channel b) k) ha hb) (sym here)
      (sides_same a b n x y at_a at_b same ha hb held_an held_bn)
  | inr other ↦ before r ha hb (omega arith) held_a held_b
]

-- b continues a if configurations are equal, the log of a is a prefix of that of b, and what both keep has the same bytes
pub continues_when : (a b : State) → a.config ≡ b.config → take (length a.log) b.log ≡ a.log → AllHaveSameBytes a b → Extends a b
continues_when a b config front same =
    let whole : b.log ≡ a.log ++ drop (length a.log) b.log =
    sym (take-append-drop (length a.log) b.log) ∙ ap (λ (xs : List Entry). xs ++ drop (length a.log) b.log) front in
    record { config = sym config; rest = drop (length a.log) b.log; log = whole; same = same }
