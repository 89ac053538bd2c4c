-- A unit that starts where its rendition ended is taken only if the rendition still ends there.
use Rattle.std.proofs.Common.{◌≡◌, ◌≢◌, ◌∙◌, ℕ, zero, suc, ◌+◌, ◌-◌, ◌≤◌, ◌==◌, nat_lt, true, Option, Some, None, List, [], ◌∷◌, ◌++◌, length, drop, replicate, refl, sym, ap, subst, inl, inr, arith}
use Rattle.std.specs.Prelude.{slice_get}
use Rattle.std.specs.Str.{bytes_eq}
use Rattle.std.proofs.lemmas.Bool.{cases_Bool, eq-eqb, ltb-false}
use Rattle.std.proofs.lemmas.List.{append-nil, length-replicate}
use Rattle.std.proofs.lemmas.Option.{slice_get-get_or}
use Rattle.hls_media_laws.specs.FactLists.{no_facts, fact_at, end_tick, last_end, duplicate_in, UnitsAreInOrder}
use Rattle.hls_media_laws.specs.InitData.{InitData}
use Rattle.hls_media_laws.specs.declared.facts.Facts.{Facts}
use Rattle.hls_media_laws.proofs.Callers.{no_twin}
use Rattle.hls_core_laws.specs.Channel.{Lane}
use Rattle.hls_core_laws.specs.Outcome.{New, Repeated, Refused, accept, accept_later, accept_with_duplicate, accept_with_init, held_bytes, outcome_of}
use Rattle.hls_core_laws.specs.State.{State, HeldBytes, channel}
use Rattle.hls_core_laws.specs.declared.event.Event.TheVariants.{Accept}
use Rattle.hls_core_laws.specs.declared.refusal.Refusal.TheVariants.{Overlap}
use Rattle.hls_core_laws.proofs.Callers.{lane_grown, lanes_timed}
use Rattle.hls_mend.specs.Channels.{SubmittedContinues}

-- a unit that is taken starts at or after the end of its rendition
late : (l : Lane) (f : Facts) (entries : ℕ) → accept_later l f entries ≡ New → last_end l.facts ≤ f.start
late l f entries is = elim (cases_Bool (nat_lt f.start (last_end l.facts))) [
  | inl e ↦ (let never : Refused Overlap ≡ New = rw e at is in absurd (cc))
  | inr e ↦ ltb-false f.start (last_end l.facts) e
]

-- the same given a recorded unit with the same start, if there is one
late-beside : (other : Option (List ℕ)) (l : Lane) (f : Facts) (bytes : List ℕ) (entries : ℕ) → accept_with_duplicate other l f bytes entries ≡ New → last_end l.facts ≤ f.start
late-beside None l f bytes entries is = late l f entries is
late-beside (Some other) l f bytes entries is = elim (cases_Bool (bytes_eq other bytes)) [
  | inl e ↦ (let never : Repeated ≡ New = rw e at is in absurd (cc))
  | inr e ↦ (let never : Refused Overlap ≡ New = rw e at is in absurd (cc))
]

-- the same given the init section of the rendition, if it has one
late-begun : (i : Option InitData) (l : Lane) (h : HeldBytes) (f : Facts) (bytes : List ℕ) (entries : ℕ) → accept_with_init i l h f bytes entries ≡ New → last_end l.facts ≤ f.start
late-begun None l h f bytes entries is = absurd (cc)
late-begun (Some init) l h f bytes entries is = late-beside (duplicate_in f.start (drop l.floor l.facts) h.units) l f bytes entries is

-- a unit that a state takes starts at or after the end of its rendition in that state
late-in : (s : State) (r : ℕ) (l : Lane) (f : Facts) (bytes : List ℕ) → slice_get (channel s).lanes r ≡ Some l → outcome_of s (Accept r f bytes) ≡ New → last_end l.facts ≤ f.start
late-in s r l f bytes at new =
    late-begun l.init l (held_bytes s r) f bytes (length s.log) (subst (λ (o : Option Lane). accept o (held_bytes s r) f bytes (length s.log) ≡ New) at new)

-- a unit that is in a list has a duplicate there, whatever the bytes
twin : (fs : List Facts) (k : ℕ) (g : Facts) (units : List (List ℕ)) → slice_get fs k ≡ Some g → length units ≡ length fs → duplicate_in g.start fs units ≢ None
twin [] k g units at len none = absurd (cc)
twin (f ∷ fs) k g [] at len none = absurd (omega (arith, len))
twin (f ∷ fs) zero g (u ∷ us) at len none =
    let same : f ≡ g = cc in
    let here : (f.start == g.start) ≡ true = eq-eqb f.start g.start (ap (λ (x : Facts). x.start) same) in
    let never : Some u ≡ None = rw here at none in
    absurd (cc)
twin (f ∷ fs) (suc k) g (u ∷ us) at len none = elim (cases_Bool (f.start == g.start)) [
  | inl e ↦ (let never : Some u ≡ None = rw e at none in absurd (cc))
  | inr e ↦ twin fs k g us at (omega (arith, len)) (rw e at none)
]

-- an element of a list is at the same index if more elements follow
at-front : (fs gs : List Facts) (k : ℕ) (f : Facts) → slice_get fs k ≡ Some f → slice_get (fs ++ gs) k ≡ Some f
at-front [] gs k f at = absurd (cc)
at-front (x ∷ fs) gs zero f at = at
at-front (x ∷ fs) gs (suc k) f at = at-front fs gs k f at

-- the element after a list is at the index that is the list's length
at-end : (fs : List Facts) (g : Facts) (more : List Facts) → slice_get (fs ++ g ∷ more) (length fs) ≡ Some g
at-end [] g more = refl
at-end (x ∷ fs) g more = at-end fs g more

-- the next unit starts at or after the end of those before it
next-late : (fs : List Facts) (g : Facts) (more : List Facts) → UnitsAreInOrder (fs ++ g ∷ more) → last_end fs ≤ g.start
next-late [] g more in_order = omega arith
next-late (x ∷ fs) g more in_order =
    let f : Facts = fact_at (x ∷ fs) (length fs) in
    let last : slice_get (x ∷ fs) (length fs) ≡ Some f = slice_get-get_or (x ∷ fs) (length fs) no_facts (omega arith) in
    let one : length fs + 1 ≡ suc (length fs) = omega arith in
    let next : slice_get (x ∷ fs ++ g ∷ more) (length fs + 1) ≡ Some g = subst (λ (n : ℕ). slice_get (x ∷ fs ++ g ∷ more) n ≡ Some g) (sym one) (at-end (x ∷ fs) g more) in
    let before : length (x ∷ fs) - 1 ≡ length fs = omega arith in
    let end : last_end (x ∷ fs) ≡ f.start + f.duration = ap (λ (n : ℕ). end_tick (slice_get (x ∷ fs) n)) before ∙ ap end_tick last in
    let order = in_order (length fs) f g (at-front (x ∷ fs) (g ∷ more) (length fs) f last) next in
    omega (arith, end, order)

-- if a unit starts where the first units end, and at or after the end of all of them, then no unit followed the first ones
none-followed : (fs more : List Facts) (start : ℕ) → UnitsAreInOrder (fs ++ more) → ((at : ℕ) (units : List (List ℕ)) → last_end (fs ++ more) ≤ at → duplicate_in at (fs ++ more) units ≡ None)
    → start ≡ last_end fs → last_end (fs ++ more) ≤ start → more ≡ []
none-followed fs [] start in_order unique is low = refl
none-followed fs (g ∷ more) start in_order unique is low =
    let all : List Facts = fs ++ g ∷ more in
    let units : List (List ℕ) = replicate (length all) [] in
    let later : last_end all ≤ g.start = (let next = next-late fs g more in_order in omega (arith, next, is, low)) in
    absurd (twin all (length fs) g units (at-end fs g more) (length-replicate (length all) []) (unique g.start units later))

-- units that start at or after the end of a rendition have no duplicate in it, whether or not it has an init section
unique-in : (l : Lane) (i : Option InitData) → l.init ≡ i → (bare : l.init ≡ None → l.facts ≡ []) → ((init : InitData) → l.init ≡ Some init → (at : ℕ) (units : List (List ℕ)) → last_end l.facts ≤ at → duplicate_in at l.facts units ≡ None)
    → (at : ℕ) (units : List (List ℕ)) → last_end l.facts ≤ at → duplicate_in at l.facts units ≡ None
unique-in l None none bare found at units low = ap (λ (fs : List Facts). duplicate_in at fs units) (bare none)
unique-in l (Some init) some bare found at units low = found init some at units low

-- if a unit starts where its rendition ended in a state, and a later state takes it, no unit was recorded in between
pub submitted-continues : SubmittedContinues
submitted-continues a b r l f bytes later extends at is new =
    let g = lane_grown a b later extends r l at in
    let m : Lane = g.lane in
    let timed = lanes_timed b later.legal r m g.at in
    let low : last_end m.facts ≤ f.start = late-in b r m f bytes g.at new in
    let unique : (at : ℕ) (units : List (List ℕ)) → last_end m.facts ≤ at → duplicate_in at m.facts units ≡ None =
    unique-in m m.init refl timed.bare (λ init some at units low. no_twin init m.facts 0 at units (timed.were init some) timed.in_order low) in
    let more = g.grows.more in
    let none : more ≡ [] =
    none-followed l.facts more f.start (subst UnitsAreInOrder g.grows.facts timed.in_order)
    (subst (λ (fs : List Facts). (at : ℕ) (units : List (List ℕ)) → last_end fs ≤ at → duplicate_in at fs units ≡ None) g.grows.facts unique)
    is (subst (λ (fs : List Facts). last_end fs ≤ f.start) g.grows.facts low) in
    record {
      lane = m;
      at = g.at;
      same = g.grows.facts ∙ ap (λ (fs : List Facts). l.facts ++ fs) none ∙ append-nil l.facts;
    }
