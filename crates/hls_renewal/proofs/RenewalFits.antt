-- The events of a renewal fit.
use Rattle.std.proofs.Common.{◌≡◌, ◌∙◌, ℕ, zero, suc, ◌+◌, ◌-◌, ◌<◌, ◌≤◌, Bool, true, false, Option, Some, None, List, [], ◌∷◌, ◌++◌, length, refl, sym, ap, subst, inl, inr, arith}
use Rattle.std.specs.Prelude.{cond, slice_get, slice_set}
use Rattle.std.proofs.lemmas.Bool.{cases_lt, le-ltb, lt-ltb}
use Rattle.std.proofs.lemmas.Option.{slice_get_within}
use Rattle.hls_check_tables.specs.declared.spot.Spot.{Spot}
use Rattle.hls_media_laws.specs.InitData.{InitData}
use Rattle.hls_media_laws.specs.IsInitOrUnit.{IsInit, IsUnit}
use Rattle.hls_media_laws.specs.declared.facts.Facts.{Facts}
use Rattle.hls_record.specs.RecordingData.{RecordingData, unit_at}
use Rattle.hls_core_laws.specs.declared.event.Event.{Event}
use Rattle.hls_core_laws.specs.declared.event.Event.TheVariants.{Begin, Accept, Finish, Slide, Trim}
use Rattle.hls_core_laws.specs.Config.{ConfigData}
use Rattle.hls_core_laws.specs.Channel.{Channel, Lane, no_lane, fresh_lane, lane, with_lane, with_begin, with_facts, with_finish, with_floor, channel_after, channel_from}
use Rattle.hls_core_laws.specs.State.{State, HeldBytes, no_bytes, channel}
use Rattle.hls_core_laws.specs.IsState.{IsState, MatchesBytes}
use Rattle.hls_core_laws.specs.Outcome.{Outcome, New, Repeated, Refused, outcome_of, held_bytes}
use Rattle.hls_core_laws.specs.Moves.{logged_event, state_with_entry, IsFitting}
use Rattle.hls_core_laws.specs.Line.{line}
use Rattle.hls_core_laws.specs.Runs.{first_state, state_by_outcome, next_state, AreFitting}
use Rattle.hls_core_laws.proofs.Callers.{at_beside, at_or, at_set, length_set, mapped_at, some_at, channel_advanced}
use Rattle.hls_core.specs.Getters.{recording_of, recorded_at, recorded_from, finished_at}
use Rattle.hls_renewal.specs.declared.line_cut.LineCut.{LineCut}
use Rattle.hls_renewal.specs.Renewals.{with_unit, units_from, media_from, end_of, rendition_from, renditions_from, slide_by, renewal_events}
use Rattle.hls_renewal.proofs.Recorded.{of_lane}

-- rendition r of a state has begun with this init section
pub record HasInit (a : State) (r : ℕ) (init : InitData) : Type 0 where
  pub its : Lane
  pub at : slice_get (channel a).lanes r ≡ Some its
  pub begun : its.init ≡ Some init

-- a rendition has only one init section
same_init : (a : State) (r : ℕ) (i j : InitData) → HasInit a r i → HasInit a r j → i ≡ j
same_init a r i j x y =
    let same : x.its ≡ y.its = let p = x.at in let q = y.at in cc in
    let inits : Some i ≡ Some j = sym x.begun ∙ ap (λ (l : Lane). l.init) same ∙ y.begun in
    cc

-- an event with the init section of a state's rendition, or with a unit that fits that section, or an end or a slide; not a trim
abbrev pub IsOf : State → Event → Type 0
IsOf a (Begin r init bytes) = HasInit a r init × IsInit bytes init
IsOf a (Accept r f bytes) = (init : InitData) × HasInit a r init × IsUnit init bytes f
IsOf a (Finish r) = Unit {0}
IsOf a (Slide count) = Unit {0}
IsOf a (Trim r floor) = ⊥

-- each rendition that has begun in a channel has the init section that it has in state a
abbrev pub HasInitsOf : State → Channel → Type 0
HasInitsOf a ch = (r : ℕ) (l : Lane) (init : InitData) → slice_get ch.lanes r ≡ Some l → l.init ≡ Some init → HasInit a r init

-- an event of state a's renditions fits a state whose renditions have a's init sections
fits : (a s : State) (e : Event) → HasInitsOf a (channel s) → IsOf a e → IsFitting s e
fits a s (Begin r init bytes) inits of = of.1
fits a s (Accept r f bytes) inits of = λ l init at begun.
    let same : of.0 ≡ init = same_init a r of.0 init of.1 (inits r l init at begun) in
    subst (λ (i : InitData). IsUnit i bytes f) same of.2
fits a s (Finish r) inits of = tt
fits a s (Slide count) inits of = tt
fits a s (Trim r floor) inits of = tt

-- if setting an element of a list gives the list an element there, the number is within the list
set_within : {A : Type 0} (xs : List A) (q : ℕ) (new : A) (r : ℕ) (x : A) → slice_get (slice_set xs q new) r ≡ Some x → r ≡ q → q < length xs
set_within xs q new r x at same = omega (arith, same, slice_get_within (slice_set xs q new) r x at, length_set xs q new)

-- replacing a lane by one whose init section is that of state a's rendition keeps the init sections those of a
inits_set : (a : State) (ch : Channel) (q : ℕ) (new : Lane) → HasInitsOf a ch → ((init : InitData) → new.init ≡ Some init → HasInit a q init) → HasInitsOf a (with_lane ch q new)
inits_set a ch q new inits mine r l init at begun = elim (at_set ch.lanes q new r l at) [
  | inl here ↦ subst (λ (k : ℕ). HasInit a k init) (sym here.0) (mine init (ap (λ (x : Lane). x.init) here.1 ∙ begun))
  | inr other ↦ inits r l init other.1 begun
]

-- replacing a lane by one with the same init section keeps the init sections those of state a
inits_kept : (a : State) (ch : Channel) (q : ℕ) (new : Lane) → HasInitsOf a ch → new.init ≡ (lane ch q).init → HasInitsOf a (with_lane ch q new)
inits_kept a ch q new inits same r l init at begun = elim (at_set ch.lanes q new r l at) [
  | inl here ↦
      let within = set_within ch.lanes q new r l at here.0 in
      let old = some_at ch.lanes q within in
      let is : lane ch q ≡ old.0 = at_or ch.lanes q no_lane old.0 old.1 in
      let had : (old.0).init ≡ Some init = ap (λ (x : Lane). x.init) (sym is) ∙ sym same ∙ ap (λ (x : Lane). x.init) here.1 ∙ begun in
      subst (λ (k : ℕ). HasInit a k init) (sym here.0) (inits q old.0 init old.1 had)
  | inr other ↦ inits r l init other.1 begun
]

-- an event of state a's renditions keeps the init sections those of a
inits_after : (a : State) (ch : Channel) (e : Event) → HasInitsOf a ch → IsOf a e → HasInitsOf a (channel_after (logged_event e) ch)
inits_after a ch (Begin r init bytes) inits of =
    inits_set a ch r (with_begin init (length bytes) (lane ch r)) inits (λ i begun. let same : init ≡ i = cc in subst (λ (x : InitData). HasInit a r x) same of.0)
inits_after a ch (Accept r f bytes) inits of = inits_kept a ch r (with_facts f (lane ch r)) inits refl
inits_after a ch (Finish r) inits of = inits_kept a ch r (with_finish (lane ch r)) inits refl
inits_after a ch (Slide count) inits of = inits
inits_after a ch (Trim r floor) inits of = inits_kept a ch r (with_floor floor (lane ch r)) inits refl

-- after an event of state a's renditions, whatever its outcome, the init sections are those of a
inits_next : (a s : State) (by : ℕ) (e : Event) (o : Outcome) → HasInitsOf a (channel s) → IsOf a e → HasInitsOf a (channel (state_by_outcome o (state_with_entry s by e) s))
inits_next a s by e New inits of = subst (λ (ch : Channel). HasInitsOf a ch) (sym (channel_advanced s by e)) (inits_after a (channel s) e inits of)
inits_next a s by e Repeated inits of = inits
inits_next a s by e (Refused x) inits of = inits

-- each event is of state a's renditions
abbrev pub AreOf : State → List (ℕ × Event) → Type 0
AreOf a [] = Unit {0}
AreOf a (e ∷ es) = IsOf a e.1 × AreOf a es

-- events of state a's renditions fit the states that they meet, from a state whose renditions have a's init sections
pub all_fit : (a s : State) (es : List (ℕ × Event)) → HasInitsOf a (channel s) → AreOf a es → AreFitting s es
all_fit a s [] inits of = tt
all_fit a s (e ∷ es) inits of =
    (fits a s e.1 inits of.0, all_fit a (next_state s e.0 e.1) es (inits_next a s e.0 e.1 (outcome_of s e.1) inits of.0) of.1)

-- nothing has begun in the opening state
pub no_inits : (a : State) (config : ConfigData) → HasInitsOf a (channel (first_state config))
unfolding channel_from
no_inits a config r l init at begun =
    let fresh = mapped_at fresh_lane config.renditions r l at in
    let none : l.init ≡ None = ap (λ (x : Lane). x.init) (sym fresh.2) in
    absurd (cc)

-- ---- the events of a renewal are of the state

-- two lists of events of state a's renditions are such a list together
of_append : (a : State) (xs ys : List (ℕ × Event)) → AreOf a xs → AreOf a ys → AreOf a (xs ++ ys)
of_append a [] ys of more = more
of_append a (x ∷ xs) ys of more = (of.0, of_append a xs ys of.1 more)

-- each unit that a recording keeps fits its init section
abbrev HasFittingUnits : RecordingData → Type 0
HasFittingUnits rec = (n : ℕ) (f : Facts) (unit : List ℕ) → slice_get rec.facts n ≡ Some f → unit_at rec n ≡ Some unit → IsUnit rec.init unit f

-- the event of a unit is of state a's renditions if the unit fits the init section, and so are those after it
unit_of : (a : State) (r : ℕ) (rec : RecordingData) (n : ℕ) (f : Option Facts) (unit : Option (List ℕ)) (more : List (ℕ × Event)) → HasInit a r rec.init → HasFittingUnits rec
    → slice_get rec.facts n ≡ f → unit_at rec n ≡ unit → AreOf a more → AreOf a (with_unit r f unit more)
unit_of a r rec n None unit more has fit at kept rest = tt
unit_of a r rec n (Some f) None more has fit at kept rest = tt
unit_of a r rec n (Some f) (Some unit) more has fit at kept rest = ((rec.init, has, fit n f unit at kept), rest)

-- the events of a recording's units are of state a's renditions
units_of : (a : State) (r : ℕ) (rec : RecordingData) (n count : ℕ) → HasInit a r rec.init → HasFittingUnits rec → AreOf a (units_from r rec n count)
units_of a r rec n zero has fit = tt
units_of a r rec n (suc count) has fit = unit_of a r rec n (slice_get rec.facts n) (unit_at rec n) (units_from r rec (suc n) count) has fit refl refl (units_of a r rec (suc n) count has fit)

-- a recording of a state has its rendition's init section, the bytes of that section, and units that fit it
record IsHeld (a : State) (r : ℕ) (rec : RecordingData) : Type 0 where
  has : HasInit a r rec.init
  head : IsInit rec.head rec.init
  units : HasFittingUnits rec

-- a unit that a recording has is at or above the floor, and is there among the kept ones
kept_unit : (rec : RecordingData) (n : ℕ) (unit : List ℕ) → unit_at rec n ≡ Some unit → (rec.floor ≤ n) × (slice_get rec.units (n - rec.floor) ≡ Some unit)
kept_unit rec n unit at = elim (cases_lt n rec.floor) [
  | inl below ↦
      let none : unit_at rec n ≡ None = ap (λ (b : Bool). cond b None (slice_get rec.units (n - rec.floor))) (lt-ltb n rec.floor below) in
      absurd (cc)
  | inr above ↦ (above, sym (ap (λ (b : Bool). cond b None (slice_get rec.units (n - rec.floor))) (le-ltb n rec.floor above)) ∙ at)
]

some_is : {A : Type 0} (x y : A) → Some x ≡ Some y → x ≡ y
some_is x y same = cc

-- a recording of a state is made of its rendition's lane and kept bytes
recorded_is : (a : State) (r : ℕ) (rec : RecordingData) (l : Lane) (h : HeldBytes) → slice_get (channel a).lanes r ≡ Some l → held_bytes a r ≡ h → recording_of a r ≡ Some rec
    → recorded_from l.init l h ≡ Some rec
recorded_is a r rec l h at held_is found =
    ap (λ (x : HeldBytes). recorded_from l.init l x) (sym held_is) ∙ ap (λ (o : Option Lane). recorded_at o (held_bytes a r)) (sym at) ∙ found

-- each recording of a state has its rendition's init section and units that fit it
held : (a : State) (r : ℕ) (rec : RecordingData) → IsState a → recording_of a r ≡ Some rec → IsHeld a r rec
held a r rec state found =
    let of = of_lane a r rec found in
    let beside = at_beside (channel a).lanes a.bytes r of.its state.counts_agree of.at in
    let held_is : held_bytes a r ≡ beside.0 = at_or a.bytes r no_bytes beside.0 beside.1 in
    let matches : MatchesBytes of.its beside.0 = state.fits r of.its beside.0 of.at beside.1 in
    let is : recorded_from (of.its).init of.its beside.0 ≡ Some rec = recorded_is a r rec of.its beside.0 of.at held_is found in
    let parts : record { init = rec.init; head = (beside.0).head; facts = (of.its).facts; floor = (of.its).floor; units = (beside.0).units } ≡ rec =
    some_is _ _ (ap (λ (i : Option InitData). recorded_from i of.its beside.0) (sym of.begun) ∙ is) in
    record {
      has = record { its = of.its; at = of.at; begun = of.begun };
      head = subst (λ (h : List ℕ). IsInit h rec.init) (ap (λ (x : RecordingData). x.head) parts) (matches.head rec.init of.begun);
      units = λ n f unit at kept.
          let within = kept_unit rec n unit kept in
          let floor : (of.its).floor ≡ rec.floor = ap (λ (x : RecordingData). x.floor) parts in
          let number : (of.its).floor + (n - rec.floor) ≡ n = omega (arith, within.0, floor) in
          matches.units rec.init (n - rec.floor) f unit of.begun
          (ap (λ (k : ℕ). slice_get (of.its).facts k) number ∙ ap (λ (x : RecordingData). slice_get x.facts n) parts ∙ at)
          (ap (λ (x : RecordingData). slice_get x.units (n - rec.floor)) parts ∙ within.1);
    }

-- the init section and the units of a rendition are events of the state's renditions, whether or not it has begun
media_of : (a : State) (r n : ℕ) (rec : Option RecordingData) → IsState a → recording_of a r ≡ rec → AreOf a (media_from r rec n)
media_of a r n None state found = tt
media_of a r n (Some rec) state found =
    let h = held a r rec state found in
    ((h.has, h.head), units_of a r rec n (length rec.facts - n) h.has h.units)

-- the end of a rendition is an event of the state's renditions, if there is one
end_of_state : (a : State) (r : ℕ) (finished : Option Bool) → AreOf a (end_of r finished)
end_of_state a r None = tt
end_of_state a r (Some true) = (tt, tt)
end_of_state a r (Some false) = tt

-- all events of the renditions from number r on are of the state's renditions
pub renditions_of : (a : State) (r : ℕ) (spots : List Spot) → IsState a → AreOf a (renditions_from a r spots)
renditions_of a r [] state = tt
renditions_of a r (spot ∷ spots) state =
    of_append a (rendition_from a r spot.fragment) (renditions_from a (suc r) spots)
    (of_append a (media_from r (recording_of a r) spot.fragment) (end_of r (finished_at a r))
    (media_of a r spot.fragment (recording_of a r) state refl) (end_of_state a r (finished_at a r)))
    (renditions_of a (suc r) spots state)

-- a slide is an event of the state's renditions
slide_of : (a : State) (n : ℕ) → AreOf a (slide_by n)
slide_of a zero = tt
slide_of a (suc n) = (tt, tt)

-- all events of a renewal are of the state's renditions
pub renewal_of : (a : State) (cut : LineCut) → IsState a → AreOf a (renewal_events a cut)
renewal_of a cut state =
    of_append a (renditions_from a 0 (cut.place).spots) (slide_by ((line a).removed - cut.segments)) (renditions_of a 0 (cut.place).spots state) (slide_of a ((line a).removed - cut.segments))

-- the events of a renewal fit the states that they meet, from an opening state on
pub renewal_fits : (a : State) (cut : LineCut) (events : List (ℕ × Event)) (config : ConfigData) → IsState a → events ≡ renewal_events a cut → AreFitting (first_state config) events
renewal_fits a cut events config state are =
    subst (λ (es : List (ℕ × Event)). AreFitting (first_state config) es) (sym are)
    (all_fit a (first_state config) (renewal_events a cut) (no_inits a config) (renewal_of a cut state))
