-- Whether an event is new doesn't depend on its bytes, nor on the bytes that the state keeps.
use Rattle.std.proofs.Common.{◌≡◌, ◌∙◌, ℕ, List, [], ◌∷◌, ◌++◌, Option, Some, None, true, false, length, drop, refl, sym, ap, subst, inl, inr}
use Rattle.std.specs.Prelude.{slice_get, if◌then◌else◌}
use Rattle.std.specs.Str.{bytes_eq}
use Rattle.std.proofs.lemmas.Bool.{cases_Bool}
use Rattle.hls_media_laws.specs.InitData.{InitData}
use Rattle.hls_media_laws.specs.declared.facts.Facts.{Facts}
use Rattle.hls_media_laws.specs.FactLists.{duplicate_in}
use Rattle.hls_media_laws.proofs.Callers.{no_twin}
use Rattle.hls_core_laws.specs.declared.event.Entry.{Entry}
use Rattle.hls_core_laws.specs.declared.event.Event.{Event}
use Rattle.hls_core_laws.specs.declared.event.Event.TheVariants.{Begin, Accept, Finish, Slide, Trim}
use Rattle.hls_core_laws.specs.declared.event.LoggedEvent.{LoggedEvent}
use Rattle.hls_core_laws.specs.declared.event.LoggedEvent.TheVariants.{Begun, Accepted, Finished, Slid, Trimmed}
use Rattle.hls_core_laws.specs.Channel.{Channel, Lane}
use Rattle.hls_core_laws.specs.State.{State, HeldBytes, channel}
use Rattle.hls_core_laws.specs.IsState.{IsState}
use Rattle.hls_core_laws.specs.Outcome.{Outcome, New, Repeated, Refused, outcome_of, held_bytes, begin, begin_with_init, accept, accept_with_init, accept_with_duplicate, accept_later}
use Rattle.hls_core_laws.specs.Moves.{logged_event, entry_of, IsFitting}
use Rattle.hls_core_laws.proofs.Callers.{MayAdd, may_add, lanes_timed}

-- whether a begin is new doesn't depend on bytes, in a rendition with this init section or none
begin_init : (i : Option InitData) (head other bytes others : List ℕ) (entries : ℕ) → begin_with_init i head bytes entries ≡ New → begin_with_init i other others entries ≡ New
begin_init None head other bytes others entries new = new
begin_init (Some i) head other bytes others entries new =
    elim (cases_Bool (bytes_eq head bytes)) [
      | inl e ↦ let never : Repeated ≡ New = rw e at new in absurd (cc)
      | inr d ↦ let never = rw d at new in absurd (cc)
    ]

-- whether a begin is new doesn't depend on bytes, in a rendition that is there or isn't
begin_lane : (o : Option Lane) (h k : HeldBytes) (bytes others : List ℕ) (entries : ℕ) → begin o h bytes entries ≡ New → begin o k others entries ≡ New
begin_lane None h k bytes others entries new = absurd (cc)
begin_lane (Some l) h k bytes others entries new = begin_init l.init h.head k.head bytes others entries new

-- a unit that is new has no duplicate among the kept ones, and so passes the tests of a later unit
later_new : (duplicate : Option (List ℕ)) (l : Lane) (f : Facts) (bytes : List ℕ) (entries : ℕ) → accept_with_duplicate duplicate l f bytes entries ≡ New → accept_later l f entries ≡ New
later_new None l f bytes entries new = new
later_new (Some duplicate) l f bytes entries new =
    elim (cases_Bool (bytes_eq duplicate bytes)) [
      | inl e ↦ let never : Repeated ≡ New = rw e at new in absurd (cc)
      | inr d ↦ let never = rw d at new in absurd (cc)
    ]

-- a unit that is new is so with other bytes and other kept ones, if none of these is its duplicate
accept_init : (i : Option InitData) (l : Lane) (h k : HeldBytes) (f : Facts) (bytes others : List ℕ) (entries : ℕ) → duplicate_in f.start (drop l.floor l.facts) k.units ≡ None
    → accept_with_init i l h f bytes entries ≡ New → accept_with_init i l k f others entries ≡ New
accept_init None l h k f bytes others entries none new = absurd (cc)
accept_init (Some i) l h k f bytes others entries none new =
    ap (λ (duplicate : Option (List ℕ)). accept_with_duplicate duplicate l f others entries) none
    ∙ later_new (duplicate_in f.start (drop l.floor l.facts) h.units) l f bytes entries new

-- a unit that is new is so with other bytes and other kept ones, if none of these is its duplicate, whether or not the rendition is there
accept_lane : (o : Option Lane) (h k : HeldBytes) (f : Facts) (bytes others : List ℕ) (entries : ℕ) → ((l : Lane) → o ≡ Some l → duplicate_in f.start (drop l.floor l.facts) k.units ≡ None)
    → accept o h f bytes entries ≡ New → accept o k f others entries ≡ New
accept_lane None h k f bytes others entries none new = absurd (cc)
accept_lane (Some l) h k f bytes others entries none new = accept_init l.init l h k f bytes others entries (none l refl) new

-- the state with other bytes
unfoldable pub with_bytes : State → List HeldBytes → State
with_bytes s bytes = record { config = s.config; log = s.log; bytes = bytes }

-- an event that is new is so with other bytes of its own, in the state with other bytes
new_aside : (s : State) (kept : List HeldBytes) (x y : Event) → IsState s → IsFitting s x → logged_event y ≡ logged_event x → outcome_of s x ≡ New → outcome_of (with_bytes s kept) y ≡ New
unfolding with_bytes
new_aside s kept (Begin r init bytes) (Begin q i others) state fits log new =
    let at : q ≡ r = cc in
    rw at (begin_lane (slice_get (channel s).lanes r) (held_bytes s r) (held_bytes (with_bytes s kept) r) bytes others (length s.log) new)
new_aside s kept (Accept r f bytes) (Accept q g others) state fits log new =
    let at : q ≡ r = cc in
    let facts : g ≡ f = cc in
    let may = may_add s (Accept r f bytes) fits new in
    let timed = lanes_timed s state.legal r may.lane may.at in
    rw (at, facts) (accept_lane (slice_get (channel s).lanes r) (held_bytes s r) (held_bytes (with_bytes s kept) r) f bytes others (length s.log)
    (λ l there.
    let is : may.lane ≡ l = cc in
    subst (λ (z : Lane). duplicate_in f.start (drop z.floor z.facts) (held_bytes (with_bytes s kept) r).units ≡ None) is
    (no_twin may.init may.lane.facts may.lane.floor f.start (held_bytes (with_bytes s kept) r).units (timed.were may.init may.begun) timed.in_order may.later)) new)
new_aside s kept (Finish r) (Finish q) state fits log new = let at : q ≡ r = cc in rw at new
new_aside s kept (Slide n) (Slide m) state fits log new = let at : m ≡ n = cc in rw at new
new_aside s kept (Trim r n) (Trim q m) state fits log new =
    let at : q ≡ r = cc in
    let to : m ≡ n = cc in
    rw (at, to) new
new_aside s kept x y state fits log new = absurd (cc)

-- a state with the configuration and the log of another one is that one with its own bytes
with_bytes_is : (s t : State) → t.config ≡ s.config → t.log ≡ s.log → with_bytes s t.bytes ≡ t
unfolding with_bytes
with_bytes_is s t config log = sym (λ k. record { config = config k; log = log k; bytes = t.bytes })

-- an event that is new is so with other bytes, in any state with the same configuration and log
pub new_alike : (s t : State) (x y : Event) → IsState s → t.config ≡ s.config → t.log ≡ s.log → IsFitting s x → logged_event y ≡ logged_event x → outcome_of s x ≡ New → outcome_of t y ≡ New
new_alike s t x y state config log fits same new =
    subst (λ (z : State). outcome_of z y ≡ New) (with_bytes_is s t config log) (new_aside s t.bytes x y state fits same new)

-- two events that are logged as the same event, by the same worker, have the same entry
pub entry_alike : (by other : ℕ) (x y : Event) → other ≡ by → logged_event y ≡ logged_event x → entry_of other y ≡ entry_of by x
entry_alike by other x y same log = λ k. record { by = same k; event = log k }
