-- A renewed channel keeps the same bytes under the number of each unit.
use Rattle.std.proofs.Common.{◌≡◌, ◌∙◌, ℕ, zero, suc, ◌+◌, ◌-◌, ◌<◌, ◌≤◌, ◌==◌, Bool, true, false, Option, Some, None, List, [], ◌∷◌, ◌++◌, length, drop, get_or, refl, sym, ap, subst, arith, append_assoc, append-nil}
use Rattle.std.specs.Prelude.{cond, slice_get}
use Rattle.std.proofs.lemmas.Bool.{eq-eqb, le-ltb}
use Rattle.std.proofs.lemmas.List.{drop_all, drop_more}
use Rattle.std.proofs.lemmas.Option.{get_or_from_slice_get, slice_get_within}
use Rattle.hls_check_tables.specs.Tables.{spot_in}
use Rattle.hls_media_laws.specs.declared.facts.Facts.{Facts}
use Rattle.hls_record.specs.RecordingData.{RecordingData, unit_at}
use Rattle.hls_core_laws.specs.declared.event.Event.{Event}
use Rattle.hls_core_laws.specs.declared.event.Event.TheVariants.{Begin, Accept, Finish, Slide, Trim}
use Rattle.hls_core_laws.specs.Channel.{Lane}
use Rattle.hls_core_laws.specs.State.{State, HeldBytes, no_bytes, channel}
use Rattle.hls_core_laws.specs.IsState.{IsState}
use Rattle.hls_core_laws.specs.Line.{line}
use Rattle.hls_core_laws.specs.Outcome.{Outcome, New, held_bytes, outcome_of}
use Rattle.hls_core_laws.specs.Moves.{bytes_after, push_unit_bytes, state_with_entry}
use Rattle.hls_core_laws.specs.Runs.{next_state, no_bytes_of, replayed_state, state_by_outcome}
use Rattle.hls_core_laws.proofs.Callers.{at_drop, at_map, at_or, lanes_count, some_at}
use Rattle.hls_core.specs.Getters.{finished_at, recording_of}
use Rattle.hls_playlists_laws.specs.Handovers.{unit_at as cut_unit}
use Rattle.hls_playlists_laws.specs.PathLaws.{SameUnitsFrom}
use Rattle.hls_renewal.specs.declared.line_cut.LineCut.{LineCut}
use Rattle.hls_renewal.specs.Laws.{RenewedUnitsHaveSameBytes}
use Rattle.hls_renewal.specs.Renewals.{AreNew, Renews, end_of, media_from, rendition_from, renewal_events, renewal_start, units_from, with_unit}
use Rattle.hls_renewal.proofs.EventRuns.{IgnoresOthers, chosen, renewal_run, run, run_append, set_chosen}
use Rattle.hls_renewal.proofs.LineCuts.{is_line_cut}
use Rattle.hls_renewal.proofs.RenewalFits.{AreOf, IsOf, renewal_of}
use Rattle.hls_renewal.proofs.RenewedLanes.{AreKeptFrom, IsCutHere, kept_units, renewed_lane_at, some_same, spot_of_cut, whole_of}

-- ---- the bytes that events keep of rendition r

-- the bytes that a rendition keeps after it begins: those of its init section, and of no unit
abbrev begun_with : List ℕ → HeldBytes → HeldBytes
begun_with head h = record { head = head; units = [] }

-- the bytes that are kept of rendition r after an event; a trim changes nothing here, for a renewal doesn't trim
abbrev held_after : ℕ → Event → HeldBytes → HeldBytes
held_after r (Begin q init bytes) h = chosen (r == q) (begun_with bytes h) h
held_after r (Accept q f bytes) h = chosen (r == q) (push_unit_bytes h bytes) h
held_after r (Finish q) h = h
held_after r (Slide count) h = h
held_after r (Trim q floor) h = h

-- events of other renditions leave the bytes of rendition r
ignores : IgnoresOthers held_after
ignores r (Begin q init bytes) h differ = ap (λ (b : Bool). chosen b (begun_with bytes h) h) differ
ignores r (Accept q f bytes) h differ = ap (λ (b : Bool). chosen b (push_unit_bytes h bytes) h) differ
ignores r (Finish q) h differ = refl
ignores r (Slide count) h differ = refl
ignores r (Trim q floor) h differ = refl

-- after an event of a renewal, the bytes of rendition r are those that `held_after` says
held_by_one : (a s : State) (e : Event) (r : ℕ) (h : HeldBytes) → IsOf a e → slice_get s.bytes r ≡ Some h → slice_get (bytes_after s e) r ≡ Some (held_after r e h)
held_by_one a s (Begin q init bytes) r h of at = set_chosen s.bytes no_bytes r q h (begun_with bytes) at
held_by_one a s (Accept q f bytes) r h of at = set_chosen s.bytes no_bytes r q h (λ x. push_unit_bytes x bytes) at
held_by_one a s (Finish q) r h of at = at
held_by_one a s (Slide count) r h of at = at
held_by_one a s (Trim q floor) r h of at = absurd of

-- after a list of new events of a renewal, the bytes of rendition r are those that a run of `held_after` says
held_by_all : (a s : State) (es : List (ℕ × Event)) (r : ℕ) (h : HeldBytes) → AreNew s es → AreOf a es → slice_get s.bytes r ≡ Some h
    → slice_get (replayed_state s es).bytes r ≡ Some (run held_after r es h)
held_by_all a s [] r h new of at = at
held_by_all a s (e ∷ es) r h new of at =
    let is : next_state s e.0 e.1 ≡ state_with_entry s e.0 e.1 = ap (λ (o : Outcome). state_by_outcome o (state_with_entry s e.0 e.1) s) new.0 in
    let there : slice_get (next_state s e.0 e.1).bytes r ≡ Some (held_after r e.1 h) =
    ap (λ (x : State). slice_get x.bytes r) is ∙ held_by_one a s e.1 r h of.0 at in
    held_by_all a (next_state s e.0 e.1) es r (held_after r e.1 h) new.1 of.1 there

-- ---- its own events

-- the kept bytes with more units after them
abbrev with_units : List (List ℕ) → HeldBytes → HeldBytes
with_units us h = record { head = h.head; units = h.units ++ us }

-- no more units leave the kept bytes as they are
none_more : (h : HeldBytes) → h ≡ with_units [] h
none_more h = let same = sym (append-nil h.units) in λ k. record { head = h.head; units = same k }

-- one unit and then others are the same as all of them at once
one_more : (unit : List ℕ) (us : List (List ℕ)) (h : HeldBytes) → with_units us (push_unit_bytes h unit) ≡ with_units (unit ∷ us) h
one_more unit us h = let same = append_assoc h.units (unit ∷ []) us in λ k. record { head = h.head; units = same k }

-- a unit at or above the floor is among the kept units, counted from the floor
kept_at : (rec : RecordingData) (n : ℕ) (unit : List ℕ) → rec.floor ≤ n → unit_at rec n ≡ Some unit → slice_get rec.units (n - rec.floor) ≡ Some unit
kept_at rec n unit above at = sym (ap (λ (b : Bool). cond b None (slice_get rec.units (n - rec.floor))) (le-ltb n rec.floor above)) ∙ at

-- the events of a recording's units from number n on add exactly these units to the kept bytes
own_units : (r : ℕ) (rec : RecordingData) (n count : ℕ) (h : HeldBytes) → (r == r) ≡ true → AreKeptFrom rec n → rec.floor ≤ n
    → rec.floor + length rec.units ≡ length rec.facts → n + count ≡ length rec.facts
    → run held_after r (units_from r rec n count) h ≡ with_units (drop (n - rec.floor) rec.units) h
own_units r rec n zero h same kept above whole all =
    none_more h ∙ ap (λ us. with_units us h) (sym (drop_all (n - rec.floor) rec.units (omega (arith, whole, all, above))))
own_units r rec n (suc count) h same kept above whole all =
    let within : n < length rec.facts = omega (arith, all) in
    let f = some_at rec.facts n within in
    let unit = kept n (omega arith) within in
    let d = n - rec.floor in
    let here : slice_get rec.units d ≡ Some unit.0 = kept_at rec n unit.0 above unit.1 in
    let inside : d < length rec.units = omega (arith, whole, within, above) in
    let next : d + 1 ≡ suc n - rec.floor = omega (arith, above) in
    let split : drop d rec.units ≡ unit.0 ∷ drop (suc n - rec.floor) rec.units =
    drop_more rec.units d unit.0 inside ∙ ap (λ x. x ∷ drop (d + 1) rec.units) (get_or_from_slice_get rec.units d unit.0 unit.0 here) ∙ ap (λ k. unit.0 ∷ drop k rec.units) next in
    ap (λ (o : Option Facts). run held_after r (with_unit r o (unit_at rec n) (units_from r rec (suc n) count)) h) f.1
    ∙ ap (λ (o : Option (List ℕ)). run held_after r (with_unit r (Some f.0) o (units_from r rec (suc n) count)) h) unit.1
    ∙ ap (λ (b : Bool). run held_after r (units_from r rec (suc n) count) (chosen b (push_unit_bytes h unit.0) h)) same
    ∙ own_units r rec (suc n) count (push_unit_bytes h unit.0) same (λ k low high. kept k (omega (arith, low)) high) (omega (arith, above)) whole (omega (arith, all))
    ∙ one_more unit.0 (drop (suc n - rec.floor) rec.units) h
    ∙ ap (λ us. with_units us h) (sym split)

-- the end of a rendition leaves its bytes
own_end : (r : ℕ) (finished : Option Bool) (h : HeldBytes) → run held_after r (end_of r finished) h ≡ h
own_end r None h = refl
own_end r (Some true) h = refl
own_end r (Some false) h = refl

-- what a renewed channel keeps of a rendition: the init section and the units from number n on, or nothing if it isn't recorded
abbrev pub held_by : Option RecordingData → ℕ → HeldBytes
held_by None n = no_bytes
held_by (Some rec) n = record { head = rec.head; units = drop (n - rec.floor) rec.units }

-- the events of a rendition's init section and units from n on make it keep exactly these, whether or not it is recorded
own_media : (a : State) (r n : ℕ) (l : Lane) (o : Option RecordingData) → IsState a → IsCutHere a r n l → recording_of a r ≡ o
    → run held_after r (media_from r o n) no_bytes ≡ held_by o n
own_media a r n l None state here found = refl
own_media a r n l (Some rec) state here found =
    let same : (r == r) ≡ true = eq-eqb r r refl in
    let is = whole_of a r l rec state here.at found in
    let long : length rec.facts ≡ length l.facts = ap length is.facts in
    let kept = kept_units l.floor n rec is.floor is.count here.low in
    ap (λ (b : Bool). run held_after r (units_from r rec n (length rec.facts - n)) (chosen b (begun_with rec.head no_bytes) no_bytes)) same
    ∙ own_units r rec n (length rec.facts - n) (begun_with rec.head no_bytes) same kept (omega (arith, is.floor, here.low)) is.count (omega (arith, long, here.high))

-- ---- the renewed channel

-- before the events of a renewal, no rendition keeps bytes
no_bytes_at : (a : State) (cut : LineCut) (r : ℕ) (l : Lane) → slice_get (channel a).lanes r ≡ Some l → slice_get (renewal_start a cut).bytes r ≡ Some no_bytes
no_bytes_at a cut r l at =
    let within : r < length a.config.renditions = omega (arith, slice_get_within (channel a).lanes r l at, lanes_count a.config a.log) in
    let there = some_at a.config.renditions r within in
    at_map no_bytes_of a.config.renditions r there.0 there.1

-- a renewed channel keeps the init section and the units from the cut on, in each rendition
pub held_of : (a b : State) (renews : Renews a b) → IsState a → (r : ℕ) (l : Lane) (g : HeldBytes) → slice_get (channel a).lanes r ≡ Some l → slice_get b.bytes r ≡ Some g
    → g ≡ held_by (recording_of a r) (cut_unit (renews.cut).place r)
held_of a b renews state r l g at there =
    let cut = renews.cut in
    let start = renewal_start a cut in
    let n = cut_unit cut.place r in
    let is = is_line_cut a cut state renews.first in
    let spot = spot_of_cut a cut r l state is at in
    let all = held_by_all a start (renewal_events a cut) r no_bytes renews.new (renewal_of a cut state) (no_bytes_at a cut r l at) in
    let mine : run held_after r (renewal_events a cut) no_bytes ≡ run held_after r (rendition_from a r n) no_bytes =
    renewal_run held_after ignores a r ((line a).removed - cut.segments) (cut.place).spots (spot_in (cut.place).spots r) no_bytes spot.0 in
    let own : run held_after r (rendition_from a r n) no_bytes ≡ run held_after r (media_from r (recording_of a r) n) no_bytes =
    run_append held_after r (media_from r (recording_of a r) n) (end_of r (finished_at a r)) no_bytes
    ∙ own_end r (finished_at a r) (run held_after r (media_from r (recording_of a r) n) no_bytes) in
    let same : run held_after r (renewal_events a cut) no_bytes ≡ g =
    some_same _ g (sym all ∙ ap (λ (x : State). slice_get x.bytes r) (sym renews.is) ∙ there) in
    sym same ∙ mine ∙ own ∙ own_media a r n l (recording_of a r) state spot.1 refl

-- an empty list of units has no unit
none_kept : (k : ℕ) (y : List ℕ) (units : List (List ℕ)) → units ≡ [] → slice_get units k ≡ Some y → ⊥
none_kept k y units none at =
    let nothing : None ≡ Some y = sym (ap (λ us. slice_get us k) none) ∙ at in
    cc

-- if one rendition keeps the units of another from number n on, both have the same bytes for each unit that both keep
same_units : (a : State) (r n : ℕ) (l m : Lane) (h g : HeldBytes) (o : Option RecordingData) → IsState a → IsCutHere a r n l → slice_get a.bytes r ≡ Some h → m.floor ≡ 0
    → recording_of a r ≡ o → g.units ≡ (held_by o n).units → SameUnitsFrom n l m h g
same_units a r n l m h g None state here held floor found units k x y above_l above_m at_x at_y = absurd (none_kept (k - m.floor) y g.units units at_y)
same_units a r n l m h g (Some rec) state here held floor found units k x y above_l above_m at_x at_y =
    let is = whole_of a r l rec state here.at found in
    let held_is : held_bytes a r ≡ h = at_or a.bytes r no_bytes h held in
    let old : rec.units ≡ h.units = is.units ∙ ap (λ (z : HeldBytes). z.units) held_is in
    let number : k - m.floor ≡ k = omega (arith, floor) in
    let place : n - rec.floor + k ≡ n + k - l.floor = omega (arith, is.floor, here.low) in
    let mine : slice_get g.units (k - m.floor) ≡ Some x =
    ap (λ us. slice_get us (k - m.floor)) units ∙ ap (λ j. slice_get (drop (n - rec.floor) rec.units) j) number
    ∙ at_drop rec.units (n - rec.floor) k ∙ ap (λ j. slice_get rec.units j) place ∙ ap (λ us. slice_get us (n + k - l.floor)) old ∙ at_x in
    some_same x y (sym mine ∙ at_y)

-- the units that a renewed channel keeps have the same bytes
pub same_bytes : RenewedUnitsHaveSameBytes
same_bytes a b renews state r l m h g at there held also =
    let cut = renews.cut in
    let spot = spot_of_cut a cut r l state (is_line_cut a cut state renews.first) at in
    let lanes = renewed_lane_at a b renews state r l m at there in
    same_units a r (cut_unit cut.place r) l m h g (recording_of a r) state spot.1 held lanes.floor refl (ap (λ (x : HeldBytes). x.units) (held_of a b renews state r l g at also))
