-- Each event of a renewal is new in the state that it meets: those of the renditions.
use Rattle.std.proofs.Common.{◌≡◌, ◌∙◌, ℕ, zero, suc, ◌+◌, ◌-◌, ◌^◌, ◌<◌, ◌≤◌, ◌==◌, Bool, true, false, Option, Some, None, List, [], ◌∷◌, ◌++◌, length, drop, refl, sym, ap, subst, arith, append_assoc, length-append}
use Rattle.std.specs.Prelude.{if◌then◌else◌, option_map, slice_get}
use Rattle.std.proofs.lemmas.Bool.{eq-eqb, le-ltb, lt-leb}
use Rattle.std.proofs.lemmas.List.{drop_more}
use Rattle.std.proofs.lemmas.List.Sums.{sum_by-append, sum_by-cons}
use Rattle.std.proofs.lemmas.Option.{get_or_from_slice_get}
use Rattle.hls_check_tables.specs.declared.spot.Spot.{Spot}
use Rattle.hls_check_tables.specs.Tables.{spot_in}
use Rattle.hls_media_laws.specs.InitData.{InitData}
use Rattle.hls_media_laws.specs.declared.facts.Facts.{Facts}
use Rattle.hls_media_laws.specs.FactLists.{AreFactsOfUnits, UnitsAreInOrder, end_tick, last_end, len_of, total_bytes}
use Rattle.hls_media_laws.proofs.Callers.{no_twin}
use Rattle.hls_record.specs.RecordingData.{RecordingData, unit_at}
use Rattle.hls_core_laws.specs.declared.event.Event.{Event}
use Rattle.hls_core_laws.specs.declared.event.Event.TheVariants.{Begin, Accept, Finish}
use Rattle.hls_core_laws.specs.declared.refusal.Refusal.TheVariants.{LedgerFull}
use Rattle.hls_core_laws.specs.Channel.{Lane, lane_len, no_lane, with_begin, with_facts}
use Rattle.hls_core_laws.specs.State.{State, channel, log_limit}
use Rattle.hls_core_laws.specs.IsState.{IsState}
use Rattle.hls_core_laws.specs.Line.{line}
use Rattle.hls_core_laws.specs.Outcome.{New, Refused, accept, accept_later, accept_with_duplicate, accept_with_init, begin, begin_with_init, finish, finish_with_init, held_bytes, new_or_full, outcome_of}
use Rattle.hls_core_laws.specs.Runs.{next_state, replayed_state}
use Rattle.hls_core_laws.proofs.Callers.{at_drop, lanes_timed, some_at}
use Rattle.hls_core.specs.Getters.{finished_at, recorded_at, recording_of}
use Rattle.hls_renewal.specs.declared.line_cut.LineCut.{LineCut}
use Rattle.hls_renewal.specs.Cuts.{first_cut}
use Rattle.hls_renewal.specs.Renewals.{AreNew, end_of, media_from, rendition_from, renditions_from, renewal_start, slide_by, units_from, with_unit}
use Rattle.hls_renewal.proofs.AllNew.{new_entries}
use Rattle.hls_renewal.proofs.EventCounts.{renewal_count}
use Rattle.hls_renewal.proofs.EventRuns.{apart, chosen, not_equal_up}
use Rattle.hls_renewal.proofs.LineCuts.{is_line_cut}
use Rattle.hls_renewal.proofs.RenewedLanes.{AreKeptFrom, IsCutHere, IsWholeOf, after_all, bare_of, fresh_at, ignores, kept_units, lane_after, own_begun, some_same, spot_of_cut, whole_of}
use Rattle.hls_renewal.proofs.SmallLanes.{small_lane}

-- ---- events one after the other

-- if each event of one list is new, and each of a second list from the state after them, each event of both lists is new
pub new_append : (s : State) (xs ys : List (ℕ × Event)) → AreNew s xs → AreNew (replayed_state s xs) ys → AreNew s (xs ++ ys)
new_append s [] ys new more = more
new_append s (e ∷ xs) ys new more = (new.0, new_append (next_state s e.0 e.1) xs ys new.1 more)

-- after a new event, rendition r is as the event leaves it
next_at : (s : State) (e : ℕ × Event) (r : ℕ) (l : Lane) → outcome_of s e.1 ≡ New → slice_get (channel s).lanes r ≡ Some l
    → slice_get (channel (next_state s e.0 e.1)).lanes r ≡ Some (lane_after r e.1 l)
next_at s e r l new at = after_all s (e ∷ []) r l (new, tt) at

-- a new event adds one entry to the log
next_entries : (s : State) (e : ℕ × Event) → outcome_of s e.1 ≡ New → length (next_state s e.0 e.1).log ≡ length s.log + 1
next_entries s e new = new_entries s (e ∷ []) (new, tt)

-- ---- one event

-- an event that passes all other tests is new if the log isn't full
pub has_room : (entries : ℕ) → entries < 4194304 → new_or_full entries ≡ New
has_room entries room = ap (λ (b : Bool). if b then Refused LedgerFull else New) (lt-leb log_limit entries room)

-- an init section is new in a rendition that hasn't begun
begin_new : (s : State) (r : ℕ) (l : Lane) (init : InitData) (bytes : List ℕ) → slice_get (channel s).lanes r ≡ Some l → l.init ≡ None → length s.log < 4194304
    → outcome_of s (Begin r init bytes) ≡ New
begin_new s r l init bytes at first room =
    ap (λ (o : Option Lane). begin o (held_bytes s r) bytes (length s.log)) at
    ∙ ap (λ (i : Option InitData). begin_with_init i (held_bytes s r).head bytes (length s.log)) first
    ∙ has_room (length s.log) room

-- the end of a rendition that has begun and isn't finished is new
finish_new : (s : State) (r : ℕ) (l : Lane) (init : InitData) → slice_get (channel s).lanes r ≡ Some l → l.init ≡ Some init → l.finished ≡ false → length s.log < 4194304
    → outcome_of s (Finish r) ≡ New
finish_new s r l init at begun unended room =
    ap (λ (o : Option Lane). finish o (length s.log)) at
    ∙ ap (λ (i : Option InitData). finish_with_init i l.finished (length s.log)) begun
    ∙ ap (λ (b : Bool). finish_with_init (Some init) b (length s.log)) unended
    ∙ has_room (length s.log) room

-- a unit that starts at or after the last unit's end is new in a rendition that isn't finished and has room for its bytes
later_new : (l : Lane) (f : Facts) (entries : ℕ) → last_end l.facts ≤ f.start → l.finished ≡ false → entries < 4194304 → lane_len l + f.len ≤ 2 ^ 40 → accept_later l f entries ≡ New
later_new l f entries later unended room small =
    rw (le-ltb f.start (last_end l.facts) later, unended, lt-leb 4194304 entries room, le-ltb (2 ^ 40) (lane_len l + f.len) small) refl

-- a unit that is later than all units of its rendition is new, if the rendition has begun, isn't finished, and has room
accept_new : (s : State) (r : ℕ) (l : Lane) (init : InitData) (f : Facts) (bytes : List ℕ) → slice_get (channel s).lanes r ≡ Some l → l.init ≡ Some init
    → AreFactsOfUnits init l.facts → UnitsAreInOrder l.facts → last_end l.facts ≤ f.start → l.finished ≡ false → length s.log < 4194304 → lane_len l + f.len ≤ 2 ^ 40
    → outcome_of s (Accept r f bytes) ≡ New
accept_new s r l init f bytes at begun were in_order later unended room small =
    ap (λ (o : Option Lane). accept o (held_bytes s r) f bytes (length s.log)) at
    ∙ ap (λ (i : Option InitData). accept_with_init i l (held_bytes s r) f bytes (length s.log)) begun
    ∙ ap (λ (d : Option (List ℕ)). accept_with_duplicate d l f bytes (length s.log)) (no_twin init l.facts l.floor f.start (held_bytes s r).units were in_order later)
    ∙ later_new l f (length s.log) later unended room small

-- ---- the units of a rendition, from some unit on

-- the facts are of units that fit an init section, in time order, with at most 2^40 bytes together with the section
pub record AreInTime (init : InitData) (size : ℕ) (facts : List Facts) : Type 0 where
  pub were : AreFactsOfUnits init facts
  pub in_order : UnitsAreInOrder facts
  pub small : size + total_bytes facts ≤ 2 ^ 40

-- an element of a list is at the same number when another list is appended
front_at : {A : Type 0} (xs ys : List A) (k : ℕ) (x : A) → slice_get xs k ≡ Some x → slice_get (xs ++ ys) k ≡ Some x
front_at [] ys k x at = absurd (cc)
front_at (z ∷ xs) ys zero x at = at
front_at (z ∷ xs) ys (suc k) x at = front_at xs ys k x at

-- in a list that is followed by `y`, the element after its last one is `y`
end_at : {A : Type 0} (xs : List A) (y : A) (ys : List A) → slice_get (xs ++ y ∷ ys) (length xs) ≡ Some y
end_at [] y ys = refl
end_at (x ∷ xs) y ys = end_at xs y ys

-- if units are in time order, those before a unit end at or before its start
ends_before : (xs : List Facts) (f : Facts) (rest : List Facts) → UnitsAreInOrder (xs ++ f ∷ rest) → last_end xs ≤ f.start
ends_before [] f rest in_order = omega arith
ends_before (x ∷ xs) f rest in_order =
    let k = length xs in
    let last = some_at (x ∷ xs) k (omega arith) in
    let number : length (x ∷ xs) - 1 ≡ k = omega arith in
    let next : k + 1 ≡ length (x ∷ xs) = omega arith in
    let here = front_at (x ∷ xs) (f ∷ rest) k last.0 last.1 in
    let there : slice_get ((x ∷ xs) ++ f ∷ rest) (k + 1) ≡ Some f = ap (λ j. slice_get ((x ∷ xs) ++ f ∷ rest) j) next ∙ end_at (x ∷ xs) f rest in
    let ends : last_end (x ∷ xs) ≡ (last.0).start + (last.0).duration = ap (λ j. end_tick (slice_get (x ∷ xs) j)) number ∙ ap end_tick last.1 in
    omega (arith, ends, in_order k last.0 f here there)

-- if units are in time order with room for all, so are the first ones
first_ones : (init : InitData) (size : ℕ) (xs ys : List Facts) → AreInTime init size (xs ++ ys) → AreInTime init size xs
first_ones init size xs ys in_time = record {
  were = λ k f at. in_time.were k f (front_at xs ys k f at);
  in_order = λ k f g at also. in_time.in_order k f g (front_at xs ys k f at) (front_at xs ys (k + 1) g also);
  small = omega (arith, in_time.small, sum_by-append len_of xs ys);
}

-- being in time order with room for all carries over to an equal list
in_units : (init : InitData) (size : ℕ) (xs ys : List Facts) → AreInTime init size xs → xs ≡ ys → AreInTime init size ys
in_units init size xs ys in_time same = subst (λ (fs : List Facts). AreInTime init size fs) same in_time

-- if all units from number n on are kept, there is an event for each of them
units_all : (r : ℕ) (rec : RecordingData) (n count : ℕ) → AreKeptFrom rec n → n + count ≡ length rec.facts → count ≤ length (units_from r rec n count)
units_all r rec n zero kept all = omega arith
units_all r rec n (suc count) kept all =
    let within : n < length rec.facts = omega (arith, all) in
    let f = some_at rec.facts n within in
    let unit = kept n (omega arith) within in
    let first : length (units_from r rec n (suc count)) ≡ suc (length (units_from r rec (suc n) count)) =
    ap (λ (o : Option Facts). length (with_unit r o (unit_at rec n) (units_from r rec (suc n) count))) f.1
    ∙ ap (λ (o : Option (List ℕ)). length (with_unit r (Some f.0) o (units_from r rec (suc n) count))) unit.1 in
    omega (arith, first, units_all r rec (suc n) count (λ k low high. kept k (omega (arith, low)) high) (omega (arith, all)))

-- the units of a recording from number n on are new in a rendition that has begun, isn't finished, and has only earlier units
units_new : (s : State) (r : ℕ) (rec : RecordingData) (n count : ℕ) (l : Lane) (init : InitData) → slice_get (channel s).lanes r ≡ Some l → l.init ≡ Some init → l.finished ≡ false
    → AreKeptFrom rec n → n + count ≡ length rec.facts → AreInTime init l.size (l.facts ++ drop n rec.facts) → length s.log + count ≤ 4194304
    → AreNew s (units_from r rec n count)
units_new s r rec n zero l init at begun unended kept all in_time room = tt
units_new s r rec n (suc count) l init at begun unended kept all in_time room =
    let within : n < length rec.facts = omega (arith, all) in
    let f = some_at rec.facts n within in
    let unit = kept n (omega arith) within in
    let next : n + 1 ≡ suc n = omega arith in
    let split : drop n rec.facts ≡ f.0 ∷ drop (suc n) rec.facts =
    drop_more rec.facts n f.0 within ∙ ap (λ x. x ∷ drop (n + 1) rec.facts) (get_or_from_slice_get rec.facts n f.0 f.0 f.1) ∙ ap (λ k. f.0 ∷ drop k rec.facts) next in
    let whole : AreInTime init l.size (l.facts ++ f.0 ∷ drop (suc n) rec.facts) = in_units init l.size _ _ in_time (ap (λ fs. l.facts ++ fs) split) in
    let before = first_ones init l.size l.facts (f.0 ∷ drop (suc n) rec.facts) whole in
    let fits : lane_len l + (f.0).len ≤ 2 ^ 40 =
    omega (arith, whole.small, sum_by-append len_of l.facts (f.0 ∷ drop (suc n) rec.facts), sum_by-cons len_of f.0 (drop (suc n) rec.facts)) in
    let new : outcome_of s (Accept r f.0 unit.0) ≡ New =
    accept_new s r l init f.0 unit.0 at begun before.were before.in_order (ends_before l.facts f.0 (drop (suc n) rec.facts) whole.in_order) unended (omega (arith, room)) fits in
    let e : ℕ × Event = (0, Accept r f.0 unit.0) in
    let same : (r == r) ≡ true = eq-eqb r r refl in
    let there : slice_get (channel (next_state s 0 (Accept r f.0 unit.0))).lanes r ≡ Some (with_facts f.0 l) =
    next_at s e r l new at ∙ ap (λ (b : Bool). Some (chosen b (with_facts f.0 l) l)) same in
    let more : AreInTime init l.size ((l.facts ++ f.0 ∷ []) ++ drop (suc n) rec.facts) = in_units init l.size _ _ whole (sym (append_assoc l.facts (f.0 ∷ []) (drop (suc n) rec.facts))) in
    let rest : AreNew (next_state s 0 (Accept r f.0 unit.0)) (units_from r rec (suc n) count) =
    units_new (next_state s 0 (Accept r f.0 unit.0)) r rec (suc n) count (with_facts f.0 l) init there begun unended (λ k low high. kept k (omega (arith, low)) high) (omega (arith, all)) more
    (omega (arith, room, next_entries s e new)) in
    subst (λ (es : List (ℕ × Event)). AreNew s es)
    (sym (ap (λ (o : Option Facts). with_unit r o (unit_at rec n) (units_from r rec (suc n) count)) f.1
    ∙ ap (λ (o : Option (List ℕ)). with_unit r (Some f.0) o (units_from r rec (suc n) count)) unit.1))
    (new, rest)

-- ---- one rendition

-- the units without the first n have no more bytes than all of them
drop_small : (n : ℕ) (fs : List Facts) → total_bytes (drop n fs) ≤ total_bytes fs
drop_small zero fs = omega arith
drop_small (suc n) [] = omega arith
drop_small (suc n) (f ∷ fs) = omega (arith, drop_small n fs, sum_by-cons len_of f fs)

-- if units are in time order with room for all, so are those from number n on
later_ones : (init : InitData) (size n : ℕ) (fs : List Facts) → AreInTime init size fs → AreInTime init size (drop n fs)
later_ones init size n fs in_time = record {
  were = λ k f at. in_time.were (n + k) f (sym (at_drop fs n k) ∙ at);
  in_order = λ k f g at also.
      let next : n + (k + 1) ≡ n + k + 1 = omega arith in
      in_time.in_order (n + k) f g (sym (at_drop fs n k) ∙ at) (ap (λ j. slice_get fs j) (sym next) ∙ sym (at_drop fs n (k + 1)) ∙ also);
  small = omega (arith, in_time.small, drop_small n fs);
}

-- the units of a state's rendition are in time
recorded_in_time : (a : State) (r : ℕ) (l : Lane) (init : InitData) → IsState a → slice_get (channel a).lanes r ≡ Some l → l.init ≡ Some init → AreInTime init l.size l.facts
recorded_in_time a r l init state at begun =
    let timed = lanes_timed a state.legal r l at in
    record { were = timed.were init begun; in_order = timed.in_order; small = small_lane a state r l at }

-- the init section and the units from the cut on are new in a rendition that hasn't begun
media_new : (a s : State) (r n : ℕ) (l : Lane) (rec : RecordingData) → IsState a → IsCutHere a r n l → IsWholeOf a r l rec → slice_get (channel s).lanes r ≡ Some no_lane
    → length s.log + length (media_from r (Some rec) n) ≤ 4194304 → AreNew s (media_from r (Some rec) n)
media_new a s r n l rec state here is fresh room =
    let count = length rec.facts - n in
    let long : length rec.facts ≡ length l.facts = ap length is.facts in
    let kept = kept_units l.floor n rec is.floor is.count here.low in
    let few : count ≤ length (units_from r rec n count) = units_all r rec n count kept (omega (arith, long, here.high)) in
    let e : ℕ × Event = (0, Begin r rec.init rec.head) in
    let new : outcome_of s (Begin r rec.init rec.head) ≡ New = begin_new s r no_lane rec.init rec.head fresh refl (omega (arith, room)) in
    let same : (r == r) ≡ true = eq-eqb r r refl in
    let begun : Lane = with_begin rec.init (length rec.head) no_lane in
    let there : slice_get (channel (next_state s 0 (Begin r rec.init rec.head))).lanes r ≡ Some begun =
    next_at s e r no_lane new fresh ∙ ap (λ (b : Bool). Some (chosen b begun no_lane)) same in
    let old : AreInTime rec.init (length rec.head) (drop n l.facts) =
    subst (λ (k : ℕ). AreInTime rec.init k (drop n l.facts)) is.size (later_ones rec.init l.size n l.facts (recorded_in_time a r l rec.init state here.at is.init)) in
    let in_time : AreInTime rec.init (length rec.head) (drop n rec.facts) = in_units rec.init (length rec.head) _ _ old (ap (λ fs. drop n fs) (sym is.facts)) in (
      new,
      units_new (next_state s 0 (Begin r rec.init rec.head)) r rec n count begun rec.init there refl refl kept (omega (arith, long, here.high)) in_time
          (omega (arith, room, few, next_entries s e new)),
    )

-- the end of a rendition that has begun and isn't finished is new, as is no end at all
end_new : (s : State) (r : ℕ) (l : Lane) (init : InitData) (finished : Bool) → slice_get (channel s).lanes r ≡ Some l → l.init ≡ Some init → l.finished ≡ false
    → length s.log + length (end_of r (Some finished)) ≤ 4194304 → AreNew s (end_of r (Some finished))
end_new s r l init true at begun unended room = (finish_new s r l init at begun unended (omega (arith, room)), tt)
end_new s r l init false at begun unended room = tt

-- all events of a recorded rendition are new if it hasn't begun in the renewed channel and the log has room
begun_new : (a s : State) (r n : ℕ) (l : Lane) (rec : RecordingData) → IsState a → IsCutHere a r n l → IsWholeOf a r l rec → slice_get (channel s).lanes r ≡ Some no_lane
    → length s.log + length (media_from r (Some rec) n ++ end_of r (Some l.finished)) ≤ 4194304 → AreNew s (media_from r (Some rec) n ++ end_of r (Some l.finished))
begun_new a s r n l rec state here is fresh room =
    let media = media_from r (Some rec) n in
    let long : length rec.facts ≡ length l.facts = ap length is.facts in
    let kept = kept_units l.floor n rec is.floor is.count here.low in
    let split = length-append media (end_of r (Some l.finished)) in
    let new = media_new a s r n l rec state here is fresh (omega (arith, room, split)) in
    let now = own_begun r n rec kept (omega (arith, long, here.high)) in
    let there = after_all s media r no_lane new fresh ∙ ap (λ (x : Lane). Some x) now in
    new_append s media (end_of r (Some l.finished)) new
    (end_new (replayed_state s media) r _ rec.init l.finished there refl refl (omega (arith, room, split, new_entries s media new)))

-- a rendition that isn't recorded has no events, so all of them are new
bare_new : (a s : State) (r n : ℕ) (l : Lane) → IsState a → slice_get (channel a).lanes r ≡ Some l → recording_of a r ≡ None → AreNew s (media_from r None n ++ end_of r (Some l.finished))
bare_new a s r n l state at found =
    let bare = bare_of a r l state at found in
    subst (λ (b : Bool). AreNew s (end_of r (Some b))) (sym bare) tt

-- the events of a rendition are new, whether or not it is recorded
by_recording : (a s : State) (r n : ℕ) (l : Lane) (o : Option RecordingData) → IsState a → IsCutHere a r n l → recording_of a r ≡ o → slice_get (channel s).lanes r ≡ Some no_lane
    → length s.log + length (media_from r o n ++ end_of r (Some l.finished)) ≤ 4194304 → AreNew s (media_from r o n ++ end_of r (Some l.finished))
by_recording a s r n l None state here found fresh room = bare_new a s r n l state here.at found
by_recording a s r n l (Some rec) state here found fresh room = begun_new a s r n l rec state here (whole_of a r l rec state here.at found) fresh room

-- the events of a rendition from the cut on are new if it hasn't begun in the renewed channel and the log has room
rendition_new : (a s : State) (r n : ℕ) (l : Lane) → IsState a → IsCutHere a r n l → slice_get (channel s).lanes r ≡ Some no_lane
    → length s.log + length (rendition_from a r n) ≤ 4194304 → AreNew s (rendition_from a r n)
rendition_new a s r n l state here fresh room =
    let finished : finished_at a r ≡ Some l.finished = ap (λ (o : Option Lane). option_map (λ (x : Lane). x.finished) o) here.at in
    let es : rendition_from a r n ≡ media_from r (recording_of a r) n ++ end_of r (Some l.finished) = ap (λ o. media_from r (recording_of a r) n ++ end_of r o) finished in
    subst (λ (x : List (ℕ × Event)). AreNew s x) (sym es)
    (by_recording a s r n l (recording_of a r) state here refl fresh (omega (arith, room, ap length es)))

-- ---- all renditions

-- each spot is between the floor and the end of its rendition, from number r on
abbrev AreCutsHere : State → ℕ → List Spot → Type 0
AreCutsHere a r spots = (k : ℕ) (spot : Spot) (l : Lane) → slice_get spots k ≡ Some spot → slice_get (channel a).lanes (r + k) ≡ Some l → IsCutHere a (r + k) spot.fragment l

-- no rendition of the channel from number r on has begun in the renewed one
abbrev AreFresh : State → State → ℕ → Type 0
AreFresh a s r = (q : ℕ) (l : Lane) → r ≤ q → slice_get (channel a).lanes q ≡ Some l → slice_get (channel s).lanes q ≡ Some no_lane

-- the events of rendition r are new, whether or not the channel has this rendition
one_new : (a s : State) (r : ℕ) (spot : Spot) (spots : List Spot) (o : Option Lane) → IsState a → slice_get (channel a).lanes r ≡ o → AreCutsHere a r (spot ∷ spots) → AreFresh a s r
    → length s.log + length (rendition_from a r spot.fragment) ≤ 4194304 → AreNew s (rendition_from a r spot.fragment)
one_new a s r spot spots None state at here fresh room =
    let unknown : recording_of a r ≡ None = ap (λ (x : Option Lane). recorded_at x (held_bytes a r)) at in
    let never : finished_at a r ≡ None = ap (λ (x : Option Lane). option_map (λ (y : Lane). y.finished) x) at in
    let none : rendition_from a r spot.fragment ≡ [] =
    ap (λ x. media_from r x spot.fragment ++ end_of r (finished_at a r)) unknown ∙ ap (λ x. end_of r x) never in
    subst (λ (x : List (ℕ × Event)). AreNew s x) (sym none) tt
one_new a s r spot spots (Some l) state at here fresh room =
    let number : r + 0 ≡ r = omega arith in
    let mine : IsCutHere a r spot.fragment l =
    subst (λ (q : ℕ). IsCutHere a q spot.fragment l) number (here 0 spot l refl (ap (λ q. slice_get (channel a).lanes q) number ∙ at)) in
    rendition_new a s r spot.fragment l state mine (fresh r l (omega arith) at) room

-- the events of all renditions from number r on are new, if none has begun and the log has room
pub renditions_new : (a s : State) (r : ℕ) (spots : List Spot) → IsState a → AreCutsHere a r spots → AreFresh a s r → length s.log + length (renditions_from a r spots) ≤ 4194304
    → AreNew s (renditions_from a r spots)
renditions_new a s r [] state here fresh room = tt
renditions_new a s r (spot ∷ spots) state here fresh room =
    let own = rendition_from a r spot.fragment in
    let split = length-append own (renditions_from a (suc r) spots) in
    let new = one_new a s r spot spots (slice_get (channel a).lanes r) state refl here fresh (omega (arith, room, split)) in
    let next : AreCutsHere a (suc r) spots = λ k x l at there.
    let number : r + suc k ≡ suc r + k = omega arith in
    subst (λ (q : ℕ). IsCutHere a q x.fragment l) number (here (suc k) x l at (ap (λ q. slice_get (channel a).lanes q) number ∙ there)) in
    let left : AreFresh a (replayed_state s own) (suc r) = λ q l after at.
    after_all s own q no_lane new (fresh q l (omega (arith, after)) at)
    ∙ ap (λ (x : Lane). Some x) (apart lane_after ignores a q r spot.fragment no_lane (not_equal_up q r (omega (arith, after)))) in
    new_append s own (renditions_from a (suc r) spots) new
    (renditions_new a (replayed_state s own) (suc r) spots state next left (omega (arith, room, split, new_entries s own new)))

-- the events of all renditions are new from the opening state of a renewal
pub all_renditions_new : (a : State) (cut : LineCut) → IsState a → first_cut a ≡ Some cut → AreNew (renewal_start a cut) (renditions_from a 0 (cut.place).spots)
all_renditions_new a cut state first =
    let is = is_line_cut a cut state first in
    let split = length-append (renditions_from a 0 (cut.place).spots) (slide_by ((line a).removed - cut.segments)) in
    let none : length (renewal_start a cut).log ≡ 0 = refl in
    let here : AreCutsHere a 0 (cut.place).spots = λ k spot l at there.
    let number : 0 + k ≡ k = omega arith in
    let lane_at : slice_get (channel a).lanes k ≡ Some l = ap (λ q. slice_get (channel a).lanes q) (sym number) ∙ there in
    let found = spot_of_cut a cut k l state is lane_at in
    let same : spot_in (cut.place).spots k ≡ spot = some_same _ spot (sym found.0 ∙ at) in
    subst (λ (q : ℕ). IsCutHere a q spot.fragment l) (sym number) (subst (λ (x : Spot). IsCutHere a k x.fragment l) same found.1) in
    let fresh : AreFresh a (renewal_start a cut) 0 = λ q l low at. fresh_at a cut q l at in
    renditions_new a (renewal_start a cut) 0 (cut.place).spots state here fresh (omega (arith, none, split, renewal_count a cut state, state.few))
