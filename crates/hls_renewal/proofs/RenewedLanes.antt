-- The renditions of a renewed channel are the old ones from the cut on.
use Rattle.std.proofs.Common.{◌≡◌, ◌≢◌, ◌∙◌, ℕ, zero, suc, ◌+◌, ◌-◌, ◌<◌, ◌≤◌, ◌==◌, Bool, true, false, Option, Some, None, List, [], ◌∷◌, ◌++◌, length, drop, get_or, refl, sym, ap, subst, inl, inr, arith, append_assoc, append-nil}
use Rattle.std.specs.Prelude.{◌⊎◌, cond, option_map, slice_get, slice_set}
use Rattle.std.proofs.lemmas.Bool.{eqb-true, eq-eqb, le-ltb}
use Rattle.std.proofs.lemmas.List.{drop_all, drop_more}
use Rattle.std.proofs.Math.Seq.{drop-nil}
use Rattle.std.proofs.lemmas.Option.{slice_get_within, slice_get-get_or, get_or_from_slice_get}
use Rattle.hls_check_tables.specs.declared.spot.Spot.{Spot}
use Rattle.hls_check_tables.specs.Tables.{spot_in}
use Rattle.hls_media_laws.specs.InitData.{InitData}
use Rattle.hls_media_laws.specs.declared.facts.Facts.{Facts}
use Rattle.hls_record.specs.RecordingData.{RecordingData, unit_at}
use Rattle.hls_places_laws.specs.declared.place.Place.{Place}
use Rattle.hls_places_laws.specs.Order.{no_place}
use Rattle.hls_places_laws.proofs.Callers.{IsWithin, front-holds, front-stands, places-within}
use Rattle.hls_core_laws.specs.declared.event.Event.{Event}
use Rattle.hls_core_laws.specs.declared.event.Event.TheVariants.{Begin, Accept, Finish, Slide, Trim}
use Rattle.hls_core_laws.specs.Config.{ConfigData, without_base}
use Rattle.hls_core_laws.specs.Channel.{Channel, Lane, no_lane, fresh_lane, lane, with_lane, with_begin, with_facts, with_finish, with_floor, channel_after, channel_from}
use Rattle.hls_core_laws.specs.State.{State, HeldBytes, no_bytes, channel}
use Rattle.hls_core_laws.specs.IsState.{IsState, MatchesBytes}
use Rattle.hls_core_laws.specs.Line.{line, line_goal_of}
use Rattle.hls_core_laws.specs.Outcome.{Outcome, New, Repeated, Refused, outcome_of, held_bytes}
use Rattle.hls_core_laws.specs.Moves.{logged_event, state_with_entry}
use Rattle.hls_core_laws.specs.Places.{floor_of, floors, places, sources}
use Rattle.hls_core_laws.specs.Runs.{state_by_outcome, next_state, replayed_state}
use Rattle.hls_core_laws.proofs.Callers.{at_beside, at_map, at_or, channel_advanced, floors-count, kept-parts, lanes_count, some_at, source_of, sources_count, spots-count}
use Rattle.hls_core.specs.Getters.{recording_of, recorded_at, recorded_from, finished_at}
use Rattle.hls_playlists_laws.specs.Origins.{LaneBegins}
use Rattle.hls_playlists_laws.specs.Handovers.{IsHandedOver, lane_from, unit_at as cut_unit}
use Rattle.hls_playlists_laws.specs.CutBases.{base_of_cut}
use Rattle.hls_renewal.specs.Renewals.{AreNew}
use Rattle.hls_renewal.specs.declared.line_cut.LineCut.{LineCut}
use Rattle.hls_renewal.specs.Cuts.{IsLineCut}
use Rattle.hls_renewal.specs.Renewals.{with_unit, units_from, media_from, end_of, rendition_from, renditions_from, slide_by, renewal_events, renewal_start, Renews}
use Rattle.hls_renewal.proofs.EventRuns.{IgnoresOthers, chosen, renewal_run, run, run_append, set_chosen}
use Rattle.hls_renewal.proofs.Recorded.{of_lane}
use Rattle.hls_renewal.proofs.LineCuts.{is_line_cut}

-- ---- one lane at a time

-- rendition r after an event
abbrev pub lane_after : ℕ → Event → Lane → Lane
lane_after r (Begin q init bytes) l = chosen (r == q) (with_begin init (length bytes) l) l
lane_after r (Accept q f bytes) l = chosen (r == q) (with_facts f l) l
lane_after r (Finish q) l = chosen (r == q) (with_finish l) l
lane_after r (Slide count) l = l
lane_after r (Trim q floor) l = chosen (r == q) (with_floor floor l) l

-- events of other renditions leave rendition r
pub ignores : IgnoresOthers lane_after
ignores r (Begin q init bytes) l differ = ap (λ (b : Bool). chosen b (with_begin init (length bytes) l) l) differ
ignores r (Accept q f bytes) l differ = ap (λ (b : Bool). chosen b (with_facts f l) l) differ
ignores r (Finish q) l differ = ap (λ (b : Bool). chosen b (with_finish l) l) differ
ignores r (Slide count) l differ = refl
ignores r (Trim q floor) l differ = ap (λ (b : Bool). chosen b (with_floor floor l) l) differ

-- rendition r after a list of events
abbrev pub lane_run : ℕ → List (ℕ × Event) → Lane → Lane
lane_run r es l = run lane_after r es l

-- after one lane of a channel is changed, rendition r is changed if that is its lane, and else is as it was
one_set : (ch : Channel) (r q : ℕ) (l : Lane) (f : Lane → Lane) → slice_get ch.lanes r ≡ Some l → slice_get (with_lane ch q (f (lane ch q))).lanes r ≡ Some (chosen (r == q) (f l) l)
one_set ch r q l f at = set_chosen ch.lanes no_lane r q l f at

-- after one event of the log, rendition r is as `lane_after` says
after_one : (ch : Channel) (e : Event) (r : ℕ) (l : Lane) → slice_get ch.lanes r ≡ Some l → slice_get (channel_after (logged_event e) ch).lanes r ≡ Some (lane_after r e l)
after_one ch (Begin q init bytes) r l at = one_set ch r q l (with_begin init (length bytes)) at
after_one ch (Accept q f bytes) r l at = one_set ch r q l (with_facts f) at
after_one ch (Finish q) r l at = one_set ch r q l with_finish at
after_one ch (Slide count) r l at = at
after_one ch (Trim q floor) r l at = one_set ch r q l (with_floor floor) at

-- after a list of new events, rendition r is as `lane_run` says
pub after_all : (s : State) (es : List (ℕ × Event)) (r : ℕ) (l : Lane) → AreNew s es → slice_get (channel s).lanes r ≡ Some l
    → slice_get (channel (replayed_state s es)).lanes r ≡ Some (lane_run r es l)
after_all s [] r l new at = at
after_all s (e ∷ es) r l new at =
    let is : next_state s e.0 e.1 ≡ state_with_entry s e.0 e.1 = ap (λ (o : Outcome). state_by_outcome o (state_with_entry s e.0 e.1) s) new.0 in
    let there : slice_get (channel (next_state s e.0 e.1)).lanes r ≡ Some (lane_after r e.1 l) =
    ap (λ (x : State). slice_get (channel x).lanes r) is ∙ ap (λ (x : Channel). slice_get x.lanes r) (channel_advanced s e.0 e.1) ∙ after_one (channel s) e.1 r l at in
    after_all (next_state s e.0 e.1) es r (lane_after r e.1 l) new.1 there

-- the configuration stays, whatever the outcome of an event
config_by : (s : State) (by : ℕ) (e : Event) (o : Outcome) → (state_by_outcome o (state_with_entry s by e) s).config ≡ s.config
config_by s by e New = refl
config_by s by e Repeated = refl
config_by s by e (Refused x) = refl

-- events leave the configuration
pub config_after_all : (s : State) (es : List (ℕ × Event)) → (replayed_state s es).config ≡ s.config
config_after_all s [] = refl
config_after_all s (e ∷ es) = config_after_all (next_state s e.0 e.1) es ∙ config_by s e.0 e.1 (outcome_of s e.1)

-- ---- its own events

-- a lane with more units after its own
abbrev pub with_more : List Facts → Lane → Lane
with_more fs l = record { init = l.init; size = l.size; facts = l.facts ++ fs; floor = l.floor; finished = l.finished }

-- no more units leave the lane as it is
none_more : (l : Lane) → l ≡ with_more [] l
none_more l = let same = sym (append-nil l.facts) in
    λ k. record { init = l.init; size = l.size; facts = same k; floor = l.floor; finished = l.finished }

-- one unit and then others are the same as all of them at once
one_more : (f : Facts) (fs : List Facts) (l : Lane) → with_more fs (with_facts f l) ≡ with_more (f ∷ fs) l
one_more f fs l = let same = append_assoc l.facts (f ∷ []) fs in
    λ k. record { init = l.init; size = l.size; facts = same k; floor = l.floor; finished = l.finished }

-- all units from a number on are kept
abbrev pub AreKeptFrom : RecordingData → ℕ → Type 0
AreKeptFrom rec n = (k : ℕ) → n ≤ k → k < length rec.facts → (unit : List ℕ) × (unit_at rec k ≡ Some unit)

-- the events of a recording's units from number n on add exactly these units to the lane
own_units : (r : ℕ) (rec : RecordingData) (n count : ℕ) (l : Lane) → (r == r) ≡ true → AreKeptFrom rec n → n + count ≡ length rec.facts
    → lane_run r (units_from r rec n count) l ≡ with_more (drop n rec.facts) l
own_units r rec n zero l same kept all =
    none_more l ∙ ap (λ fs. with_more fs l) (sym (drop_all n rec.facts (omega (arith, all))))
own_units r rec n (suc count) l same kept all =
    let within : n < length rec.facts = omega (arith, all) in
    let f = some_at rec.facts n within in
    let unit = kept n (omega arith) within in
    let next : n + 1 ≡ suc n = omega arith in
    let split : drop n rec.facts ≡ f.0 ∷ drop (suc n) rec.facts =
    drop_more rec.facts n f.0 within ∙ ap (λ x. x ∷ drop (n + 1) rec.facts) (get_or_from_slice_get rec.facts n f.0 f.0 f.1) ∙ ap (λ k. f.0 ∷ drop k rec.facts) next in
    ap (λ (o : Option Facts). lane_run r (with_unit r o (unit_at rec n) (units_from r rec (suc n) count)) l) f.1
    ∙ ap (λ (o : Option (List ℕ)). lane_run r (with_unit r (Some f.0) o (units_from r rec (suc n) count)) l) unit.1
    ∙ ap (λ (b : Bool). lane_run r (units_from r rec (suc n) count) (chosen b (with_facts f.0 l) l)) same
    ∙ own_units r rec (suc n) count (with_facts f.0 l) same (λ k low high. kept k (omega (arith, low)) high) (omega (arith, all))
    ∙ one_more f.0 (drop (suc n) rec.facts) l
    ∙ ap (λ fs. with_more fs l) (sym split)

-- the lane, finished if the condition is true
abbrev ended : Bool → Lane → Lane
ended true l = with_finish l
ended false l = l

-- the end of a rendition finishes its lane, if there is such an event
own_end : (r : ℕ) (finished : Bool) (l : Lane) → (r == r) ≡ true → lane_run r (end_of r (Some finished)) l ≡ ended finished l
own_end r true l same = ap (λ (b : Bool). chosen b (with_finish l) l) same
own_end r false l same = refl

-- a lane that begins with a recording's init section and has its units from number n on, finished or not
abbrev renewed_lane : RecordingData → ℕ → Bool → Lane
renewed_lane rec n finished = ended finished (with_more (drop n rec.facts) (with_begin rec.init (length rec.head) no_lane))

-- the init section and the units of a recording from n on make a lane with that section and these units
pub own_begun : (r n : ℕ) (rec : RecordingData) → AreKeptFrom rec n → n ≤ length rec.facts
    → lane_run r (media_from r (Some rec) n) no_lane ≡ with_more (drop n rec.facts) (with_begin rec.init (length rec.head) no_lane)
own_begun r n rec kept few =
    let same : (r == r) ≡ true = eq-eqb r r refl in
    let all : n + (length rec.facts - n) ≡ length rec.facts = omega (arith, few) in
    ap (λ (b : Bool). lane_run r (units_from r rec n (length rec.facts - n)) (chosen b (with_begin rec.init (length rec.head) no_lane) no_lane)) same
    ∙ own_units r rec n (length rec.facts - n) (with_begin rec.init (length rec.head) no_lane) same kept all

-- the events of a recorded rendition from unit n on make the renewed lane
own_media : (r n : ℕ) (rec : RecordingData) (finished : Bool) → AreKeptFrom rec n → n ≤ length rec.facts
    → lane_run r (media_from r (Some rec) n ++ end_of r (Some finished)) no_lane ≡ renewed_lane rec n finished
own_media r n rec finished kept few =
    run_append lane_after r (media_from r (Some rec) n) (end_of r (Some finished)) no_lane
    ∙ own_end r finished (lane_run r (media_from r (Some rec) n) no_lane) (eq-eqb r r refl)
    ∙ ap (λ l. ended finished l) (own_begun r n rec kept few)

-- lane m is lane l from unit n on, with the floor at 0
pub record IsLaneFrom (n : ℕ) (l m : Lane) : Type 0 where
  pub init : m.init ≡ l.init
  pub size : m.size ≡ l.size
  pub facts : m.facts ≡ drop n l.facts
  pub floor : m.floor ≡ 0
  pub finished : m.finished ≡ l.finished

-- the renewed lane of a recording with a lane's init section and facts is that lane from unit n on
begins_again : (l : Lane) (rec : RecordingData) (n : ℕ) (finished : Bool) → l.init ≡ Some rec.init → rec.facts ≡ l.facts → l.size ≡ length rec.head → l.finished ≡ finished
    → IsLaneFrom n l (renewed_lane rec n finished)
begins_again l rec n true init facts size over = record { init = sym init; size = sym size; facts = ap (λ fs. drop n fs) facts; floor = refl; finished = sym over }
begins_again l rec n false init facts size over = record { init = sym init; size = sym size; facts = ap (λ fs. drop n fs) facts; floor = refl; finished = sym over }

-- a lane that is another one from unit n on begins with the init section and the units that the other one has from there
begins_from : (n : ℕ) (l m : Lane) → IsLaneFrom n l m → LaneBegins (lane_from n l) m
begins_from n l m is = record {
  init = is.init;
  size = is.size;
  more = [];
  facts = is.facts ∙ sym (append-nil (drop n l.facts));
  over = λ h. (is.finished ∙ h, refl);
}

-- ---- the renewed channel

-- each unit from the floor on is kept
pub kept_units : (floor n : ℕ) (rec : RecordingData) → rec.floor ≡ floor → rec.floor + length rec.units ≡ length rec.facts → floor ≤ n → AreKeptFrom rec n
kept_units floor n rec is whole low k from within =
    let above : rec.floor ≤ k = omega (arith, is, low, from) in
    let there = some_at rec.units (k - rec.floor) (omega (arith, above, whole, within)) in
    (there.0, ap (λ (b : Bool). cond b None (slice_get rec.units (k - rec.floor))) (le-ltb k rec.floor above) ∙ there.1)

-- values that are equal within `Some` are equal
pub some_same : {A : Type 0} (x y : A) → Some x ≡ Some y → x ≡ y
some_same x y same = cc

-- rendition r of a state has lane l, and unit n is at or above its floor and at most its number of units
pub record IsCutHere (a : State) (r n : ℕ) (l : Lane) : Type 0 where
  pub at : slice_get (channel a).lanes r ≡ Some l
  pub low : l.floor ≤ n
  pub high : n ≤ length l.facts

-- a recording has all of its lane: the init section, the facts, the floor, and the bytes of each unit from the floor on
pub record IsWholeOf (a : State) (r : ℕ) (l : Lane) (rec : RecordingData) : Type 0 where
  pub init : l.init ≡ Some rec.init
  pub size : l.size ≡ length rec.head
  pub facts : rec.facts ≡ l.facts
  pub floor : rec.floor ≡ l.floor
  pub units : rec.units ≡ (held_bytes a r).units
  pub count : rec.floor + length rec.units ≡ length rec.facts

-- the recording of a rendition of a state has all of its lane
pub whole_of : (a : State) (r : ℕ) (l : Lane) (rec : RecordingData) → IsState a → slice_get (channel a).lanes r ≡ Some l → recording_of a r ≡ Some rec → IsWholeOf a r l rec
whole_of a r l rec state at found =
    let of = of_lane a r rec found in
    let same : of.its ≡ l = some_same of.its l (sym of.at ∙ at) in
    let beside = at_beside (channel a).lanes a.bytes r l state.counts_agree at in
    let held_is : held_bytes a r ≡ beside.0 = at_or a.bytes r no_bytes beside.0 beside.1 in
    let matches : MatchesBytes l beside.0 = state.fits r l beside.0 at beside.1 in
    let init : l.init ≡ Some rec.init = ap (λ (x : Lane). x.init) (sym same) ∙ of.begun in
    let parts : record { init = rec.init; head = (held_bytes a r).head; facts = l.facts; floor = l.floor; units = (held_bytes a r).units } ≡ rec =
    some_same _ _ (ap (λ (i : Option InitData). recorded_from i l (held_bytes a r)) (sym init) ∙ ap (λ (o : Option Lane). recorded_at o (held_bytes a r)) (sym at) ∙ found) in
    let facts : rec.facts ≡ l.facts = ap (λ (x : RecordingData). x.facts) (sym parts) in
    let floor : rec.floor ≡ l.floor = ap (λ (x : RecordingData). x.floor) (sym parts) in
    let units : length rec.units ≡ length (beside.0).units = ap (λ (x : RecordingData). length x.units) (sym parts) ∙ ap (λ (h : HeldBytes). length h.units) held_is in
    let long : length rec.facts ≡ length l.facts = ap length facts in
    record {
      init = init;
      size = matches.size ∙ ap (λ (h : HeldBytes). length h.head) (sym held_is) ∙ ap (λ (x : RecordingData). length x.head) parts;
      facts = facts;
      floor = floor;
      units = ap (λ (x : RecordingData). x.units) (sym parts);
      count = omega (arith, floor, units, long, matches.kept);
    }

-- the events of a recorded rendition make its lane from the cut on
begun_lane : (a : State) (r n : ℕ) (l : Lane) (rec : RecordingData) → IsState a → IsCutHere a r n l → recording_of a r ≡ Some rec
    → IsLaneFrom n l (lane_run r (media_from r (Some rec) n ++ end_of r (Some l.finished)) no_lane)
begun_lane a r n l rec state here found =
    let is = whole_of a r l rec state here.at found in
    let long : length rec.facts ≡ length l.facts = ap length is.facts in
    let kept = kept_units l.floor n rec is.floor is.count here.low in
    subst (λ (m : Lane). IsLaneFrom n l m) (sym (own_media r n rec l.finished kept (omega (arith, long, here.high))))
    (begins_again l rec n l.finished is.init is.facts is.size refl)

-- a rendition without a recording has no init section
not_begun : (i : Option InitData) (l : Lane) (h : HeldBytes) → recorded_from i l h ≡ None → i ≡ None
not_begun None l h none = refl
not_begun (Some init) l h none = absurd (cc)

-- a rendition that isn't recorded isn't finished
pub bare_of : (a : State) (r : ℕ) (l : Lane) → IsState a → slice_get (channel a).lanes r ≡ Some l → recording_of a r ≡ None → l.finished ≡ false
bare_of a r l state at found =
    let beside = at_beside (channel a).lanes a.bytes r l state.counts_agree at in
    let matches : MatchesBytes l beside.0 = state.fits r l beside.0 at beside.1 in
    let none : l.init ≡ None = not_begun l.init l (held_bytes a r) (ap (λ (o : Option Lane). recorded_at o (held_bytes a r)) (sym at) ∙ found) in
    (matches.none none).3

-- a rendition that isn't recorded has no events, and is a fresh lane before and after the renewal
bare_lane : (a : State) (r n : ℕ) (l : Lane) → IsState a → IsCutHere a r n l → recording_of a r ≡ None
    → IsLaneFrom n l (lane_run r (media_from r None n ++ end_of r (Some l.finished)) no_lane)
bare_lane a r n l state here found =
    let beside = at_beside (channel a).lanes a.bytes r l state.counts_agree here.at in
    let matches : MatchesBytes l beside.0 = state.fits r l beside.0 here.at beside.1 in
    let none : l.init ≡ None = not_begun l.init l (held_bytes a r) (ap (λ (o : Option Lane). recorded_at o (held_bytes a r)) (sym here.at) ∙ found) in
    let bare = matches.none none in
    let over : l.finished ≡ false = bare.3 in
    subst (λ (m : Lane). IsLaneFrom n l m) (sym (ap (λ (b : Bool). lane_run r (end_of r (Some b)) no_lane) over)) (record {
      init = sym none;
      size = sym bare.2;
      facts = sym (ap (λ fs. drop n fs) bare.0 ∙ drop-nil n);
      floor = refl;
      finished = sym over;
    })

-- the events of a rendition make its lane from the cut on, whether or not it is recorded
by_recording : (a : State) (r n : ℕ) (l : Lane) (o : Option RecordingData) → IsState a → IsCutHere a r n l → recording_of a r ≡ o
    → IsLaneFrom n l (lane_run r (media_from r o n ++ end_of r (Some l.finished)) no_lane)
by_recording a r n l None state here found = bare_lane a r n l state here found
by_recording a r n l (Some rec) state here found = begun_lane a r n l rec state here found

-- the events of a rendition from number n on make its lane from there on
pub one_lane : (a : State) (r n : ℕ) (l : Lane) → IsState a → IsCutHere a r n l → IsLaneFrom n l (lane_run r (rendition_from a r n) no_lane)
one_lane a r n l state here =
    let finished : finished_at a r ≡ Some l.finished = ap (λ (o : Option Lane). option_map (λ (x : Lane). x.finished) o) here.at in
    subst (λ (o : Option Bool). IsLaneFrom n l (lane_run r (media_from r (recording_of a r) n ++ end_of r o) no_lane)) (sym finished)
    (by_recording a r n l (recording_of a r) state here refl)

-- in each rendition, the unit number of a common place is at most the number of units
place_within : (s : State) (k : ℕ) (p : Place) → slice_get (places s) k ≡ Some p → IsWithin (sources s) p
place_within s k p at =
    let below = slice_get_within (places s) k p at in
    let here : IsWithin (sources s) (get_or (places s) k no_place) = places-within (sources s) k no_place below in
    let same : get_or (places s) k no_place ≡ p = let there = slice_get-get_or (places s) k no_place below in cc in
    subst (λ (q : Place). IsWithin (sources s) q) same here

-- the cut's unit number in a rendition is at most the number of its units
cut_within : (a : State) (cut : LineCut) (r : ℕ) (l : Lane) → IsLineCut a cut → slice_get (channel a).lanes r ≡ Some l → cut_unit cut.place r ≤ length l.facts
cut_within a cut r l is at =
    let within = front-holds (IsWithin (sources a)) (line_goal_of a.config) (places a) cut.segments cut.place (place_within a) (is.is_cut).front in
    let below : r < length (sources a) = omega (arith, sources_count a, slice_get_within (channel a).lanes r l at) in
    omega (arith, within.each r below, ap length (source_of a r l at).facts)

-- a cut has a spot in each rendition, between its floor and its end
pub spot_of_cut : (a : State) (cut : LineCut) (r : ℕ) (l : Lane) → IsState a → IsLineCut a cut → slice_get (channel a).lanes r ≡ Some l
    → (slice_get (cut.place).spots r ≡ Some (spot_in (cut.place).spots r)) × IsCutHere a r (cut_unit cut.place r) l
spot_of_cut a cut r l state is at =
    let stands = front-stands (line_goal_of a.config) (places a) cut.segments cut.place (is.is_cut).front in
    let count = spots-count a state stands.number cut.place stands.there in
    let within : r < length (floors a) = omega (arith, slice_get_within (channel a).lanes r l at, floors-count a, sources_count a) in
    let there : r < length (cut.place).spots = omega (arith, count, within) in
    let low = kept-parts (floors a) (cut.place).spots count is.kept r within in
    let floor : get_or (floors a) r 0 ≡ l.floor = get_or_from_slice_get (floors a) r l.floor 0 (at_map floor_of (channel a).lanes r l at) in
    let none : Spot = record { fragment = 0; prev_end = 0; start = 0; run_in = 0; run_out = 0 } in
    (slice_get-get_or (cut.place).spots r none there, record { at = at; low = omega (arith, low, floor); high = cut_within a cut r l is at })

-- no rendition has begun in the opening state
pub fresh_at : (a : State) (cut : LineCut) (r : ℕ) (l : Lane) → slice_get (channel a).lanes r ≡ Some l → slice_get (channel (renewal_start a cut)).lanes r ≡ Some no_lane
unfolding channel_from
fresh_at a cut r l at =
    let within : r < length a.config.renditions = omega (arith, slice_get_within (channel a).lanes r l at, lanes_count a.config a.log) in
    let there = some_at a.config.renditions r within in
    at_map fresh_lane a.config.renditions r there.0 there.1

-- each rendition of the renewed channel is the old one from the cut on
pub renewed_lane_at : (a b : State) (renews : Renews a b) → IsState a → (r : ℕ) (l m : Lane) → slice_get (channel a).lanes r ≡ Some l → slice_get (channel b).lanes r ≡ Some m
    → IsLaneFrom (cut_unit (renews.cut).place r) l m
renewed_lane_at a b renews state r l m at there =
    let cut = renews.cut in
    let start = renewal_start a cut in
    let is = is_line_cut a cut state renews.first in
    let spot = spot_of_cut a cut r l state is at in
    let fresh : slice_get (channel start).lanes r ≡ Some no_lane = fresh_at a cut r l at in
    let run = after_all start (renewal_events a cut) r no_lane renews.new fresh in
    let mine : lane_run r (renewal_events a cut) no_lane ≡ lane_run r (rendition_from a r (cut_unit cut.place r)) no_lane =
    renewal_run lane_after ignores a r ((line a).removed - cut.segments) (cut.place).spots (spot_in (cut.place).spots r) no_lane spot.0 in
    let same : lane_run r (rendition_from a r (cut_unit cut.place r)) no_lane ≡ m =
    some_same _ m (ap Some (sym mine) ∙ sym run ∙ ap (λ (x : State). slice_get (channel x).lanes r) (sym renews.is) ∙ there) in
    subst (λ (x : Lane). IsLaneFrom (cut_unit cut.place r) l x) same (one_lane a r (cut_unit cut.place r) l state spot.1)

-- a renewed channel continues the old one at the cut in each rendition, with the base of the cut and no lower version
pub renewed_channels_are_handed_over : (a b : State) (renews : Renews a b) → IsState a
    → IsHandedOver a b (renews.cut).segments (renews.cut).place × (b.config.base ≡ base_of_cut a (renews.cut).segments (renews.cut).place)
    × (a.config.base.version + length a.log ≤ b.config.base.version + length b.log)
renewed_channels_are_handed_over a b renews state =
    let cut = renews.cut in
    let start = renewal_start a cut in
    let is = is_line_cut a cut state renews.first in
    let version : b.config.base.version ≡ a.config.base.version + length a.log =
    ap (λ (x : State). x.config.base.version) renews.is ∙ ap (λ (c : ConfigData). c.base.version) (config_after_all start (renewal_events a cut)) in
    let config : b.config ≡ start.config = ap (λ (x : State). x.config) renews.is ∙ config_after_all start (renewal_events a cut) in (
      record {
        config = ap without_base config;
        is_cut = is.is_cut;
        each = λ r l m at there. inl (begins_from (cut_unit cut.place r) l m (renewed_lane_at a b renews state r l m at there));
      },
      ap (λ (c : ConfigData). c.base) config,
      omega (arith, version),
    )
