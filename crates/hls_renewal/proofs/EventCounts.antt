-- A renewal has at most as many events as the old log has entries.
use Rattle.std.proofs.Common.{◌≡◌, ◌∙◌, ℕ, zero, suc, ◌+◌, ◌-◌, ◌<◌, ◌≤◌, Bool, true, false, Option, Some, None, List, [], ◌∷◌, ◌++◌, length, map, refl, sym, ap, arith, length-append}
use Rattle.std.specs.Prelude.{option_map, slice_get, slice_index_or, slice_set}
use Rattle.std.specs.List.{sum_by}
use Rattle.std.proofs.lemmas.List.Sums.{sum_by-cons}
use Rattle.hls_check_tables.specs.declared.spot.Spot.{Spot}
use Rattle.hls_media_laws.specs.InitData.{InitData}
use Rattle.hls_media_laws.specs.declared.facts.Facts.{Facts}
use Rattle.hls_record.specs.RecordingData.{RecordingData, unit_at}
use Rattle.hls_core_laws.specs.declared.event.Entry.{Entry}
use Rattle.hls_core_laws.specs.declared.event.Event.{Event}
use Rattle.hls_core_laws.specs.declared.event.LoggedEvent.{LoggedEvent}
use Rattle.hls_core_laws.specs.declared.event.LoggedEvent.TheVariants.{Begun, Accepted, Finished, Slid, Trimmed}
use Rattle.hls_core_laws.specs.declared.rendition.Rendition.{Rendition}
use Rattle.hls_core_laws.specs.Channel.{Channel, Lane, channel_after, channel_from, first_channel, fresh_lane, lane, no_lane, with_begin, with_facts, with_finish, with_floor}
use Rattle.hls_core_laws.specs.State.{State, channel}
use Rattle.hls_core_laws.specs.IsState.{IsState}
use Rattle.hls_core_laws.specs.Line.{line}
use Rattle.hls_core_laws.specs.Outcome.{held_bytes}
use Rattle.hls_core.specs.Getters.{finished_at, recorded_at, recording_of}
use Rattle.hls_renewal.specs.declared.line_cut.LineCut.{LineCut}
use Rattle.hls_renewal.specs.Renewals.{end_of, media_from, rendition_from, renditions_from, renewal_events, slide_by, units_from, with_unit}
use Rattle.hls_renewal.proofs.RenewedLanes.{whole_of}

-- ---- the entries that a channel needs at least

-- the entries that a rendition's beginning needs: one if it has begun, else none
abbrev begun_count : Option InitData → ℕ
begun_count None = 0
begun_count (Some init) = 1

-- the entries that a rendition's end needs: one if it is finished, else none
abbrev ended_count : Bool → ℕ
ended_count true = 1
ended_count false = 0

-- the entries that a rendition needs: one for its init section, one for each unit, and one for its end
abbrev entries_of : Lane → ℕ
entries_of l = begun_count l.init + length l.facts + ended_count l.finished

-- the entries that n removed segments need: one slide, or none if n is 0
abbrev slid_count : ℕ → ℕ
slid_count zero = 0
slid_count (suc n) = 1

-- the least number of entries with which a log can have a channel's renditions and removed segments
abbrev needed : Channel → ℕ
needed ch = sum_by entries_of ch.lanes + slid_count ch.removed

-- a lane that needs at most one entry more than the one that it replaces raises the sum by at most 1
set_count : (xs : List Lane) (r : ℕ) (y : Lane) → entries_of y ≤ entries_of (slice_index_or xs r no_lane) + 1 → sum_by entries_of (slice_set xs r y) ≤ sum_by entries_of xs + 1
set_count [] r y more = omega arith
set_count (x ∷ xs) zero y more = omega (arith, more, sum_by-cons entries_of x xs, sum_by-cons entries_of y xs)
set_count (x ∷ xs) (suc r) y more = omega (arith, set_count xs r y more, sum_by-cons entries_of x xs, sum_by-cons entries_of x (slice_set xs r y))

-- removed segments need at most one entry
slid_small : (n : ℕ) → slid_count n ≤ 1
slid_small zero = omega arith
slid_small (suc n) = omega arith

-- if segments were removed, they need one entry
slid_some : (n : ℕ) → 0 < n → slid_count n ≡ 1
slid_some zero some = absurd (omega (arith, some))
slid_some (suc n) some = refl

-- a rendition's beginning needs at most one entry
begun_small : (o : Option InitData) → begun_count o ≤ 1
begun_small None = omega arith
begun_small (Some init) = omega arith

-- a rendition's end needs at most one entry
ended_small : (b : Bool) → ended_count b ≤ 1
ended_small true = omega arith
ended_small false = omega arith

-- an event raises the number of needed entries by at most 1
needed_after : (e : LoggedEvent) (ch : Channel) → needed (channel_after e ch) ≤ needed ch + 1
needed_after (Begun r init len) ch = omega (arith, set_count ch.lanes r (with_begin init len (lane ch r)) (omega arith))
needed_after (Accepted r f) ch = omega (arith, set_count ch.lanes r (with_facts f (lane ch r)) (omega (arith, length-append (lane ch r).facts (f ∷ []))))
needed_after (Finished r) ch = omega (arith, set_count ch.lanes r (with_finish (lane ch r)) (omega arith))
needed_after (Slid n) ch = omega (arith, slid_small (ch.removed + n))
needed_after (Trimmed r floor) ch = omega (arith, set_count ch.lanes r (with_floor floor (lane ch r)) (omega arith))

-- a log raises the number of needed entries by at most its length
needed_from : (ch : Channel) (log : List Entry) → needed (channel_from ch log) ≤ needed ch + length log
unfolding channel_from
needed_from ch [] = omega arith
needed_from ch (e ∷ log) = omega (arith, needed_from (channel_after e.event ch) log, needed_after e.event ch)

-- renditions that haven't begun need no entries
none_needed : (xs : List Rendition) → sum_by entries_of (map fresh_lane xs) ≡ 0
none_needed [] = refl
none_needed (x ∷ xs) = omega (arith, none_needed xs, sum_by-cons entries_of no_lane (map fresh_lane xs))

-- a state's log has at least the entries that its channel needs
needed_of : (s : State) → needed (channel s) ≤ length s.log
needed_of s = omega (arith, needed_from (first_channel s.config) s.log, none_needed s.config.renditions)

-- ---- the events of a renewal

-- a unit adds at most one event to those of the units after it
unit_count : (r : ℕ) (f : Option Facts) (unit : Option (List ℕ)) (more : List (ℕ × Event)) (n : ℕ) → length more ≤ n → length (with_unit r f unit more) ≤ suc n
unit_count r None unit more n few = omega arith
unit_count r (Some f) None more n few = omega arith
unit_count r (Some f) (Some unit) more n few = omega (arith, few)

-- a run of `count` units makes at most `count` events
units_count : (r : ℕ) (rec : RecordingData) (n count : ℕ) → length (units_from r rec n count) ≤ count
units_count r rec n zero = omega arith
units_count r rec n (suc count) = unit_count r (slice_get rec.facts n) (unit_at rec n) (units_from r rec (suc n) count) count (units_count r rec (suc n) count)

-- the end of a rendition makes one event if it is finished, else none
end_count : (r : ℕ) (b : Bool) → length (end_of r (Some b)) ≡ ended_count b
end_count r true = refl
end_count r false = refl

-- the init section and the units of a rendition make at most one event each, whether or not it is recorded
by_recording : (a : State) (r n : ℕ) (l : Lane) (o : Option RecordingData) → IsState a → slice_get (channel a).lanes r ≡ Some l → recording_of a r ≡ o
    → length (media_from r o n) ≤ begun_count l.init + length l.facts
by_recording a r n l None state at found = omega arith
by_recording a r n l (Some rec) state at found =
    let is = whole_of a r l rec state at found in
    omega (arith, ap begun_count is.init, ap length is.facts, units_count r rec n (length rec.facts - n))

-- a renewal has at most as many events of a rendition as the rendition needs entries
rendition_count : (a : State) (r n : ℕ) (l : Lane) → IsState a → slice_get (channel a).lanes r ≡ Some l → length (rendition_from a r n) ≤ entries_of l
rendition_count a r n l state at =
    let finished : finished_at a r ≡ Some l.finished = ap (λ (o : Option Lane). option_map (λ (x : Lane). x.finished) o) at in
    omega (
      arith,
      length-append (media_from r (recording_of a r) n) (end_of r (finished_at a r)),
      ap (λ o. length (end_of r o)) finished,
      end_count r l.finished,
      by_recording a r n l (recording_of a r) state at refl,
    )

-- a renewal has no events of a rendition that the channel doesn't have
no_events : (a : State) (r n : ℕ) → slice_get (channel a).lanes r ≡ None → length (rendition_from a r n) ≡ 0
no_events a r n at =
    let unknown : recording_of a r ≡ None = ap (λ (x : Option Lane). recorded_at x (held_bytes a r)) at in
    let never : finished_at a r ≡ None = ap (λ (x : Option Lane). option_map (λ (y : Lane). y.finished) x) at in
    ap (λ x. length (media_from r x n ++ end_of r (finished_at a r))) unknown ∙ ap (λ x. length (end_of r x)) never

-- `ls` are the channel's lanes from number r on
abbrev AreFrom : State → ℕ → List Lane → Type 0
AreFrom a r ls = (k : ℕ) → slice_get ls k ≡ slice_get (channel a).lanes (r + k)

-- without the first, the lanes from number r on are those from r + 1 on
next_from : (a : State) (r : ℕ) (l : Lane) (ls : List Lane) → AreFrom a r (l ∷ ls) → AreFrom a (suc r) ls
next_from a r l ls are k =
    let number : r + suc k ≡ suc r + k = omega arith in
    are (suc k) ∙ ap (λ q. slice_get (channel a).lanes q) number

-- if there are no lanes from number r on, there are none from r + 1 on
none_from : (a : State) (r : ℕ) → AreFrom a r [] → AreFrom a (suc r) []
none_from a r are k =
    let number : r + suc k ≡ suc r + k = omega arith in
    are (suc k) ∙ ap (λ q. slice_get (channel a).lanes q) number

-- the first of the lanes from number r on is lane r
first_from : (a : State) (r : ℕ) (ls : List Lane) → AreFrom a r ls → slice_get (channel a).lanes r ≡ slice_get ls 0
first_from a r ls are =
    let number : r + 0 ≡ r = omega arith in
    ap (λ q. slice_get (channel a).lanes q) (sym number) ∙ sym (are 0)

-- the renditions from number r on make at most as many events as their lanes need entries
renditions_count : (a : State) (r : ℕ) (spots : List Spot) (ls : List Lane) → IsState a → AreFrom a r ls → length (renditions_from a r spots) ≤ sum_by entries_of ls
renditions_count a r [] ls state are = omega arith
renditions_count a r (spot ∷ spots) [] state are =
    omega (
      arith,
      length-append (rendition_from a r spot.fragment) (renditions_from a (suc r) spots),
      no_events a r spot.fragment (first_from a r [] are),
      renditions_count a (suc r) spots [] state (none_from a r are),
    )
renditions_count a r (spot ∷ spots) (l ∷ ls) state are =
    omega (
      arith,
      length-append (rendition_from a r spot.fragment) (renditions_from a (suc r) spots),
      rendition_count a r spot.fragment l state (first_from a r (l ∷ ls) are),
      renditions_count a (suc r) spots ls state (next_from a r l ls are),
      sum_by-cons entries_of l ls,
    )

-- a slide by at most the removed segments makes at most as many events as these need entries
slide_count : (n removed : ℕ) → n ≤ removed → length (slide_by n) ≤ slid_count removed
slide_count zero removed few = omega arith
slide_count (suc n) removed few = omega (arith, slid_some removed (omega (arith, few)))

-- all lanes of a channel are those from number 0 on
lanes_from : (a : State) → AreFrom a 0 (channel a).lanes
lanes_from a k = let number : 0 + k ≡ k = omega arith in ap (λ q. slice_get (channel a).lanes q) (sym number)

-- a renewal has at most as many events as the old log has entries
pub renewal_count : (a : State) (cut : LineCut) → IsState a → length (renewal_events a cut) ≤ length a.log
renewal_count a cut state =
    omega (
      arith,
      length-append (renditions_from a 0 (cut.place).spots) (slide_by ((line a).removed - cut.segments)),
      renditions_count a 0 (cut.place).spots (channel a).lanes state (lanes_from a),
      slide_count ((line a).removed - cut.segments) (line a).removed (omega arith),
      needed_of a,
    )
