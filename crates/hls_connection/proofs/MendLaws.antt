-- What is submitted for the parts of a body whose units are mended.
use Rattle.std.proofs.Common.{true, false, ◌≡◌, ◌∙◌, ◌<◌, ◌≤◌, ◌+◌, ℕ, Some, None, Option, Result, Ok, Err, inl, inr, List, [], ◌∷◌, ◌++◌, All, length, get_or, take, refl, sym, subst, ap}
use Rattle.std.proofs.lemmas.{List.{take_all, take_more}, List.Elements.All-get_or}
use Rattle.hls_media_laws.specs.{InitData.InitData, declared.facts.Facts.Facts, declared.fault.MediaFault.MediaFault, IsInitOrUnit.{IsUnit}, UnitFacts.facts}
use Rattle.hls_core_laws.specs.{declared.event.Event.TheVariants.Accept, declared.refusal.Refusal.TheVariants.Overlap, Moves.IsFittingAsSeen, State.State}
use Rattle.hls_core.specs.declared.feed_fault.FeedFault.{FeedFault}
use Rattle.hls_core.specs.declared.feed_fault.StreamFault.{StreamFault}
use Rattle.hls_core.specs.declared.feed_fault.StreamFault.TheVariants.{AheadOfChannel, Media}
use Rattle.hls_mend_laws.specs.declared.settings.MendSettings.{MendSettings}
use Rattle.hls_mend.specs.{MendedUnits.mended_view, declared.mended.MendedUnit.MendedUnit, declared.mended.ReadUnit.ReadUnit}
use Rattle.hls_api.specs.declared.ingest.IngestCounts.{IngestCounts}
use Rattle.hls_api.specs.Acts.{Act, AtMostOne, IsLook, Knowledge, Looked, RecordsLook, RecordsSubmit}
use Rattle.hls_api.specs.Ingest.{ChoosesInit, FindsInit, HandlesPart, MaySubmit, MendsInit, MendsPart, Progress, RefusesUnitBefore, StopsBeforeUnit, SubmitsFiller, SubmitsFillers, with_mended}
use Rattle.hls_connection.{specs.IngestStates.{FindsInitOrFails, IsUsable}, proofs.PassLaws.{fits_unit, found_init}}
use Rattle.hls_connection.specs.MendingStates.{ChoosesInitOrFails, DecidesUnitOrFails, HasReadUnit, IsPrepared, MakesMended, PreparesOrStops, SubmitsFillerOrFails, SubmitsFillersOrFail, SubmitsMended, with_acts, with_counts}
use Rattle.hls_boxes.specs.declared.part.Part.TheVariants as parts
use Rattle.hls_core.specs.declared.feed_fault.FeedFault.TheVariants as feed_faults

-- ---- init sections

-- if no init section could be chosen, the part isn't taken, for lack of memory
pub fails_to_choose : (r : ℕ) (x y : Progress) (bytes : List ℕ) (fault : FeedFault) → ChoosesInitOrFails r x bytes y (Err fault) → MendsInit r x bytes y (Err fault)
fails_to_choose r x y bytes (feed_faults.Refused fault) fails = absurd fails
fails_to_choose r x y bytes feed_faults.Memory looks = (y.acts, looks, (y.acts, inl refl, inl refl))

-- if an init section was chosen and then handled as any other, the part was mended
pub mends_init : (r : ℕ) (x z y : Progress) (bytes chosen : List ℕ) (result : Result (Unit {0}) FeedFault) → z ≡ with_acts x z.acts → ChoosesInit r x bytes chosen z.acts
    → HandlesPart r z (parts.Init chosen) y result → MendsInit r x bytes y result
mends_init r x z y bytes chosen (Ok done) same chooses handles =
    (chosen, z.acts, chooses, subst (λ (p : Progress). HandlesPart r p (parts.Init chosen) y (Ok done)) same handles)
mends_init r x z y bytes chosen (Err (feed_faults.Refused fault)) same chooses handles =
    (chosen, z.acts, chooses, subst (λ (p : Progress). HandlesPart r p (parts.Init chosen) y (Err (feed_faults.Refused fault))) same handles)
mends_init r x z y bytes chosen (Err feed_faults.Memory) same chooses handles = (z.acts, inr (Looked chooses.state, tt, chooses.looks), handles)

-- ---- what is submitted for a unit

-- if no init section was found, the unit isn't submitted
pub stops_finding : (settings : MendSettings) (r : ℕ) (x y : Progress) (bytes : List ℕ) (fault : FeedFault) → FindsInitOrFails r x y (Err fault) → StopsBeforeUnit settings r x bytes y (Err fault)
stops_finding settings r x y bytes (feed_faults.Refused fault) (counts, is, early) = (subst (λ (f : StreamFault). RefusesUnitBefore settings r x bytes f y.acts) (sym is) early, counts)
stops_finding settings r x y bytes feed_faults.Memory looks = inl (y.acts, looks, (y.acts, inl refl, inl refl))

-- if the bytes are no valid unit under the init section that was found, the unit isn't submitted
pub stops_reading : (settings : MendSettings) (r : ℕ) (x y : Progress) (bytes : List ℕ) (init : InitData) (fault : MediaFault) → FindsInitOrFails r x y (Ok tt) → y.init ≡ Some init → facts init bytes ≡ Err fault
    → StopsBeforeUnit settings r x bytes y (Err (feed_faults.Refused (Media fault)))
stops_reading settings r x y bytes init fault found there unread = ((init, found_init r x y init found there, unread), found.0)

-- if the state was looked at and an allocation failed, nothing was decided
pub fails_to_decide : (settings : MendSettings) (r : ℕ) (x y : Progress) (u : ReadUnit) (s : State) (fault : FeedFault) → MakesMended settings r x.init s u (Err fault) → RecordsLook x.acts s y.acts
    → DecidesUnitOrFails settings r x u y (Err fault)
fails_to_decide settings r x y u s (feed_faults.Refused fault) fails looks = absurd fails
fails_to_decide settings r x y u s feed_faults.Memory fails looks = inr (Looked s, tt, looks)

-- if the state was looked at and the unit may be submitted, what is submitted is decided: what mending makes of the unit
pub decides_submit : (settings : MendSettings) (r : ℕ) (x y : Progress) (u : ReadUnit) (s : State) (looked : List Act) (m : MendedUnit) → RecordsLook x.acts s looked
    → MakesMended settings r x.init s u (Ok m) → MaySubmit settings r s u.facts looked y.acts true → y ≡ with_acts x y.acts → DecidesUnitOrFails settings r x u y (Ok m)
decides_submit settings r x y u s looked m looks makes may same = (same, λ init is. (s, looked, looks, may, makes init is))

-- if the state was looked at and the unit may not be submitted, it is refused as ahead of the channel
pub decides_refuse : (settings : MendSettings) (r : ℕ) (x y : Progress) (u : ReadUnit) (s : State) (looked : List Act) → RecordsLook x.acts s looked
    → MaySubmit settings r s u.facts looked y.acts false → y ≡ with_acts x y.acts → DecidesUnitOrFails settings r x u y (Err (feed_faults.Refused AheadOfChannel))
decides_refuse settings r x y u s looked looks may same = (refl, same, (s, looked, looks, may))

-- an init section is found with at most one look
found_looked : (r : ℕ) (x : Progress) (init : InitData) (z : List Act) → FindsInit r x init z → AtMostOne IsLook x.acts z
found_looked r x init z (inl same) = inl same.1
found_looked r x init z (inr looked) = inr (Looked looked.state, tt, looked.looks)

-- if the init section was found and the unit read, preparing the unit ends as the decision did: decided, refused or out of memory
pub prepared : (settings : MendSettings) (r : ℕ) (x z y : Progress) (bytes : List ℕ) (init : InitData) (f : Facts) (result : Result MendedUnit FeedFault) → FindsInitOrFails r x z (Ok tt)
    → z.init ≡ Some init → IsUnit init bytes f → DecidesUnitOrFails settings r z (record { facts = f; bytes = bytes }) y result → PreparesOrStops settings r x bytes y result
prepared settings r x z y bytes init f (Ok m) found there unit (same, decides) = record {
  init = init;
  is = ap (λ (p : Progress). p.init) same ∙ there;
  decided = record {
    looked = z.acts;
    finds = found_init r x z init found there;
    facts = f;
    reads = unit;
    decides = decides init there;
  };
  counts = ap (λ (p : Progress). p.counts) same ∙ found.0;
}
prepared settings r x z y bytes init f (Err (feed_faults.Refused fault)) found there unit (is, same, refuses) = (
  subst (λ (q : StreamFault). RefusesUnitBefore settings r x bytes q y.acts) (sym is) (record {
    init = init;
    looked = z.acts;
    finds = found_init r x z init found there;
    facts = f;
    reads = unit;
    refuses = refuses;
  }),
  ap (λ (p : Progress). p.counts) same ∙ found.0,
)
prepared settings r x z y bytes init f (Err feed_faults.Memory) found there unit looks = inl (z.acts, found_looked r x init z.acts (found_init r x z init found there), (y.acts, looks, inl refl))

-- a unit that was read under the init section that was found may be submitted to the state that was seen
pub fits_read_unit : (r : ℕ) (known : Knowledge) (found : Option InitData) (u : ReadUnit) → IsUsable r known found → HasReadUnit found u → IsFittingAsSeen known.seen (Accept r u.facts u.bytes)
fits_read_unit r known None u usable reads = absurd reads
fits_read_unit r known (Some init) u usable reads = fits_unit r known (Some init) init u.facts u.bytes usable refl reads

-- ---- fillers

-- two changes in a row of acts and counts alone are one such change
pub counts_on : (x z y : Progress) → z ≡ with_counts x z.counts z.acts → y ≡ with_counts z y.counts y.acts → y ≡ with_counts x y.counts y.acts
counts_on x z y first second = second ∙ ap (λ (p : Progress). with_counts p y.counts y.acts) first

-- fillers that were submitted, and one more after them, are fillers that were submitted
fillers_push : (r : ℕ) (us : List ReadUnit) (u : ReadUnit) (c counts more : IngestCounts) (before middle after : List Act) → SubmitsFillers r us c before counts middle
    → SubmitsFiller r u counts middle more after → SubmitsFillers r (us ++ u ∷ []) c before more after
fillers_push r [] u c counts more before middle after (same, counted) one =
    (more, after, subst (λ (k : IngestCounts). SubmitsFiller r u k before more after) counted (subst (λ (acts : List Act). SubmitsFiller r u counts acts more after) same one), (refl, refl))
fillers_push r (v ∷ vs) u c counts more before middle after (some, acts, first, others) one =
    (some, acts, first, fillers_push r vs u some counts more acts middle after others one)

-- if the first n fillers of a list were submitted, and then the next one, the first n + 1 were
pub fillers_more : (r : ℕ) (us : List ReadUnit) (n : ℕ) (u : ReadUnit) (c counts more : IngestCounts) (before middle after : List Act) → n < length us → u ≡ get_or us n u
    → SubmitsFillers r (take n us) c before counts middle → SubmitsFiller r u counts middle more after → SubmitsFillers r (take (n + 1) us) c before more after
fillers_more r us n u c counts more before middle after small is some one =
    subst (λ (vs : List ReadUnit). SubmitsFillers r vs c before more after) (sym (take_more us n u small))
    (subst (λ (v : ReadUnit). SubmitsFillers r (take n us ++ v ∷ []) c before more after) is (fillers_push r (take n us) u c counts more before middle after some one))

-- each filler of a list that was read under an init section was read under it
pub read_filler : (found later : Option InitData) (us : List ReadUnit) (n : ℕ) (u : ReadUnit) → later ≡ found → n < length us → u ≡ get_or us n u → All (HasReadUnit found) us → HasReadUnit later u
read_filler found later us n u same small is all =
    subst (λ (i : Option InitData). HasReadUnit i u) (sym same) (subst (HasReadUnit found) (sym is) (All-get_or (HasReadUnit found) us n u small all))

-- if an allocation failed in a filler after the first n, it failed in the fillers
pub stops_in_fillers : (r : ℕ) (x z y : Progress) (us : List ReadUnit) (n : ℕ) (u : ReadUnit) (fault : FeedFault) → SubmitsFillers r (take n us) x.counts x.acts z.counts z.acts
    → SubmitsFillerOrFails r z u y (Err fault) → SubmitsFillersOrFail r x us y (Err fault)
stops_in_fillers r x z y us n u (feed_faults.Refused fault) some fails = absurd fails
stops_in_fillers r x z y us n u feed_faults.Memory some fails = record { count = n; filled = z.counts; before = z.acts; fills = some; failed = fails }

-- if a filler overlaps after the first n were submitted, the fillers stop at an overlap
pub stops_at_overlap : (r : ℕ) (x z y : Progress) (us : List ReadUnit) (n : ℕ) (u : ReadUnit) → n < length us → u ≡ get_or us n u → z ≡ with_counts x z.counts z.acts
    → SubmitsFillers r (take n us) x.counts x.acts z.counts z.acts → SubmitsFillerOrFails r z u y (Ok false) → SubmitsFillersOrFail r x us y (Ok false)
stops_at_overlap r x z y us n u small is same some (only, overlaps) =
    let counts : y.counts ≡ z.counts = ap (λ (p : Progress). p.counts) only in (
      only ∙ ap (λ (p : Progress). with_acts p y.acts) same ∙ ap (λ (c : IngestCounts). with_counts x c y.acts) (sym counts),
      record {
        count = n;
        within = small;
        filler = u;
        filler_is = is;
        before = z.acts;
        fills = subst (λ (c : IngestCounts). SubmitsFillers r (take n us) x.counts x.acts c z.acts) (sym counts) some;
        overlaps = overlaps;
      },
    )

-- if the first n fillers were submitted and there are no more, all were
pub fills_all : (r : ℕ) (x y : Progress) (us : List ReadUnit) (n : ℕ) → length us ≤ n → y ≡ with_counts x y.counts y.acts → SubmitsFillers r (take n us) x.counts x.acts y.counts y.acts
    → SubmitsFillersOrFail r x us y (Ok true)
fills_all r x y us n all same some = (same, subst (λ (vs : List ReadUnit). SubmitsFillers r vs x.counts x.acts y.counts y.acts) (take_all n us all) some)

-- ---- units

-- if the preparation of a unit stopped, the part is refused or failed
pub stops_preparing : (settings : MendSettings) (r : ℕ) (x y : Progress) (bytes : List ℕ) (fault : FeedFault) → PreparesOrStops settings r x bytes y (Err fault) → MendsPart settings r x (parts.Unit bytes) y (Err fault)
stops_preparing settings r x y bytes fault stops = inr (inr stops)

-- if an allocation failed in the fillers of a prepared unit, the part failed for lack of memory
stops_filling : (settings : MendSettings) (r : ℕ) (x z y : Progress) (bytes : List ℕ) (m : MendedUnit) (fault : FeedFault) → IsPrepared settings r x bytes z m
    → SubmitsFillersOrFail r z m.fillers.items y (Err fault) → MendsPart settings r x (parts.Unit bytes) y (Err fault)
stops_filling settings r x z y bytes m (feed_faults.Refused fault) p fails = absurd fails
stops_filling settings r x z y bytes m feed_faults.Memory p fails = inr (inr (inr (record {
  init = p.init;
  mended = mended_view m;
  seen = z.acts;
  decided = p.decided;
  count = fails.count;
  filled = fails.filled;
  before = fails.before;
  fills = subst (λ (c : IngestCounts). SubmitsFillers r (take fails.count m.fillers.items) c z.acts fails.filled fails.before) p.counts fails.fills;
  failed = fails.failed;
})))

-- the same for fillers that are those of the prepared unit
pub stops_filling_of : (settings : MendSettings) (r : ℕ) (x z y : Progress) (bytes : List ℕ) (m : MendedUnit) (us : List ReadUnit) (fault : FeedFault) → IsPrepared settings r x bytes z m
    → us ≡ m.fillers.items → SubmitsFillersOrFail r z us y (Err fault) → MendsPart settings r x (parts.Unit bytes) y (Err fault)
stops_filling_of settings r x z y bytes m us fault p same fails =
    stops_filling settings r x z y bytes m fault p (subst (λ (vs : List ReadUnit). SubmitsFillersOrFail r z vs y (Err fault)) same fails)

-- if a filler of a prepared unit overlaps, the unit is left out and the body continues
pub is_overtaken : (settings : MendSettings) (r : ℕ) (x z w y : Progress) (bytes : List ℕ) (m : MendedUnit) → IsPrepared settings r x bytes z m
    → SubmitsFillersOrFail r z m.fillers.items w (Ok false) → y.acts ≡ w.acts → y.counts ≡ with_mended false (Err Overlap) w.counts → y.init ≡ w.init
    → MendsPart settings r x (parts.Unit bytes) y (Ok tt)
is_overtaken settings r x z w y bytes m p (same, stops) acts counts init = inr (inl (record {
  init = p.init;
  mended = mended_view m;
  seen = z.acts;
  decided = p.decided;
  count = stops.count;
  within = stops.within;
  filler = stops.filler;
  filler_is = stops.filler_is;
  filled = w.counts;
  before = stops.before;
  fills = subst (λ (c : IngestCounts). SubmitsFillers r (take stops.count m.fillers.items) c z.acts w.counts stops.before) p.counts stops.fills;
  overlaps = subst (λ (after : List Act). RecordsSubmit stops.before (Accept r stops.filler.facts stops.filler.bytes) (Err Overlap) after) (sym acts) stops.overlaps;
  counts = counts;
  kept = init ∙ ap (λ (q : Progress). q.init) same ∙ p.is;
  result_is = refl;
}))

-- if the fillers of a prepared unit were submitted and then the unit, the part was mended
pub mends_unit : (settings : MendSettings) (r : ℕ) (x z w y : Progress) (bytes : List ℕ) (m : MendedUnit) (result : Result (Unit {0}) FeedFault) → IsPrepared settings r x bytes z m
    → SubmitsFillersOrFail r z m.fillers.items w (Ok true) → SubmitsMended r w m.unit m.is_changed y result → MendsPart settings r x (parts.Unit bytes) y result
mends_unit settings r x z w y bytes m result p (same, fills) s = inl (record {
  init = p.init;
  mended = mended_view m;
  seen = z.acts;
  decided = p.decided;
  filled = w.counts;
  before = w.acts;
  fills = subst (λ (c : IngestCounts). SubmitsFillers r m.fillers.items c z.acts w.counts w.acts) p.counts fills;
  answer = s.answer;
  submits = s.submits;
  counts = s.counts;
  kept = s.kept ∙ ap (λ (q : Progress). q.init) same ∙ p.is;
  result_is = s.result_is;
})
