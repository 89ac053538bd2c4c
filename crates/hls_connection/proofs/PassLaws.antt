-- What a keeper has seen, from one act to the next, and the result of its acts.
use Rattle.std.specs.{Global.Global, declared.sync.Arc.Arc}
use Rattle.std.proofs.Common.{◌≡◌, ℕ, Some, Option, IfOk, Result, Ok, Err, inl, inr, List, [], ◌∷◌, ◌++◌, refl, sym, subst, ap, ◌∙◌, append_assoc}
use Rattle.hls_core_laws.specs.{declared.event.Event.Event, declared.event.Event.TheVariants.Accept, declared.event.Event.TheVariants.Begin, declared.refusal.Refusal.Refusal}
use Rattle.hls_core_laws.{specs.{State.State, IsState.IsState, Moves.IsFittingAsSeen, Follows.Follows}, proofs.Callers.inits_stay}
use Rattle.hls_media_laws.specs.{InitData.InitData, declared.facts.Facts.Facts, IsInitOrUnit.IsInit, IsInitOrUnit.IsUnit}
use Rattle.hls_api.specs.Acts.{Act, ActsExtend, Knowledge, IsActStep, Looked, LookFailed, LooksAndFailsToSubmit, RecordsLookResult, Meets, Submitted, RecordsSubmit, view_of}
use Rattle.hls_api.{specs.{OtherActors.{MayBecome, OtherActors}, Ingest.{Progress, FindsInit, HandlesPart}}, proofs.Callers.acted_follows}
use Rattle.hls_connection.specs.{IngestStates.FindsInitOrFails, IngestStates.IsUsable, IngestStates.feed_fault_of}
use Rattle.hls_core_laws.specs.PassView as calls
use Rattle.hls_core_laws.specs.declared.refusal.Refusal.TheVariants as refusals
use Rattle.hls_boxes.specs.declared.part.Part.TheVariants as parts

-- ---- what acts lead to

-- the init section that was found is still the rendition's in a valid state that follows
pub usable_after : (r : ℕ) (a b : Knowledge) (found : Option InitData) → IsState b.seen → Follows a.seen b.seen → IsUsable r a found → IsUsable r b found
usable_after r a b found valid follows usable = record {
  valid = valid;
  has = λ init is. let has = usable.has init is in let w = inits_stay a.seen b.seen follows r has.lane init has.at has.init_is in record { lane = w.0; at = w.1; init_is = w.2 };
}

-- the init section that was found is still the rendition's after further acts
pub usable_acted : (m : OtherActors) (r : ℕ) (a b : Knowledge) (before after : List Act) (found : Option InitData) → ActsExtend m a before b after → IsUsable r a found → IsUsable r b found
usable_acted m r a b before after found acted usable =
    let w = acted_follows m a b before after usable.valid acted in usable_after r a b found w.0 w.1.follows usable

-- one step with one act extends the acts
pub acted_one : (m : OtherActors) (a b : Knowledge) (before after : List Act) (act : Act) → IsActStep a act b → Meets m a act b → after ≡ before ++ act ∷ [] → ActsExtend m a before b after
acted_one m a b before after act act_steps meets is = (act ∷ [], is, (b, act_steps, meets, refl))

-- a look, whether it returned a state or failed, extends the acts
pub acted_looked : {E : Type 0} (m : OtherActors) (a b : Knowledge) (before after : List Act) (shown : Result (Arc State Global) E) → calls.MaySeeLater (view_of a) (view_of b)
    → IfOk shown (λ s. calls.Looks (view_of a) s.value (view_of b)) → MayBecome m a.seen b.seen → RecordsLookResult a.acts shown b.acts → RecordsLookResult before shown after → ActsExtend m a before b after
acted_looked m a b before after (Ok s) looked looks between asked is = acted_one m a b before after (Looked s.value) (record { asked = asked; does = looks }) between is
acted_looked m a b before after (Err e) looked looks between asked is = acted_one m a b before after LookFailed (record { asked = asked; does = looked }) between is

-- ---- parts

-- a unit that was read under the rendition's init section may be submitted to the state that was seen
pub fits_unit : (r : ℕ) (known : Knowledge) (found : Option InitData) (init : InitData) (f : Facts) (bytes : List ℕ) → IsUsable r known found → found ≡ Some init → IsUnit init bytes f
    → IsFittingAsSeen known.seen (Accept r f bytes)
fits_unit r known found init f bytes usable is unit = let has = usable.has init is in (has.lane, init, has.at, has.init_is, unit)

-- after the init section was found, an event that failed for lack of memory makes at most one look and one failed event
unit_wanted : (r : ℕ) (x : Progress) (init : InitData) (z y : List Act) (event : Event) → FindsInit r x init z → RecordsSubmit z event (Err refusals.Memory) y → LooksAndFailsToSubmit x.acts y
unit_wanted r x init z y event (inl same) s = (z, inl same.1, inr (Submitted event (Err refusals.Memory), tt, s))
unit_wanted r x init z y event (inr found) s = (z, inr (Looked found.state, tt, found.looks), inr (Submitted event (Err refusals.Memory), tt, s))

-- if the event of an init section is refused or fails for lack of memory, the part is refused or fails with the same fault
pub init_refused : (r : ℕ) (x y : Progress) (bytes : List ℕ) (init : InitData) (q : Refusal) → IsInit bytes init → y.counts ≡ x.counts → RecordsSubmit x.acts (Begin r init bytes) (Err q) y.acts
    → HandlesPart r x (parts.Init bytes) y (Err (feed_fault_of q))
init_refused r x y bytes init refusals.Memory is counts s = (x.acts, inl refl, inr (Submitted (Begin r init bytes) (Err refusals.Memory), tt, s))
init_refused r x y bytes init q is counts s = ((λ e. cc, (init, is, s)), counts)

-- the init section that is kept after finding one is the one that was found
pub found_init : (r : ℕ) (x y : Progress) (init : InitData) → FindsInitOrFails r x y (Ok tt) → y.init ≡ Some init → FindsInit r x init y.acts
found_init r x y init (counts, (i, is, finds)) there = let same : i ≡ init = cc (is, there) in subst (λ (j : InitData). FindsInit r x j y.acts) same finds

-- if the event of a unit is refused or fails for lack of memory, the part is refused or fails with the same fault
pub unit_refused : (r : ℕ) (x z y : Progress) (bytes : List ℕ) (init : InitData) (f : Facts) (q : Refusal) → FindsInitOrFails r x z (Ok tt) → z.init ≡ Some init → IsUnit init bytes f
    → y.counts ≡ z.counts → RecordsSubmit z.acts (Accept r f bytes) (Err q) y.acts → HandlesPart r x (parts.Unit bytes) y (Err (feed_fault_of q))
unit_refused r x z y bytes init f refusals.Memory found there is counts s = unit_wanted r x init z.acts y.acts (Accept r f bytes) (found_init r x z init found there) s
unit_refused r x z y bytes init f q found there is counts s =
    (inr (record { init = init; looked = z.acts; finds = found_init r x z init found there; facts = f; reads = is; not_memory = λ e. cc; submits = s }), counts ∙ found.0)

-- acts that extend a list of acts extend it also after any acts before it
pub acted_behind : (m : OtherActors) (front : List Act) (a b : Knowledge) (before : List Act) {after all : List Act} → all ≡ front ++ after → ActsExtend m a before b after → ActsExtend m a (front ++ before) b all
acted_behind m front a b before is (acts, grown, chain) = (acts, is ∙ ap (λ (t : List Act). front ++ t) grown ∙ sym (append_assoc front before acts), chain)
