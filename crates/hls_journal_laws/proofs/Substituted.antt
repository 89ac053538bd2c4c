-- The events that are restored from the records of what came replace what came.
use Rattle.std.proofs.Common.{◌≡◌, ◌∙◌, ℕ, ◌+◌, ◌-◌, ◌<◌, ◌≤◌, List, [], ◌∷◌, ◌++◌, length, replicate, Some, refl, sym, ap, subst, inl, inr, arith, length-append}
use Rattle.std.specs.Prelude.{◌⊎◌, Result, Ok, Err, slice_get}
use Rattle.std.proofs.lemmas.List.{length-replicate}
use Rattle.hls_media_laws.specs.InitData.{InitData}
use Rattle.hls_media_laws.specs.Inits.{init_of}
use Rattle.hls_media_laws.specs.UnitFacts.{facts}
use Rattle.hls_media_laws.specs.declared.facts.Facts.{Facts}
use Rattle.hls_core_laws.specs.declared.event.Entry.{Entry}
use Rattle.hls_core_laws.specs.declared.event.Event.{Event}
use Rattle.hls_core_laws.specs.declared.event.Event.TheVariants.{Begin, Accept, Finish, Slide, Trim}
use Rattle.hls_core_laws.specs.declared.event.LoggedEvent.TheVariants.{Accepted}
use Rattle.hls_core_laws.specs.Config.{ConfigData, IsConfig}
use Rattle.hls_core_laws.specs.Channel.{Channel, Lane, lane, lane_len, channel_of}
use Rattle.hls_core_laws.specs.State.{State, channel}
use Rattle.hls_core_laws.specs.IsState.{IsState}
use Rattle.hls_core_laws.specs.Outcome.{New, outcome_of}
use Rattle.hls_core_laws.specs.Moves.{logged_event, entry_of, state_with_entry, IsFitting}
use Rattle.hls_core_laws.specs.Runs.{first_state, state_by_outcome, next_state, replayed_state, AreFitting}
use Rattle.hls_core_laws.proofs.Callers.{may_add, first_is_state, next_is_state}
use Rattle.hls_journal_laws.proofs.Facts.{heads-determine-facts}
use Rattle.hls_journal_laws.specs.Replays.{AreNew}
use Rattle.hls_journal_laws.specs.Substitutes.{Replaces, AreSubstitutes}
use Rattle.hls_journal_laws.proofs.Outcomes.{entry_alike}
use Rattle.hls_journal_laws.proofs.Replayed.{substitutes-replay-alike}
use Rattle.hls_journal_laws.specs.declared.stored_media.StoredMedia.{StoredMedia}
use Rattle.hls_journal_laws.specs.Bodies.{kind_in, worker_in, unit_head_in, unit_len_in, IsAside}
use Rattle.hls_journal_laws.specs.Restored.{IsRecordOf, IsStored, IsStoredUnit, IsNextUnit, Recalls, Restores}
use Rattle.hls_journal_laws.specs.Written.{IsUnitRecord, IsWritten, KeepsUnit, AreWritten}
use Rattle.hls_journal_laws.specs.Laws.{RestoredIsReplayed}

-- the kind of an event's record
kind_of : Event → ℕ
kind_of (Begin r init bytes) = 1
kind_of (Accept r f bytes) = 2
kind_of (Finish r) = 3
kind_of (Slide count) = 4
kind_of (Trim r floor) = 5

-- the kind of an event's record is below 6
kind_small : (x : Event) → kind_of x < 6
unfolding kind_of
kind_small (Begin r init bytes) = omega arith
kind_small (Accept r f bytes) = omega arith
kind_small (Finish r) = omega arith
kind_small (Slide count) = omega arith
kind_small (Trim r floor) = omega arith

-- a record that is of an event has the event's kind
record_kind : (floors : ℕ → ℕ) (media : List StoredMedia) (s : State) (body : List ℕ) (x : Event) → IsRecordOf floors media s body x → kind_in body ≡ kind_of x
unfolding kind_of
record_kind floors media s body (Begin r init bytes) of = of.0
record_kind floors media s body (Accept r f bytes) of = of.0
record_kind floors media s body (Finish r) of = of.0
record_kind floors media s body (Slide count) of = of.0
record_kind floors media s body (Trim r floor) of = of.0

-- the record that is written of an event has the event's kind
written_kind : (s : State) (body : List ℕ) (x : Event) → IsWritten s body x → kind_in body ≡ kind_of x
unfolding kind_of
written_kind s body (Begin r init bytes) written = written.0
written_kind s body (Accept r f bytes) written = written.0
written_kind s body (Finish r) written = written.0
written_kind s body (Slide count) written = written.0
written_kind s body (Trim r floor) written = written.0

-- a result has only one value
same_ok : {A E : Type 0} → (o : Result A E) (x y : A) → o ≡ Ok x → o ≡ Ok y → y ≡ x
same_ok {A = A} {E = E} o x y one other = let both : Ok y ≡ Ok x = sym other ∙ one in cc

-- what replaces a trimmed unit has the unit's facts
trimmed_facts : (init : InitData) (at : ℕ) (bytes body others : List ℕ) → IsUnitRecord at bytes body → others ≡ unit_head_in body ++ replicate (unit_len_in body - length (unit_head_in body)) 0
    → facts init others ≡ facts init bytes
trimmed_facts init at bytes body others written is =
    let rest_len : unit_len_in body - length (unit_head_in body) ≡ length written.rest =
    omega (arith, written.len, ap length written.split, length-append (unit_head_in body) written.rest) in
    let long : length (replicate (unit_len_in body - length (unit_head_in body)) 0) ≡ length written.rest =
    length-replicate (unit_len_in body - length (unit_head_in body)) 0 ∙ rest_len in
    ap (λ b. facts init b) is
    ∙ heads-determine-facts init (unit_head_in body) written.rest (replicate (unit_len_in body - length (unit_head_in body)) 0) written.head long
    ∙ ap (λ b. facts init b) (sym written.split)

-- what the media have of a unit from the floor on are the unit's bytes
stored_is : (floors : ℕ → ℕ) (media : List StoredMedia) (s t : State) (body : List ℕ) (r q : ℕ) (f : Facts) (bytes others : List ℕ) → channel t ≡ channel s → q ≡ r
    → IsUnitRecord (lane_len (lane (channel s) r)) bytes body → KeepsUnit floors media s (Accept r f bytes)
    → floors q ≤ length (lane (channel t) q).facts → IsStoredUnit media q (lane_len (lane (channel t) q)) body others → others ≡ bytes
stored_is floors media s t body r q f bytes others same at written keeps high stored =
    let above : floors r ≤ length (lane (channel s) r).facts =
    subst (λ (c : Channel). floors r ≤ length (lane c r).facts) same (subst (λ (k : ℕ). floors k ≤ length (lane (channel t) k).facts) at high) in
    let place : lane_len (lane (channel t) q) ≡ lane_len (lane (channel s) r) = ap (λ (k : ℕ). lane_len (lane (channel t) k)) at ∙ ap (λ (c : Channel). lane_len (lane c r)) same in
    let there : slice_get media r ≡ Some stored.0 = ap (λ k. slice_get media k) (sym at) ∙ stored.1 in
    let found : IsStored stored.0 (lane_len (lane (channel s) r)) (length bytes) others =
    subst (λ (k : ℕ). IsStored stored.0 k (length bytes) others) place (subst (λ (n : ℕ). IsStored stored.0 (lane_len (lane (channel t) q)) n others) written.len stored.2) in
    keeps stored.0 others above there found

-- the facts of a unit are those of what is restored from its record
same_facts : (floors : ℕ → ℕ) (media : List StoredMedia) (s t : State) (body : List ℕ) (r q : ℕ) (f : Facts) (bytes others : List ℕ) (init : InitData) → channel t ≡ channel s → q ≡ r
    → IsUnitRecord (lane_len (lane (channel s) r)) bytes body → KeepsUnit floors media s (Accept r f bytes) → IsNextUnit floors media t q body others
    → facts init others ≡ facts init bytes
same_facts floors media s t body r q f bytes others init same at written keeps (inl below) = trimmed_facts init (lane_len (lane (channel s) r)) bytes body others written (below.1).is
same_facts floors media s t body r q f bytes others init same at written keeps (inr stored) =
    ap (λ b. facts init b) (stored_is floors media s t body r q f bytes others same at written keeps stored.0 stored.1)

-- what is restored from a unit's record replaces the unit: it is the same, or one below the floor that is logged as the same event
unit_replaced : (floors : ℕ → ℕ) (media : List StoredMedia) (s t : State) (body : List ℕ) (r q : ℕ) (f g : Facts) (bytes others : List ℕ) → channel t ≡ channel s → q ≡ r → g ≡ f
    → IsUnitRecord (lane_len (lane (channel s) r)) bytes body → KeepsUnit floors media s (Accept r f bytes) → IsNextUnit floors media t q body others
    → Replaces floors s (Accept r f bytes) (Accept q g others)
unit_replaced floors media s t body r q f g bytes others same at facts_are written keeps (inl below) =
    let low : length (lane (channel s) r).facts < floors r =
    subst (λ (c : Channel). length (lane c r).facts < floors r) same (subst (λ (k : ℕ). length (lane (channel t) k).facts < floors k) at below.0) in
    inr ((λ i. Accepted (at i) (facts_are i)), low)
unit_replaced floors media s t body r q f g bytes others same at facts_are written keeps (inr stored) =
    let bytes_are = stored_is floors media s t body r q f bytes others same at written keeps stored.0 stored.1 in
    inl (λ k. Accept (at k) (facts_are k) (bytes_are k))

-- what is restored from the record of an event replaces the event
replaced : (floors : ℕ → ℕ) (media : List StoredMedia) (s t : State) (body : List ℕ) (x y : Event) → channel t ≡ channel s → IsFitting s x → outcome_of s x ≡ New → IsWritten s body x → KeepsUnit floors media s x
    → IsRecordOf floors media t body y → IsFitting t y → Replaces floors s x y
unfolding kind_of
replaced floors media s t body (Begin r init bytes) (Begin q other others) same fits new written keeps of fit =
    let at : q ≡ r = of.1 ∙ written.1 in
    let bytes_are : others ≡ bytes = of.2 ∙ written.2 in
    let inits : other ≡ init = same_ok (init_of bytes) init other fits (ap (λ b. init_of b) (sym bytes_are) ∙ fit) in
    inl (λ k. Begin (at k) (inits k) (bytes_are k))
replaced floors media s t body (Accept r f bytes) (Accept q g others) same fits new written keeps of fit =
    let at : q ≡ r = of.1 ∙ written.1 in
    let a = may_add s (Accept r f bytes) fits new in
    let there : slice_get (channel t).lanes q ≡ Some a.lane = ap (λ (c : Channel). slice_get c.lanes q) same ∙ ap (λ k. slice_get (channel s).lanes k) at ∙ a.at in
    let read : facts a.init bytes ≡ Ok f = fits a.lane a.init a.at a.begun in
    let again : facts a.init others ≡ Ok g = fit a.lane a.init there a.begun in
    let facts_are : g ≡ f = same_ok (facts a.init bytes) f g read (sym (same_facts floors media s t body r q f bytes others a.init same at written.2 keeps of.2) ∙ again) in
    unit_replaced floors media s t body r q f g bytes others same at facts_are written.2 keeps of.2
replaced floors media s t body (Finish r) (Finish q) same fits new written keeps of fit =
    let at : q ≡ r = of.1 ∙ written.1 in
    inl (ap Finish at)
replaced floors media s t body (Slide n) (Slide m) same fits new written keeps of fit =
    let to : m ≡ n = of.1 ∙ written.1 in
    inl (ap Slide to)
replaced floors media s t body (Trim r n) (Trim q m) same fits new written keeps of fit =
    let at : q ≡ r = of.1 ∙ written.1 in
    let to : m ≡ n = of.2 ∙ written.2 in
    inl (λ k. Trim (at k) (to k))
replaced floors media s t body x y same fits new written keeps of fit = absurd (omega (arith, record_kind floors media t body y of, written_kind s body x written))

-- an event and the one that replaces it are logged as the same event
logged_alike : (floors : ℕ → ℕ) (s : State) (x y : Event) → Replaces floors s x y → logged_event y ≡ logged_event x
logged_alike floors s x y (inl same) = ap logged_event same
logged_alike floors s x y (inr other) = other.0

-- after a new event, the next state has its entry
next_new : (s : State) (by : ℕ) (event : Event) → outcome_of s event ≡ New → next_state s by event ≡ state_with_entry s by event
next_new s by event new = ap (λ o. state_by_outcome o (state_with_entry s by event) s) new

-- a state is the replay of new events that replace those that came
record IsRestoredBy (floors : ℕ → ℕ) (s t : State) (past : List (ℕ × Event)) (b : State) : Type 0 where
  others : List (ℕ × Event)
  substitutes : AreSubstitutes floors s past others
  new : AreNew t others
  is : b ≡ replayed_state t others

-- if a state is the replay of what replaces later events, it is that of what replaces an event and then those
restored_cons : (floors : ℕ → ℕ) (s t : State) (by : ℕ) (x y : Event) (past : List (ℕ × Event)) (b : State) → outcome_of t y ≡ New → Replaces floors s x y
    → IsRestoredBy floors (next_state s by x) (state_with_entry t by y) past b → IsRestoredBy floors s t ((by, x) ∷ past) b
restored_cons floors s t by x y past b new replaces rest =
    let next : state_with_entry t by y ≡ next_state t by y = sym (next_new t by y new) in
    record {
      others = (by, y) ∷ rest.others;
      substitutes = (refl, replaces, rest.substitutes);
      new = (new, subst (λ (z : State). AreNew z rest.others) next rest.new);
      is = rest.is ∙ ap (λ (z : State). replayed_state z rest.others) next;
    }

-- a record that is of an event isn't one of no event
no_aside : (floors : ℕ → ℕ) (media : List StoredMedia) (t : State) (body : List ℕ) (x : Event) → IsRecordOf floors media t body x → IsAside body → ⊥
no_aside floors media t body x of aside = omega (arith, record_kind floors media t body x of, kind_small x, aside.0)

-- a record that is written of an event isn't one of no event
no_aside_written : (s : State) (body : List ℕ) (x : Event) → IsWritten s body x → IsAside body → ⊥
no_aside_written s body x written aside = omega (arith, written_kind s body x written, kind_small x, aside.0)

-- what the records of new events restore is the replay of new events that replace them
restored_by : (floors : ℕ → ℕ) (media : List StoredMedia) (s t : State) (bodies : List (List ℕ)) (past : List (ℕ × Event)) (b : State) → t.config ≡ s.config → t.log ≡ s.log → IsState s
    → AreFitting s past → AreNew s past → AreWritten floors media s bodies past → Restores floors media t bodies b → IsRestoredBy floors s t past b
restored_by floors media s t [] [] b config log state fits new written restores = record { others = []; substitutes = tt; new = tt; is = restores }
restored_by floors media s t [] (e ∷ es) b config log state fits new written restores = absurd written
restored_by floors media s t (body ∷ bodies) [] b config log state fits new written (inl aside) = restored_by floors media s t bodies [] b config log state fits new written.1 aside.1
restored_by floors media s t (body ∷ bodies) [] b config log state fits new written (inr restores) =
    absurd (no_aside floors media t body restores.1.event restores.1.of written.0)
restored_by floors media s t (body ∷ bodies) (e ∷ es) b config log state fits new (inl skipped) (inl aside) = restored_by floors media s t bodies (e ∷ es) b config log state fits new skipped.1 aside.1
restored_by floors media s t (body ∷ bodies) (e ∷ es) b config log state fits new (inl skipped) (inr restores) =
    absurd (no_aside floors media t body restores.1.event restores.1.of skipped.0)
restored_by floors media s t (body ∷ bodies) (e ∷ es) b config log state fits new (inr written) (inl aside) = absurd (no_aside_written s body e.1 written.1 aside.0)
restored_by floors media s t (body ∷ bodies) (e ∷ es) b config log state fits new (inr written) (inr restores) =
    let r = restores.1 in
    let same : channel t ≡ channel s = λ k. channel_of (config k) (log k) in
    let replaces : Replaces floors s e.1 restores.1.event = replaced floors media s t body e.1 restores.1.event same fits.0 new.0 written.1 written.2 restores.1.of restores.1.fits in
    let worker : worker_in body ≡ e.0 = written.0 in
    let next : restores.0 ≡ state_with_entry t e.0 restores.1.event = restores.1.is ∙ ap (λ k. state_with_entry t k restores.1.event) worker in
    let next_s : next_state s e.0 e.1 ≡ state_with_entry s e.0 e.1 = next_new s e.0 e.1 new.0 in
    let configs : (state_with_entry t e.0 restores.1.event).config ≡ (next_state s e.0 e.1).config = config ∙ sym (ap (λ (z : State). z.config) next_s) in
    let logs : (state_with_entry t e.0 restores.1.event).log ≡ (next_state s e.0 e.1).log =
    ap (λ es. es ++ entry_of e.0 restores.1.event ∷ []) log
    ∙ ap (λ (x : Entry). s.log ++ x ∷ []) (entry_alike e.0 e.0 e.1 restores.1.event refl (logged_alike floors s e.1 restores.1.event replaces))
    ∙ sym (ap (λ (z : State). z.log) next_s) in
    let rest = restored_by floors media (next_state s e.0 e.1) (state_with_entry t e.0 restores.1.event) bodies es b configs logs (next_is_state s e.0 e.1 state fits.0) fits.1 new.1 written.3
    (subst (λ (z : State). Restores floors media z bodies b) next restores.2) in
    restored_cons floors s t e.0 e.1 restores.1.event es b restores.1.new replaces rest

-- the records of the events that came restore the state that the events lead to, if no floor is above the one in that state
pub restored-is-replayed : RestoredIsReplayed
restored-is-replayed config floors media bodies past s configured fits new written restores low =
    let by = restored_by floors media (first_state config) (first_state config) bodies past s refl refl (first_is_state config configured) fits new written restores in
    by.is ∙ (substitutes-replay-alike config floors past by.others configured fits new by.substitutes low).1
