-- What survives a crash is restored.
use Rattle.std.proofs.Common.{◌≡◌, ◌∙◌, ℕ, zero, suc, ◌+◌, ◌<◌, ◌≤◌, Bool, true, false, List, [], ◌∷◌, ◌++◌, length, take, drop, refl, sym, ap, subst, inl, inr, arith}
use Rattle.std.specs.Prelude.{◌⊎◌, nat_le, ◌&&◌}
use Rattle.std.proofs.lemmas.Bool.{le-leb, lt-leb}
use Rattle.std.proofs.lemmas.List.Elements.{All-take}
use Rattle.hls_journal_log.specs.declared.ending.Ending.{Ending}
use Rattle.hls_journal_log.specs.Records.{AreWithinLimit, body_limit}
use Rattle.hls_journal_log.specs.Crashes.{SurvivorsAreRead}
use Rattle.hls_core_laws.specs.declared.event.Event.{Event}
use Rattle.hls_core_laws.specs.declared.event.Event.TheVariants.{Begin, Accept, Finish, Slide, Trim}
use Rattle.hls_core_laws.specs.Config.{ConfigData}
use Rattle.hls_core_laws.specs.State.{State}
use Rattle.hls_core_laws.specs.Runs.{first_state, next_state, AreFitting}
use Rattle.hls_journal_laws.specs.Replays.{AreNew}
use Rattle.hls_journal_laws.specs.declared.stored_media.StoredMedia.{StoredMedia}
use Rattle.hls_journal_laws.specs.Bodies.{kind_in, IsAside}
use Rattle.hls_journal_laws.specs.Floors.{highest_floor}
use Rattle.hls_journal_laws.specs.Written.{IsWritten, AreWritten}
use Rattle.hls_journal_laws.specs.Durable.{AreRecords, KeepUnits, IsJournal, AreFound, is_aside, counted, count_events, DurableEventsAreRestored}
use Rattle.hls_journal_laws.proofs.Floors.{trimmed-floors-are-reached}
use Rattle.hls_journal_laws.proofs.Prefixes.{fitting_prefix}
use Rattle.hls_journal_laws.proofs.Substituted.{restored-is-replayed}

-- a record of no event doesn't raise the count of events
aside_counted : (body : List ℕ) (n : ℕ) → IsAside body → counted (is_aside body) n ≡ n
aside_counted body n aside =
    ap (λ b. counted (b && nat_le (kind_in body) 8) n) (le-leb 6 (kind_in body) aside.0) ∙ ap (λ b. counted b n) (le-leb (kind_in body) 8 aside.1)

-- a record of a kind below 6 raises the count by 1
low_kind : (body : List ℕ) (kind n : ℕ) → kind_in body ≡ kind → kind < 6 → counted (is_aside body) n ≡ suc n
low_kind body kind n is low =
    ap (λ b. counted (b && nat_le (kind_in body) 8) n) (lt-leb 6 (kind_in body) (omega (arith, is, low)))

-- the record of an event raises the count by 1
event_counted : (s : State) (body : List ℕ) (e : Event) (n : ℕ) → IsWritten s body e → counted (is_aside body) n ≡ suc n
event_counted s body (Begin r init bytes) n is = low_kind body 1 n is.0 (omega arith)
event_counted s body (Accept r f bytes) n is = low_kind body 2 n is.0 (omega arith)
event_counted s body (Finish r) n is = low_kind body 3 n is.0 (omega arith)
event_counted s body (Slide count) n is = low_kind body 4 n is.0 (omega arith)
event_counted s body (Trim r floor) n is = low_kind body 5 n is.0 (omega arith)

-- the first n of no events are no events
take_none : (n : ℕ) (es : List (ℕ × Event)) → es ≡ [] → take n es ≡ es
take_none zero es is = sym is
take_none (suc n) [] is = refl
take_none (suc n) (e ∷ es) is = absurd (cc)

-- with a record of no event before them, the records are still of the same events
aside_first : (s : State) (body : List ℕ) (bodies : List (List ℕ)) (events : List (ℕ × Event)) → IsAside body → AreRecords s bodies events → AreRecords s (body ∷ bodies) events
aside_first s body bodies [] aside is = (aside, is)
aside_first s body bodies (e ∷ es) aside is = inl (aside, is)

-- a prefix of the records is of the events that it counts
records_prefix : (s : State) (bodies : List (List ℕ)) (events : List (ℕ × Event)) (m : ℕ) → AreRecords s bodies events → AreRecords s (take m bodies) (take (count_events (take m bodies)) events)
records_prefix s bodies events zero is = tt
records_prefix s [] [] (suc m) is = tt
records_prefix s [] (e ∷ es) (suc m) is = absurd is
records_prefix s (body ∷ bodies) [] (suc m) is =
    subst (λ (es : List (ℕ × Event)). AreRecords s (body ∷ take m bodies) es) (sym (take_none (count_events (body ∷ take m bodies)) [] refl))
    (is.0, subst (λ (es : List (ℕ × Event)). AreRecords s (take m bodies) es) (take_none (count_events (take m bodies)) [] refl) (records_prefix s bodies [] m is.1))
records_prefix s (body ∷ bodies) (e ∷ es) (suc m) (inl is) =
    subst (λ (n : ℕ). AreRecords s (body ∷ take m bodies) (take n (e ∷ es))) (sym (aside_counted body (count_events (take m bodies)) is.0))
    (aside_first s body (take m bodies) (take (count_events (take m bodies)) (e ∷ es)) is.0 (records_prefix s bodies (e ∷ es) m is.1))
records_prefix s (body ∷ bodies) (e ∷ es) (suc m) (inr is) =
    subst (λ (n : ℕ). AreRecords s (body ∷ take m bodies) (take n (e ∷ es))) (sym (event_counted s body e.1 (count_events (take m bodies)) is.1))
    (inr (is.0, is.1, records_prefix (next_state s e.0 e.1) bodies es m is.2))

-- records of events whose units are stored are those events' records with their media
written_from : (floors : ℕ → ℕ) (media : List StoredMedia) (s : State) (bodies : List (List ℕ)) (events : List (ℕ × Event)) → AreRecords s bodies events → KeepUnits floors media s events → AreWritten floors media s bodies events
written_from floors media s [] [] is kept = tt
written_from floors media s [] (e ∷ es) is kept = absurd is
written_from floors media s (body ∷ bodies) [] is kept = (is.0, written_from floors media s bodies [] is.1 kept)
written_from floors media s (body ∷ bodies) (e ∷ es) (inl is) kept = inl (is.0, written_from floors media s bodies (e ∷ es) is.1 kept)
written_from floors media s (body ∷ bodies) (e ∷ es) (inr is) kept =
    inr (is.0, is.1, kept.0, written_from floors media (next_state s e.0 e.1) bodies es is.2 kept.1)

-- if each event is new, so is each of the first k
new_prefix : (s : State) (past : List (ℕ × Event)) (k : ℕ) → AreNew s past → AreNew s (take k past)
new_prefix s past zero new = tt
new_prefix s [] (suc k) new = tt
new_prefix s (e ∷ es) (suc k) new = (new.0, new_prefix (next_state s e.0 e.1) es k new.1)

-- if one count of events is at most another, it still is when the same record is counted with both
counted_more : (b : Bool) (m n : ℕ) → m ≤ n → counted b m ≤ counted b n
counted_more true m n le = le
counted_more false m n le = omega (arith, le)

-- more records count at least as many events
count_more : (bodies more : List (List ℕ)) → count_events bodies ≤ count_events (bodies ++ more)
count_more [] more = omega arith
count_more (body ∷ bodies) more = counted_more (is_aside body) (count_events bodies) (count_events (bodies ++ more)) (count_more bodies more)

-- the body of a record is within the limit of its length
WithinLimit : List ℕ → Type 0
WithinLimit body = length body ≤ body_limit

-- if all bodies are within the limit, so are the first n
small_take : (bodies : List (List ℕ)) (n : ℕ) → AreWithinLimit bodies → AreWithinLimit (take n bodies)
unfolding WithinLimit
small_take bodies n small = All-take WithinLimit n bodies small

-- without the channel's record, what was found is a prefix of the records that were written
found_records : (channel : List ℕ) (records found : List (List ℕ)) → found ≡ take (length found) (channel ∷ records) → (m : ℕ) × (drop 1 found ≡ take m records)
found_records channel records [] is = (0, refl)
found_records channel records (f ∷ found) is = (length found, ap (λ xs. drop 1 xs) is)

-- what is read after a crash restores the state after a prefix of the events, at least after those whose records survived
pub durable-events-are-restored : (outcomes : List ℕ → Type 0) → SurvivorsAreRead outcomes → DurableEventsAreRestored outcomes
durable-events-are-restored outcomes survivors config media channel records found past durable c ending s journal survive outcome reads among restores =
    let kept = survivors (channel ∷ take durable records) c found ending (small_take (channel ∷ records) (suc durable) journal.small) survive outcome reads in
    let rest : drop 1 found ≡ take durable records ++ kept.0 = ap (λ xs. drop 1 xs) kept.1 in
    let some = found_records channel records found among.prefix in
    let of : AreRecords (first_state config) (drop 1 found) (take (count_events (drop 1 found)) past) =
    subst (λ (bodies : List (List ℕ)). AreRecords (first_state config) bodies (take (count_events bodies) past)) (sym some.1)
    (records_prefix (first_state config) records past some.0 journal.written) in
    let front : AreFitting (first_state config) (take (count_events (drop 1 found)) past) = fitting_prefix (first_state config) past (count_events (drop 1 found)) journal.fits in
    let new = new_prefix (first_state config) past (count_events (drop 1 found)) journal.new in
    let written = written_from (highest_floor (drop 1 found)) media (first_state config) (drop 1 found) (take (count_events (drop 1 found)) past) of among.stored in
    let reached = trimmed-floors-are-reached config (highest_floor (drop 1 found)) media (drop 1 found) (take (count_events (drop 1 found)) past) journal.configured front new written in (
      subst (λ (n : List (List ℕ)). count_events (take durable records) ≤ count_events n) (sym rest) (count_more (take durable records) kept.0),
      restored-is-replayed config (highest_floor (drop 1 found)) media (drop 1 found) (take (count_events (drop 1 found)) past) s journal.configured front new written restores reached,
    )
