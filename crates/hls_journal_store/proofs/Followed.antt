-- What a follower writes, step by step.
use Rattle.std.proofs.Common.{◌≡◌, ◌∙◌, ℕ, suc, ◌+◌, List, [], ◌∷◌, ◌++◌, length, take, drop, refl, sym, ap, subst, inl, inr, arith, append_assoc, length-append}
use Rattle.std.proofs.lemmas.List.{drop-drop, append-nil}
use Rattle.std.proofs.Math.Seq.{take-add}
use Rattle.hls_core_laws.specs.declared.event.Entry.{Entry}
use Rattle.hls_core_laws.specs.State.{State}
use Rattle.hls_journal_log.specs.Records.{log_bytes, record_bytes}
use Rattle.hls_journal_log.specs.SyncPoints.{sync_point_body}
use Rattle.hls_journal_log.specs.Crashes.{Survive}
use Rattle.hls_journal_store.specs.declared.batch.Batch.{Batch}
use Rattle.hls_journal_store.specs.declared.batch.MediaWrite.{MediaWrite}
use Rattle.hls_journal_store.specs.declared.batch.Position.{Position}
use Rattle.hls_journal_store.specs.Batches.{counted, AreLogged, IsBatch}
use Rattle.hls_journal_store.specs.Followed.{AreAsides, AreFollowed, Leads, Adds, AddsAfterAsides, Grows, AreDurable, IsDurable}

-- the records of a batch are the records of its entries
logged_followed : (s : State) (counts : List ℕ) (es : List Entry) (bodies : List (List ℕ)) (writes : List MediaWrite) (after : List ℕ) → AreLogged s counts es bodies writes after → AreFollowed s counts es bodies after
logged_followed s counts [] bodies writes after logged = subst (λ (bs : List (List ℕ)). AreFollowed s counts [] bs after) (sym logged.0) (refl, logged.2)
logged_followed s counts (e ∷ es) bodies writes after logged =
    subst (λ (bs : List (List ℕ)). AreFollowed s counts (e ∷ es) bs after) (sym logged.4)
    (inr (e, es, logged.2, refl, logged.6, logged_followed s (counted counts e.event) es logged.1 logged.3 after logged.7))

-- the records of some entries and those of the next ones are the records of all of them
followed_append : (s : State) (counts : List ℕ) (es : List Entry) (bs : List (List ℕ)) (mid : List ℕ) (fs : List Entry) (ds : List (List ℕ)) (after : List ℕ) → AreFollowed s counts es bs mid
    → AreFollowed s mid fs ds after → AreFollowed s counts (es ++ fs) (bs ++ ds) after
followed_append s counts es [] mid fs ds after first rest =
    subst (λ (xs : List Entry). AreFollowed s counts (xs ++ fs) ds after) (sym first.0) (subst (λ (cs : List ℕ). AreFollowed s cs fs ds after) first.1 rest)
followed_append s counts es (b ∷ bs) mid fs ds after (inl aside) rest = inl (aside.0, followed_append s counts es bs mid fs ds after aside.1 rest)
followed_append s counts es (b ∷ bs) mid fs ds after (inr one) rest =
    inr (one.0, one.1 ++ fs, one.2, ap (λ (xs : List Entry). xs ++ fs) one.3, one.4, followed_append s (counted counts one.0.event) one.1 bs mid fs ds after one.5 rest)

-- records of no event are the records of no entries
followed_asides : (s : State) (counts : List ℕ) (asides : List (List ℕ)) → AreAsides asides → AreFollowed s counts [] asides counts
followed_asides s counts [] aside = (refl, refl)
followed_asides s counts (b ∷ bs) aside = inl (aside.0, followed_asides s counts bs aside.1)

-- the records of a batch lead from the position before it to its own
leads_batch : (s : State) (from : Position) (batch : Batch) → IsBatch s from batch → Leads s from batch.position batch.bodies.items
leads_batch s from batch is =
    record {
      count = is.count;
      version = is.version;
      followed = logged_followed s from.counts.items (take is.count (drop from.version s.log)) batch.bodies.items batch.writes.items batch.position.counts.items is.logged;
    }

-- records that lead from a to b and others that lead from b to c lead from a to c together
leads_more : (s : State) (a b c : Position) (xs ys : List (List ℕ)) → Leads s a b xs → Leads s b c ys → Leads s a c (xs ++ ys)
leads_more s a b c xs ys first rest =
    let there : drop b.version s.log ≡ drop first.count (drop a.version s.log) = ap (λ (n : ℕ). drop n s.log) first.version ∙ sym (drop-drop first.count a.version s.log) in
    let both : take first.count (drop a.version s.log) ++ take rest.count (drop b.version s.log) ≡ take (first.count + rest.count) (drop a.version s.log) =
    ap (λ (es : List Entry). take first.count (drop a.version s.log) ++ take rest.count es) there ∙ sym (take-add first.count rest.count (drop a.version s.log)) in
    record {
      count = first.count + rest.count;
      version = omega (arith, first.version, rest.version);
      followed = subst (λ (es : List Entry). AreFollowed s a.counts.items es (xs ++ ys) c.counts.items) both
          (followed_append s a.counts.items (take first.count (drop a.version s.log)) xs b.counts.items (take rest.count (drop b.version s.log)) ys c.counts.items first.followed rest.followed);
    }

-- records of no event lead from a position to itself
leads_asides : (s : State) (a : Position) (asides : List (List ℕ)) → AreAsides asides → Leads s a a asides
leads_asides s a asides aside = record { count = 0; version = omega arith; followed = followed_asides s a.counts.items asides aside }

-- the records of a batch, after records of no event, lead to the batch's position, too
leads_batch_after : (s : State) (from : Position) (batch : Batch) (asides : List (List ℕ)) → AreAsides asides → IsBatch s from batch → Leads s from batch.position (asides ++ batch.bodies.items)
leads_batch_after s from batch asides aside is =
    leads_more s from from batch.position asides batch.bodies.items (leads_asides s from asides aside) (leads_batch s from batch is)

-- the bytes of records and later ones are those of the first, and those of the others from the next number on
log_append : (number : ℕ) (xs ys : List (List ℕ)) → log_bytes number (xs ++ ys) ≡ log_bytes number xs ++ log_bytes (number + length xs) ys
log_append number [] ys =
    let same : number ≡ number + 0 = omega arith in
    ap (λ (k : ℕ). log_bytes k ys) same
log_append number (x ∷ xs) ys =
    let count : suc number + length xs ≡ number + length (x ∷ xs) = omega arith in
    ap (λ (t : List ℕ). record_bytes number x ++ t) (log_append (suc number) xs ys ∙ ap (λ (k : ℕ). log_bytes (suc number) xs ++ log_bytes k ys) count)
    ∙ sym (append_assoc (record_bytes number x) (log_bytes (suc number) xs) (log_bytes (number + length (x ∷ xs)) ys))

-- the bytes of records and of later ones are as many as those of the first and of the others, added up
log_length : (number : ℕ) (xs ys : List (List ℕ)) → length (log_bytes number (xs ++ ys)) ≡ length (log_bytes number xs) + length (log_bytes (number + length xs) ys)
log_length number xs ys = ap length (log_append number xs ys) ∙ length-append (log_bytes number xs) (log_bytes (number + length xs) ys)

-- a log with no more records is as it was
pub adds_nothing : (next end : ℕ) (seen : List ℕ) → Adds [] next next end end seen seen
adds_nothing next end seen = record { number = omega arith; place = omega arith; bytes = λ long. sym (append-nil seen) }

-- if a log first has some records more and then others, it has all of them more
pub adds_more : (xs ys : List (List ℕ)) (n n1 n2 e e1 e2 : ℕ) (before between behind : List ℕ) → Adds xs n n1 e e1 before between → Adds ys n1 n2 e1 e2 between behind → Adds (xs ++ ys) n n2 e e2 before behind
adds_more xs ys n n1 n2 e e1 e2 before between behind first rest =
    let own : log_bytes n1 ys ≡ log_bytes (n + length xs) ys = ap (λ (k : ℕ). log_bytes k ys) first.number in
    record {
      number = omega (arith, first.number, rest.number, length-append xs ys);
      place = omega (arith, first.place, rest.place, ap length own, log_length n xs ys);
      bytes = λ long.
          let one : between ≡ before ++ log_bytes n xs = first.bytes long in
          let mid : length between ≡ e1 = omega (arith, long, first.place, ap length one, length-append before (log_bytes n xs)) in
          rest.bytes mid ∙ ap (λ (t : List ℕ). between ++ t) own ∙ ap (λ (t : List ℕ). t ++ log_bytes (n + length xs) ys) one
          ∙ append_assoc before (log_bytes n xs) (log_bytes (n + length xs) ys) ∙ ap (λ (t : List ℕ). before ++ t) (sym (log_append n xs ys));
    }

-- if a log has only these records more, it has them after no records of no event
pub adds_these : (records : List (List ℕ)) (n n1 e e1 : ℕ) (before behind : List ℕ) → Adds records n n1 e e1 before behind → AddsAfterAsides records n n1 e e1 before behind
adds_these records n n1 e e1 before behind adds = record { asides = []; aside = tt; adds = adds }

-- a log that is as it was has no more records of any kind
pub no_asides : (n e : ℕ) (seen : List ℕ) → AddsAfterAsides [] n n e e seen seen
no_asides n e seen = adds_these [] n n e e seen seen (adds_nothing n e seen)

-- a log with a sync point more has a record of no event more
pub adds_point : (n n1 e e1 synced : ℕ) (before behind : List ℕ) → n1 ≡ n + 1 → e1 ≡ e + length (record_bytes n (sync_point_body n synced))
    → (length before ≡ e → behind ≡ before ++ record_bytes n (sync_point_body n synced)) → AddsAfterAsides [] n n1 e e1 before behind
adds_point n n1 e e1 synced before behind number place bytes =
    let one : log_bytes n (sync_point_body n synced ∷ []) ≡ record_bytes n (sync_point_body n synced) = append-nil (record_bytes n (sync_point_body n synced)) in
    record {
      asides = sync_point_body n synced ∷ [];
      aside = ((omega arith, omega arith), tt);
      adds = record {
        number = number;
        place = omega (arith, place, ap length one);
        bytes = λ long. bytes long ∙ ap (λ (t : List ℕ). before ++ t) (sym one);
      };
    }

-- if a log first has records of no event more and then others, it has these after records of no event
pub adds_after : (records : List (List ℕ)) (n n1 n2 e e1 e2 : ℕ) (before between behind : List ℕ) → AddsAfterAsides [] n n1 e e1 before between → Adds records n1 n2 e1 e2 between behind
    → AddsAfterAsides records n n2 e e2 before behind
adds_after records n n1 n2 e e1 e2 before between behind first rest =
    let only : first.asides ++ [] ≡ first.asides = append-nil first.asides in
    record {
      asides = first.asides;
      aside = first.aside;
      adds = adds_more first.asides records n n1 n2 e e1 e2 before between behind (subst (λ (xs : List (List ℕ)). Adds xs n n1 e e1 before between) only first.adds) rest;
    }

-- a log of records that has more of them is the log of all of them
log_is : (n e : ℕ) (before after : List ℕ) (old records : List (List ℕ)) → before ≡ log_bytes 0 old → n ≡ length old → e ≡ length (log_bytes 0 old) → (length before ≡ e → after ≡ before ++ log_bytes n records)
    → after ≡ log_bytes 0 (old ++ records)
log_is n e before after old records seen number end bytes =
    let start : n ≡ 0 + length old = omega (arith, number) in
    bytes (ap length seen ∙ sym end) ∙ ap (λ (t : List ℕ). t ++ log_bytes n records) seen ∙ ap (λ (k : ℕ). log_bytes 0 old ++ log_bytes k records) start ∙ sym (log_append 0 old records)

-- the end of such a log is that of the earlier records, and the length of the others
log_end : (n e : ℕ) (old records : List (List ℕ)) → n ≡ length old → e ≡ length (log_bytes 0 old) → length (log_bytes 0 (old ++ records)) ≡ e + length (log_bytes n records)
log_end n e old records number end =
    let start : n ≡ 0 + length old = omega (arith, number) in
    let own = ap (λ (k : ℕ). length (log_bytes k records)) start in
    omega (arith, log_length 0 old records, own, end)

-- if a log has these records more, and after a sync a crash leaves all its records, they are durable
pub synced_durable : (records : List (List ℕ)) (n n1 e e1 : ℕ) (before after : List ℕ) (outcomes : List ℕ → Type 0) → AddsAfterAsides records n n1 e e1 before after
    → ((kept : List (List ℕ)) → after ≡ log_bytes 0 kept → Survive kept outcomes) → AreDurable records n e before outcomes
synced_durable records n n1 e e1 before after outcomes grown synced old seen number end = (
  grown.asides,
  grown.aside,
  synced (old ++ (grown.asides ++ records)) (log_is n e before after old (grown.asides ++ records) seen number end grown.adds.bytes),
)

-- if a log has the records of a batch more, it has those that lead to the batch's position
pub batch_grows : (s : State) (from : Position) (batch : Batch) (n n1 e e1 : ℕ) (before behind : List ℕ) → IsBatch s from batch → AddsAfterAsides batch.bodies.items n n1 e e1 before behind
    → Grows s from batch.position n n1 e e1 before behind
batch_grows s from batch n n1 e e1 before behind is grown =
    record { records = grown.asides ++ batch.bodies.items; leads = leads_batch_after s from batch grown.asides grown.aside is; adds = grown.adds }

-- if the records of a batch are durable, so are those that lead to its position
pub batch_durable : (s : State) (from : Position) (batch : Batch) (n e : ℕ) (before : List ℕ) (outcomes : List ℕ → Type 0) → IsBatch s from batch → AreDurable batch.bodies.items n e before outcomes
    → IsDurable s from batch.position n e before outcomes
batch_durable s from batch n e before outcomes is durable old seen number end =
    let all = durable old seen number end in
    (all.0 ++ batch.bodies.items, leads_batch_after s from batch all.0 all.1 is, all.2)

-- a log that is as it was has the records more that lead from a position to itself
pub grows_not : (s : State) (a : Position) (next end : ℕ) (seen : List ℕ) → Grows s a a next next end end seen seen
grows_not s a next end seen = record { records = []; leads = leads_asides s a [] tt; adds = adds_nothing next end seen }

-- if a log grows from a to b and then from b to c, it grows from a to c
pub grows_more : (s : State) (a b c : Position) (n n1 n2 e e1 e2 : ℕ) (before between behind : List ℕ) → Grows s a b n n1 e e1 before between → Grows s b c n1 n2 e1 e2 between behind
    → Grows s a c n n2 e e2 before behind
grows_more s a b c n n1 n2 e e1 e2 before between behind first rest =
    record {
      records = first.records ++ rest.records;
      leads = leads_more s a b c first.records rest.records first.leads rest.leads;
      adds = adds_more first.records rest.records n n1 n2 e e1 e2 before between behind first.adds rest.adds;
    }

-- if a log grows from a to b, and then the records from b to c are durable, so are those from a to c
pub durable_more : (s : State) (a b c : Position) (n n1 e e1 : ℕ) (before between : List ℕ) (outcomes : List ℕ → Type 0) → Grows s a b n n1 e e1 before between → IsDurable s b c n1 e1 between outcomes
    → IsDurable s a c n e before outcomes
durable_more s a b c n n1 e e1 before between outcomes first durable old seen number end =
    let more = durable (old ++ first.records) (log_is n e before between old first.records seen number end first.adds.bytes)
    (omega (arith, first.adds.number, number, length-append old first.records)) (omega (arith, first.adds.place, log_end n e old first.records number end)) in
    (first.records ++ more.0, leads_more s a b c first.records more.0 first.leads more.1, subst (λ (k : List (List ℕ)). Survive k outcomes) (append_assoc old first.records more.0) more.2)

-- a sync that adds no record and leaves the file leaves the records that were added
pub adds_synced : (records : List (List ℕ)) (n n1 n2 e e1 e2 : ℕ) (before mid after : List ℕ) → AddsAfterAsides records n n1 e e1 before mid → after ≡ mid → e2 ≡ e1 → n2 ≡ n1
    → AddsAfterAsides records n n2 e e2 before after
adds_synced records n n1 n2 e e1 e2 before mid after grown same end number =
    record {
      asides = grown.asides;
      aside = grown.aside;
      adds = record {
        number = number ∙ grown.adds.number;
        place = end ∙ grown.adds.place;
        bytes = λ long. same ∙ grown.adds.bytes long;
      };
    }
