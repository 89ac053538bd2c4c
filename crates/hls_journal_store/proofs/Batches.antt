-- Batches, entry by entry.
use Rattle.std.proofs.Common.{◌≡◌, ◌∙◌, ℕ, ◌+◌, ◌<◌, List, [], ◌∷◌, ◌++◌, length, take, drop, get_or, refl, sym, ap, subst, arith, append_assoc, append-nil, length-drop}
use Rattle.std.proofs.lemmas.List.{take_more, get_or-drop}
use Rattle.std.proofs.lemmas.Option.{slice_get_within, get_or_from_slice_get}
use Rattle.hls_core_laws.specs.declared.event.Entry.{Entry}
use Rattle.hls_core_laws.specs.State.{State}
use Rattle.hls_core.specs.Getters.{recording_of}
use Rattle.hls_journal_store.specs.declared.batch.Batch.{Batch}
use Rattle.hls_journal_store.specs.declared.batch.MediaWrite.{MediaWrite}
use Rattle.hls_journal_store.specs.declared.batch.Position.{Position}
use Rattle.hls_journal_store.specs.Batches.{rendition_in, number_in, counted, IsLoggedRecord, AreLogged, HasOneMore, IsBatch}

-- if entries have these records and media, and the next entry has its own, all of them together have both
pub logged_snoc : (s : State) (counts : List ℕ) (es : List Entry) (bodies : List (List ℕ)) (writes : List MediaWrite) (after : List ℕ) (e : Entry) (body : List ℕ) (own : List MediaWrite)
    → AreLogged s counts es bodies writes after → IsLoggedRecord (recording_of s (rendition_in e.event)) (number_in after e.event) e body own
    → AreLogged s counts (es ++ e ∷ []) (bodies ++ body ∷ []) (writes ++ own) (counted after e.event)
logged_snoc s counts [] bodies writes after e body own so_far one = (
  body,
  [],
  own,
  [],
  ap (λ (bs : List (List ℕ)). bs ++ body ∷ []) so_far.0,
  ap (λ (ws : List MediaWrite). ws ++ own) so_far.1 ∙ sym (append-nil own),
  subst (λ (cs : List ℕ). IsLoggedRecord (recording_of s (rendition_in e.event)) (number_in cs e.event) e body own) so_far.2 one,
  (refl, refl, ap (λ (cs : List ℕ). counted cs e.event) so_far.2),
)
logged_snoc s counts (x ∷ es) bodies writes after e body own so_far one = (
  so_far.0,
  so_far.1 ++ body ∷ [],
  so_far.2,
  so_far.3 ++ own,
  ap (λ (bs : List (List ℕ)). bs ++ body ∷ []) so_far.4,
  ap (λ (ws : List MediaWrite). ws ++ own) so_far.5 ∙ append_assoc so_far.2 so_far.3 own,
  so_far.6,
  logged_snoc s (counted counts x.event) es so_far.1 so_far.3 after e body own so_far.7 one,
)

-- a batch without records and media, at the position from which it counts, is the batch of no entry
pub batch_begins : (s : State) (from : Position) (batch : Batch) → batch.bodies.items ≡ [] → batch.writes.items ≡ [] → batch.position.version ≡ from.version
    → batch.position.counts.items ≡ from.counts.items → IsBatch s from batch
batch_begins s from batch bodies writes version counts = record { count = 0; version = omega (arith, version); logged = (bodies, writes, counts) }

-- what records and media entries have doesn't change if the lists are replaced by equal ones
same_logged : (s : State) (counts : List ℕ) (es fs : List Entry) (bodies bodies' : List (List ℕ)) (writes writes' : List MediaWrite) (after after' : List ℕ) → fs ≡ es → bodies' ≡ bodies → writes' ≡ writes → after' ≡ after
    → AreLogged s counts es bodies writes after → AreLogged s counts fs bodies' writes' after'
same_logged s counts es fs bodies bodies' writes writes' after after' same_es same_bodies same_writes same_after logged =
    subst (λ (xs : List Entry). AreLogged s counts xs bodies' writes' after') (sym same_es)
    (subst (λ (bs : List (List ℕ)). AreLogged s counts es bs writes' after') (sym same_bodies)
    (subst (λ (ws : List MediaWrite). AreLogged s counts es bodies ws after') (sym same_writes)
    (subst (λ (cs : List ℕ). AreLogged s counts es bodies writes cs) (sym same_after) logged)))

-- a batch with the record and the media of the next entry is the batch of one entry more
pub batch_more : (s : State) (from : Position) (old new : Batch) → IsBatch s from old → HasOneMore s old new → IsBatch s from new
batch_more s from old new so_far one =
    let within : old.position.version < length s.log = slice_get_within s.log old.position.version one.entry one.at in
    let inside : so_far.count < length (drop from.version s.log) = omega (arith, within, so_far.version, length-drop from.version s.log) in
    let at : get_or (drop from.version s.log) so_far.count one.entry ≡ one.entry =
    get_or-drop from.version s.log so_far.count one.entry ∙ ap (λ (n : ℕ). get_or s.log n one.entry) (sym so_far.version)
    ∙ get_or_from_slice_get s.log old.position.version one.entry one.entry one.at in
    let front : take (so_far.count + 1) (drop from.version s.log) ≡ take so_far.count (drop from.version s.log) ++ one.entry ∷ [] =
    take_more (drop from.version s.log) so_far.count one.entry inside ∙ ap (λ (e : Entry). take so_far.count (drop from.version s.log) ++ e ∷ []) at in
    record {
      count = so_far.count + 1;
      version = omega (arith, one.version, so_far.version);
      logged = same_logged s from.counts.items (take so_far.count (drop from.version s.log) ++ one.entry ∷ []) (take (so_far.count + 1) (drop from.version s.log))
          (old.bodies.items ++ one.body ∷ []) new.bodies.items (old.writes.items ++ one.own) new.writes.items (counted old.position.counts.items one.entry.event) new.position.counts.items front one.bodies one.writes one.counts
          (logged_snoc s from.counts.items (take so_far.count (drop from.version s.log)) old.bodies.items old.writes.items old.position.counts.items one.entry one.body one.own so_far.logged one.logged);
    }
