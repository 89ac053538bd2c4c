-- Two states of one log with equally many events have the same live playlists.
use Rattle.std.proofs.Common.{◌≡◌, ◌∙◌, ℕ, suc, ◌≤◌, List, [], ◌∷◌, ◌++◌, length, ◌⊎◌, inl, inr, Bool, true, false, Option, Some, None, Result, refl, sym, ap, subst, arith, append-nil, length-append, if◌then◌else◌}
use Rattle.std.{specs.Prelude.{All, slice_index_or, option_map}, proofs.lemmas.List.{nil_from_length, Elements.All-nil, Elements.All-push}}
use Rattle.hls_core_laws.specs.{State.State, Follows.Follows, Moves.{Moves, entry_of}, PassView.{PassView, MaySeeLater, Submits}, Outcome.{Outcome, New, Repeated, Refused}}
use Rattle.hls_core_laws.specs.declared.{event.Entry.Entry, event.Event.Event, done.Done.Done, refusal.Refusal.Refusal}
use Rattle.hls_core_laws.specs.Config.{ConfigData}
use Rattle.hls_core_laws.proofs.Callers.{continues_of}
use Rattle.hls_m3u8.specs.Lines.{media_text}
use Rattle.hls_m3u8.specs.Playlist.{Playlist}
use Rattle.hls_playlists_laws.specs.{BasedLists.based_list_of, PathLists.list_by_paths}
use Rattle.hls_playlists.specs.MediaUris.{run_above}
use Rattle.hls_playlists_laws.proofs.Callers.{based-lists-stay}
use Rattle.hls_playlists.specs.declared.media_uris.MediaUris.TheVariants.{Paths, PathsAbove, Ranges}
use Rattle.hls_api.specs.Playlists.{live_text}
use Rattle.hls_api.specs.declared.playlist_cache.CachedPlaylist.{CachedPlaylist}
use Rattle.hls_playlists.specs.declared.media_uris.MediaUris.{MediaUris}
use Rattle.hls_api.specs.PlaylistCache.{AreListsOf, HasVersion, HasSameListsBefore, IsListOf, live_text_in}

-- a playlist of the noted state is the same in a state with as many events, if that state has the same lists
list_stays : (source : Option State) (b : State) → HasVersion source (length b.log) → HasSameListsBefore source b → (uris : MediaUris) (r : ℕ) (text : List ℕ) → live_text_in source uris r ≡ Some text → live_text_in (Some b) uris r ≡ Some text
list_stays None b had follows uris r text is = cc
list_stays (Some a) b had follows uris r text is = ((follows a refl).1 (sym (had a refl))).texts uris r ∙ is

-- after a change to the state b, the cached playlists are b's, whether they were kept, since b has as many events, or removed
pub gone_on : (source new : Option State) (b : State) (old now : ℕ) (lists kept : List CachedPlaylist) → AreListsOf source old lists → HasSameListsBefore source b → new ≡ Some b → now ≡ length b.log
    → ((now ≡ old) × (kept ≡ lists)) ⊎ (kept ≡ []) → AreListsOf new now kept
gone_on source new b old now lists kept are follows noted had (inl (same, is)) =
    rw (noted, is) (
      λ s there. cc (had, there),
      λ k d within. list_stays source b (λ a at. cc (are.0 a at, same, had)) follows (slice_index_or lists k d).uris (slice_index_or lists k d).rendition (slice_index_or lists k d).text.items (are.1 k d within),
    )
gone_on source new b old now lists kept are follows noted had (inr none) = rw (noted, none) (λ s there. cc (had, there), All-nil (IsListOf (Some b)))

-- all cached playlists are of the state after one more of the state is added, or couldn't be for lack of memory
pub pushed : (source now : Option State) (b : Bool) (old new : List CachedPlaylist) (x : CachedPlaylist) (text : List ℕ) → source ≡ now → x.text.items ≡ text → live_text_in now x.uris x.rendition ≡ Some text
    → new ≡ (if b then old ++ x ∷ [] else old) → All (IsListOf source) old → All (IsListOf source) new
pushed source now true old new x text same is here grown all =
    subst (λ (l : List CachedPlaylist). All (IsListOf source) l) (sym grown) (All-push (IsListOf source) old x all (ap (λ o. live_text_in o x.uris x.rendition) same ∙ here ∙ ap Some (sym is)))
pushed source now false old new x text same is here grown all = subst (λ (l : List CachedPlaylist). All (IsListOf source) l) (sym grown) all

-- ---- later states

-- two states with as many events that the same state follows have the same live playlists
texts_stay : (uris : MediaUris) (r : ℕ) (a b later : State) → Follows a later → Follows b later → length b.log ≡ length a.log → live_text uris b r ≡ live_text uris a r
texts_stay Ranges r a b later a_first b_first as_many = ap (option_map media_text) (based-lists-stay a b later a_first b_first as_many r).0
texts_stay Paths r a b later a_first b_first as_many = ap (option_map media_text) (based-lists-stay a b later a_first b_first as_many r).1
texts_stay PathsAbove r a b later a_first b_first as_many =
    let lists = (based-lists-stay a b later a_first b_first as_many r).0 in
    let config : b.config ≡ a.config = sym (continues_of b later b_first).config ∙ (continues_of a later a_first).config in
    ap (λ (o : Option Playlist). option_map media_text (option_map (list_by_paths (run_above b.config.base) r) o)) lists
    ∙ ap (λ (c : ConfigData). option_map media_text (option_map (list_by_paths (run_above c.base) r) (based_list_of a r))) config

-- a state that follows another has at least as many events
log_grows : (a b : State) → Follows a b → length a.log ≤ length b.log
log_grows a b (inl same) = omega (arith, ap (λ (s : State). length s.log) same)
log_grows a b (inr follows) = omega (arith, ap length follows.continues.log, length-append a.log follows.continues.rest)

-- a state that follows another and has as many events has the same events
log_stays : (a b : State) → Follows a b → length b.log ≡ length a.log → b.log ≡ a.log
log_stays a b follows as_many =
    let on = continues_of a b follows in
    let none : on.rest ≡ [] = nil_from_length on.rest (omega (arith, ap length on.log, length-append a.log on.rest, as_many)) in
    on.log ∙ ap (λ (rest : List Entry). a.log ++ rest) none ∙ append-nil a.log

-- if a state has the same lists as the noted one, or more events, so does each state that follows it
lists_follow : (source : Option State) (old new : State) → HasSameListsBefore source old → Follows old new → HasSameListsBefore source new
lists_follow source old new had follows a is =
    let was = had a is in
    let more = log_grows old new follows in (
      omega (arith, was.0, more),
      λ same.
          let both = was.1 (omega (arith, same, was.0, more)) in
          let as_many : length new.log ≡ length old.log = omega (arith, same, was.0, more) in
          record {
            config = (continues_of old new follows).config ∙ both.config;
            log = log_stays old new follows as_many ∙ both.log;
            texts = λ uris r. texts_stay uris r old new new follows (inl refl) as_many ∙ both.texts uris r;
          },
    )

-- if a state has the same lists as the noted one, or more events, so does the state to which an event moves it
lists_move : (source : Option State) (met new : State) (by : ℕ) (event : Event) (outcome : Outcome) → HasSameListsBefore source met → Moves met by event outcome new → HasSameListsBefore source new
lists_move source met new by event New had moves = one_more
  where
    more : length new.log ≡ suc (length met.log)
    more = omega (arith, ap (λ (s : State). length s.log) moves.1, length-append met.log (entry_of by event ∷ []))

    one_more : HasSameListsBefore source new
    one_more a is =
        let was = had a is in
        (omega (arith, was.0, more), λ same. absurd (omega (arith, same, was.0, more)))
lists_move source met new by event Repeated had moves = subst (HasSameListsBefore source) (sym moves.1) had
lists_move source met new by event (Refused q) had moves = subst (HasSameListsBefore source) (sym moves.1) had

-- if the state that was seen has the same lists as the noted one, or more events, so does the state after a look
pub lists_looked : (source : Option State) (old new : PassView) → HasSameListsBefore source old.seen → MaySeeLater old new → HasSameListsBefore source new.seen
lists_looked source old new had looked = lists_follow source old.seen new.seen had looked.follows

-- if the state that was seen has the same lists as the noted one, or more events, so does the state after an event was submitted
pub lists_submitted : (source : Option State) (old new : PassView) (event : Event) (result : Result Done Refusal) → HasSameListsBefore source old.seen → Submits old event result new →
    HasSameListsBefore source new.seen
lists_submitted source old new event result had submits =
    lists_move source submits.met new.seen old.number event submits.outcome (lists_follow source old.seen submits.met had submits.follows) submits.moves
