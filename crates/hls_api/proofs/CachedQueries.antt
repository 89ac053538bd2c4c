-- Two states of one log with equally many events have the same programmes.
use Rattle.std.proofs.Common.{◌≡◌, ℕ, ◌<◌, List, [], ◌∷◌, ◌++◌, length, ◌⊎◌, inl, inr, Bool, true, false, Option, Some, None, Result, Ok, Err, refl, sym, ap, subst, if◌then◌else◌}
use Rattle.std.{specs.Prelude.{All, slice_index_or, unwrap_or}, proofs.lemmas.List.Elements.{All-nil, All-push}}
use Rattle.hls_core_laws.specs.{State.State, Config.ConfigData, Places.kept_places, declared.event.Entry.Entry}
use Rattle.hls_places_laws.specs.Programmes.{IsFirstPlaceFrom, IsLastPlaceBy, IsProgramme, time_at}
use Rattle.hls_check_tables.specs.Tables.{Table, goal_of, rule_of}
use Rattle.hls_catchup.specs.Canonical.{IsCanonical, IsCanonicalOrFault, with_times}
use Rattle.hls_catchup.specs.Requests.{IsInRange, IsTableFor, all_finished}
use Rattle.hls_api.specs.Types.{CatchupParams, CatchupQuery, QueryFault, Request}
use Rattle.hls_api.specs.Queries.{catchup_params_of, request_for}
use Rattle.hls_api.specs.PlaylistCache.{HasVersion, HasSameListsBefore}
use Rattle.hls_api.specs.Programmes.{StartsParams}
use Rattle.hls_api.specs.ProgrammeCache.{AreQueriesOf, IsQueryOf, IsStartIn}
use Rattle.hls_api.specs.declared.programme_cache.CachedQuery.{CachedQuery}
use Rattle.hls_api.specs.declared.programme_responses.ProgrammeStart.TheVariants.{Planned}

-- ---- the programme of a request, by the configuration and the log

-- a state with this configuration and this log, and without bytes
abbrev state_by : ConfigData → List Entry → State
state_by config log = record { config = config; log = log; bytes = [] }

-- the table of a request's programme, by a configuration and a log
abbrev IsProgrammeBy : ConfigData → List Entry → Request → Table → Type 0
IsProgrammeBy config log request t =
    IsProgramme (goal_of config.target request.preferred request.rule) (kept_places (state_by config log)) (all_finished (state_by config log)) request.start_us request.stop_us (Ok t)

-- the first and the last place of a request's programme, and its canonical request, by a configuration and a log
abbrev SpansBy : Request → Request → ℕ → ℕ → ConfigData → List Entry → Type 0
SpansBy request canonical first last config log =
    IsLastPlaceBy (kept_places (state_by config log)) request.start_us first × IsFirstPlaceFrom (kept_places (state_by config log)) request.stop_us last
    × (canonical ≡ with_times request (time_at (kept_places (state_by config log)) first) (time_at (kept_places (state_by config log)) last))

-- a request in range is in range in a state with the same configuration
same_range : (a b : State) (request : Request) → b.config ≡ a.config → IsInRange a request → IsInRange b request
same_range a b request config x = record { order = x.order; preferred = rw config x.preferred; charge = x.charge }

-- a state with the same configuration and log has the same canonical request
same_canonical : (a b : State) (request canonical : Request) → b.config ≡ a.config → b.log ≡ a.log → IsCanonical a request canonical → IsCanonical b request canonical
same_canonical a b request canonical config log x =
    let by_config = subst (λ (c : ConfigData). SpansBy request canonical x.first x.last c a.log) (sym config) (x.begins, x.ends, x.is) in
    let by_log = subst (λ (l : List Entry). SpansBy request canonical x.first x.last b.config l) (sym log) by_config in
    record {
      in_range = same_range a b request config x.in_range;
      first = x.first;
      last = x.last;
      begins = by_log.0;
      ends = by_log.1;
      is = by_log.2;
    }

-- a state with the same configuration and log has the same table for a request
same_table : (a b : State) (request : Request) (t : Table) → b.config ≡ a.config → b.log ≡ a.log → IsTableFor a request (Ok t) → IsTableFor b request (Ok t)
same_table a b request t config log x =
    let by_config = subst (λ (c : ConfigData). IsProgrammeBy c a.log request t) (sym config) x.programme in
    let by_log = subst (λ (l : List Entry). IsProgrammeBy b.config l request t) (sym log) by_config in
    record {
      in_range = same_range a b request config x.in_range;
      programme = by_log;
    }

-- ---- what a query leads to

-- the request of parameters in a configuration, whose segment length is preferred if they name none
abbrev request_by : CatchupParams → ConfigData → Request
request_by params config = record {
  start_us = params.start_us;
  stop_us = params.stop_us;
  preferred = unwrap_or params.preferred config.preferred;
  rule = rule_of params.charge;
}

-- parameters lead to the same programme in a state with the same configuration and log
params_stay : (a b : State) (resolved : Result CatchupParams QueryFault) (request : Request) → b.config ≡ a.config → b.log ≡ a.log → StartsParams a resolved (Planned request)
    → StartsParams b resolved (Planned request)
params_stay a b (Ok params) request config log x =
    let same : request_for b params ≡ request_for a params = ap (request_by params) config in
    let has = x.0 in
    subst (λ (r : Request). IsCanonicalOrFault b r (Ok request)) (sym same)
    ((has.0, same_table a b (request_for a params) has.0 config log has.1), same_canonical a b (request_for a params) request config log x.1)
params_stay a b (Err fault) request config log x = absurd (cc x)

-- a query leads to the same programme in a state with as many events, if that state has the same lists
start_stays : (source : Option State) (b : State) (query : CatchupQuery) (request : Request) → HasVersion source (length b.log) → HasSameListsBefore source b → IsStartIn source query request
    → IsStartIn (Some b) query request
start_stays None b query request had follows start = absurd start
start_stays (Some a) b query request had follows start =
    let same = (follows a refl).1 (sym (had a refl)) in
    subst (λ (c : ConfigData). StartsParams b (catchup_params_of c.epoch query) (Planned request)) (sym same.config)
    (params_stay a b (catchup_params_of a.config.epoch query) request same.config same.log start)

-- ---- the cache

-- after a change to the state b, the cached queries are b's, whether they were kept, since b has as many events, or removed
pub queries_gone_on : (source new : Option State) (b : State) (old now : ℕ) (queries kept : List CachedQuery) → AreQueriesOf source old queries → HasSameListsBefore source b → new ≡ Some b → now ≡ length b.log
    → ((now ≡ old) × (kept ≡ queries)) ⊎ (kept ≡ []) → AreQueriesOf new now kept
queries_gone_on source new b old now queries kept are follows noted had (inl (same, is)) =
    rw (noted, is) (
      λ s there. cc (had, there),
      λ k d within. start_stays source b (slice_index_or queries k d).query (slice_index_or queries k d).request (λ a at. cc (are.0 a at, same, had)) follows (are.1 k d within),
    )
queries_gone_on source new b old now queries kept are follows noted had (inr none) = rw (noted, none) (λ s there. cc (had, there), All-nil (IsQueryOf (Some b)))

-- the cached query that equals a query leads to its request in the present state
pub query_found : (source now : Option State) (queries items : List CachedQuery) (n : ℕ) (d : CachedQuery) (query : CatchupQuery) → source ≡ now → All (IsQueryOf source) queries → items ≡ queries → n < length items
    → (slice_index_or items n d).query ≡ query → IsStartIn now query (slice_index_or items n d).request
query_found source now queries items n d query same all is within found =
    let kept = slice_index_or items n d in
    let there = subst (λ (qs : List CachedQuery). All (IsQueryOf source) qs) (sym is) all n d within in
    subst (λ (q : CatchupQuery). IsStartIn now q kept.request) found (subst (λ (o : Option State). IsStartIn o kept.query kept.request) same there)

-- an empty cache has only queries of the state
pub no_queries : (source : Option State) (new : List CachedQuery) → new ≡ [] → All (IsQueryOf source) new
no_queries source new none = subst (λ (l : List CachedQuery). All (IsQueryOf source) l) (sym none) (All-nil (IsQueryOf source))

-- all cached queries are of the state after one more of the state is added, or couldn't be for lack of memory
pub query_pushed : (source now : Option State) (b : Bool) (old new : List CachedQuery) (x : CachedQuery) → source ≡ now → IsStartIn now x.query x.request → new ≡ (if b then old ++ x ∷ [] else old)
    → All (IsQueryOf source) old → All (IsQueryOf source) new
query_pushed source now true old new x same is grown all =
    subst (λ (l : List CachedQuery). All (IsQueryOf source) l) (sym grown) (All-push (IsQueryOf source) old x all (subst (λ (o : Option State). IsStartIn o x.query x.request) (sym same) is))
query_pushed source now false old new x same is grown all = subst (λ (l : List CachedQuery). All (IsQueryOf source) l) (sym grown) all
