-- Sequences of acts.
use Rattle.std.proofs.Common.{◌≡◌, ◌∙◌, Some, List, [], ◌∷◌, ◌++◌, refl, sym, ap, subst, append_assoc, append-nil}
use Rattle.hls_api.specs.{Acts.{Act, ActsExtend, AreActSteps, Knowledge, RecordsLook}, OtherActors.OtherActors, Responses.ResponseData, Routes.is_to_head, Types.{Route, State}}
use Rattle.hls_api.specs.Exchanges.{IsServedBy, RequestParams, range_for, shown_to_player}
use Rattle.hls_api.specs.Players.{init_answer, live_list_answer, path_master_answer, recent_list_answer, run_answer, segment_answer}
use Rattle.hls_api.specs.SinceLists.{since_answer}
use Rattle.hls_playlists.specs.declared.media_uris.MediaUris.TheVariants.{Paths}
use Rattle.hls_api.specs.declared.route.Route.TheVariants as routes

-- no acts leave what a keeper knows as it is
pub acted_none : (m : OtherActors) (a : Knowledge) (before : List Act) → ActsExtend m a before a before
acted_none m a before = ([], sym (append-nil before), refl)

-- steps of acts that begin where others end are, after those, steps of all these acts
chain_on : (m : OtherActors) (first : List Act) (a b c : Knowledge) (later : List Act) → AreActSteps m a first b → AreActSteps m b later c → AreActSteps m a (first ++ later) c
chain_on m [] a b c later x y = subst (λ (k : Knowledge). AreActSteps m k later c) x y
chain_on m (act ∷ acts) a b c later (middle, act_steps, meets, others) y = (middle, act_steps, meets, chain_on m acts middle b c later others y)

-- acts that continue from acts of the same connection extend the acts before both
pub acted_on : (m : OtherActors) (a b c : Knowledge) (before middle after : List Act) → ActsExtend m a before b middle → ActsExtend m b middle c after → ActsExtend m a before c after
acted_on m a b c before middle after (first, x, act_steps) (later, y, goes) =
    (first ++ later, y ∙ ap (λ (acts : List Act). acts ++ later) x ∙ append_assoc before first later, chain_on m first a b c later act_steps goes)

-- if one look is added, and the reply is what a player is shown of its state, the reply is the route's
pub player_served : (q : RequestParams) (route : Route) (a b : List Act) (s : State) (answer : ResponseData) → RecordsLook a s b → shown_to_player q route s ≡ Some answer →
    IsServedBy q route a answer b
player_served q routes.PathMaster a b s answer looks is = (s, looks, let same : answer ≡ path_master_answer s = cc in same)
player_served q (routes.PathList r) a b s answer looks is = (s, looks, let same : answer ≡ live_list_answer Paths s r = cc in same)
player_served q (routes.RecentList r us) a b s answer looks is = (s, looks, let same : answer ≡ recent_list_answer us s r = cc in same)
player_served q routes.Run a b s answer looks is = (s, looks, let same : answer ≡ run_answer s = cc in same)
player_served q (routes.InitSection run r) a b s answer looks is =
    (s, looks, let same : answer ≡ init_answer s run r (range_for (is_to_head q.method) q.range) = cc in same)
player_served q (routes.Segment run r first last) a b s answer looks is =
    (s, looks, let same : answer ≡ segment_answer s run r first last (range_for (is_to_head q.method) q.range) = cc in same)
player_served q (routes.Since start file) a b s answer looks is = (s, looks, let same : answer ≡ since_answer s start file = cc in same)
player_served q route a b s answer looks is = absurd (cc)
