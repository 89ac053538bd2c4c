-- Cached queries for programmes.
use Rattle.std.specs.Prelude.{ℕ, All, List, Option, Some, None}
use Rattle.hls_core_laws.specs.State.{State}
use Rattle.hls_api.specs.Types.{CatchupQuery, Request}
use Rattle.hls_api.specs.PlaylistCache.{HasVersion}
use Rattle.hls_api.specs.Programmes.{StartsProgramme}
use Rattle.hls_api.specs.declared.programme_cache.CachedQuery.{CachedQuery}
use Rattle.hls_api.specs.declared.programme_responses.ProgrammeStart.TheVariants.{Planned}

-- the query leads to this request, whose programme the state has
abbrev pub IsStartIn : Option State → CatchupQuery → Request → Type 0
IsStartIn None query request = ⊥
IsStartIn (Some s) query request = StartsProgramme s query (Planned request)

-- the cached request is the one to which the cached query leads in the state
abbrev pub IsQueryOf : Option State → CachedQuery → Type 0
IsQueryOf source kept = IsStartIn source kept.query kept.request

-- the version and all cached queries are those of the state
abbrev pub AreQueriesOf : Option State → ℕ → List CachedQuery → Type 0
AreQueriesOf source version queries = HasVersion source version × All (IsQueryOf source) queries
