-- A request that is found in the cache is the one to which the query leads in the cached state.
use Rattle.hls_api.specs.PlaylistCache.{noted_state}
use Rattle.hls_api.proofs.CachedQueries.{query_found}
use Rattle.hls_api.proofs.programme_cache.ProgrammeCache.lookup.Goals as goal

pub returns-then-is_for : goal.returns-then-is_for
returns-then-is_for c =
    query_found (noted_state c.self.inside.source.items) c.args.self.now c.self.inside.queries.items c.deref-kept-items.result.now c.loop-kept.kept-index _ c.args.query c.self.view_is c.self.invariant.1
    c.deref-kept-items.ensures.value c.loop-kept-test.true (c.is_for.ensures c.if-is_for.true)
