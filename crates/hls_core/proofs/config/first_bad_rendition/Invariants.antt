-- Before each round, all renditions so far are valid at their numbers, and there are at most as many as a channel may have.
use Rattle.std.proofs.Common.{◌≡◌, ℕ, ◌<◌, ◌≤◌, Some}
use Rattle.std.specs.Prelude.{slice_get}
use Rattle.hls_core_laws.specs.declared.rendition.Rendition.{Rendition}
use Rattle.hls_core_laws.specs.Config.{IsRenditionAt}
use Rattle.hls_core.proofs.config.first_bad_rendition.Given as goal
use Rattle.hls_check_tables.specs.Tables.{rendition_limit}

abbrev pub invariant-loop-n : goal.invariant-loop-n
invariant-loop-n l = record {
  few : l.n ≤ rendition_limit;
  good : (k : ℕ) (r : Rendition) → k < l.n → slice_get l.renditions k ≡ Some r → IsRenditionAt l.renditions k r;
}
