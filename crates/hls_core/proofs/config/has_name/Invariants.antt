-- Before each round, none of the renditions so far has the name.
use Rattle.std.proofs.Common.{◌≡◌, ℕ, ◌<◌, false, Some}
use Rattle.std.specs.Prelude.{slice_get}
use Rattle.std.specs.Str.{bytes_eq}
use Rattle.hls_core_laws.specs.declared.rendition.Rendition.{Rendition}
use Rattle.hls_core.proofs.config.has_name.Given as goal

abbrev pub invariant-loop-rendition : goal.invariant-loop-rendition
invariant-loop-rendition l = (k : ℕ) (r : Rendition) → k < l.rendition-index → slice_get l.renditions k ≡ Some r → bytes_eq r.name l.name ≡ false
