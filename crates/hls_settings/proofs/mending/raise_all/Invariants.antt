-- Before each round, the renditions passed have a raised tolerance; with the remaining ones raised too, they are the result.
use Rattle.std.proofs.Common.{◌≡◌, ◌++◌, map, take, drop}
use Rattle.hls_settings.specs.ReadSettings.{with_tolerance}
use Rattle.hls_settings.proofs.mending.raise_all.Given as goal

-- the renditions that were raised, and then the others raised, are the result
abbrev pub invariant-loop-rendition : goal.invariant-loop-rendition
invariant-loop-rendition l = take l.rendition-index l.renditions ++ map (with_tolerance l.least) (drop l.rendition-index l.renditions) ≡ map (with_tolerance l.least) l.initial.renditions
