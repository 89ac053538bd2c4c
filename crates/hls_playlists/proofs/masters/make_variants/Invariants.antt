-- Before each round, the variant streams made so far and those of the remaining renditions are all variant streams.
use Rattle.std.proofs.Common.{◌≡◌, ◌++◌, drop}
use Rattle.hls_playlists_laws.specs.Masters.{variants_from}
use Rattle.hls_playlists.proofs.masters.make_variants.Given as goal

-- the variant streams so far and those of the renditions left are all
abbrev pub invariant-loop-number : goal.invariant-loop-number
invariant-loop-number l = l.variants.items ++ variants_from l.folder l.number (drop l.number l.renditions) ≡ variants_from l.folder 0 l.renditions
