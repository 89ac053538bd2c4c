-- Before each round, the variant streams made so far and those of the remaining video renditions are all variant streams.
use Rattle.std.proofs.Common.{◌≡◌, ◌++◌, drop}
use Rattle.hls_playlists_laws.specs.Masters.{videos_from}
use Rattle.hls_playlists.proofs.masters.make_video_variants.Given as goal

-- the variant streams so far and those of the video renditions left are all
abbrev pub invariant-loop-number : goal.invariant-loop-number
invariant-loop-number l = l.variants.items ++ videos_from l.folder l.number (drop l.number l.renditions) ≡ videos_from l.folder 0 l.renditions
