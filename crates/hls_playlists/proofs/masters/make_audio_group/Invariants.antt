-- Before each round, the audio renditions made so far and those among the remaining renditions are the whole audio group.
use Rattle.std.proofs.Common.{◌≡◌, ◌++◌, drop}
use Rattle.hls_playlists_laws.specs.Masters.{audio_from}
use Rattle.hls_playlists.proofs.masters.make_audio_group.Given as goal

-- the audio renditions so far and those among the renditions left are all
abbrev pub invariant-loop-number : goal.invariant-loop-number
invariant-loop-number l = l.group.items ++ audio_from l.folder l.number (drop l.number l.renditions) ≡ audio_from l.folder 0 l.renditions
