-- Before each round, there are as many texts as renditions passed, and each is the text of its rendition's playlist.
use Rattle.std.proofs.Common.{◌≡◌, length}
use Rattle.hls_jobs.proofs.ListTexts.{AreListsSoFar}
use Rattle.hls_jobs.proofs.programme_texts.list_texts.Given as goal

-- the texts so far are those of as many playlists
abbrev pub invariant-loop-rendition : goal.invariant-loop-rendition
invariant-loop-rendition l = record {
  count : length l.texts.items ≡ l.rendition;
  each : AreListsSoFar l.reply l.texts.items;
}
