-- Before each round, the text so far and that of the remaining segments are the complete text, and the walk is at the next segment to be written.
use Rattle.std.proofs.Common.{◌≡◌, ◌-◌, ◌++◌, drop}
use Rattle.hls_core_laws.specs.Line.{line}
use Rattle.hls_places_laws.specs.Line.Live.{segments_of}
use Rattle.hls_playlists.specs.LiveWriter.{HasSegments, rest_of_live_list}
use Rattle.hls_playlists.proofs.live_writer.push_live_segments.Given as goal

-- with the remaining segments the text is complete
abbrev pub invariant-loop-next : goal.invariant-loop-next
invariant-loop-next l = record {
  walk : drop l.next (segments_of (line l.served.snapshot.now)) ≡ l.walk;
  has : HasSegments l.served.snapshot.now l.served.rendition l.next;
  text : l.text.items ++ rest_of_live_list l.served.uris l.served.snapshot.now l.served.rendition l.next ≡ l.initial.text.items ++ rest_of_live_list l.served.uris l.served.snapshot.now l.served.rendition l.initial.next;
}

abbrev pub decreases-loop-next : goal.decreases-loop-next
decreases-loop-next l = l.stop - l.next
