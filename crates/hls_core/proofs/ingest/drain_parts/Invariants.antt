-- Some parts of what the reader had are taken and accepted, what it still has shows the same fault, if any, and each round leaves
-- one part fewer.
use Rattle.std.proofs.Common.{◌≡◌, length}
use Rattle.hls_boxes.specs.Parts.{stream_cut, text_fault}
use Rattle.hls_core.specs.DrainSteps.{TakenFrom}
use Rattle.hls_core.proofs.ingest.drain_parts.Given as goal

abbrev pub invariant-loop-part : goal.invariant-loop-part
invariant-loop-part g l = record {
  fits : g.T.PartSink.fits l.sink l.kept l.channel;
  changes : g.T.PartSink.changes l.initial.kept l.initial.channel l.kept l.channel;
  taken : TakenFrom (g.T.PartSink.yields l.sink) (g.T.PartSink.progress l.initial.kept l.initial.channel) l.initial.reader l.reader (g.T.PartSink.progress l.kept l.channel);
  fault : text_fault l.reader ≡ text_fault l.initial.reader;
}

abbrev pub decreases-loop-part : goal.decreases-loop-part
decreases-loop-part g l = length (stream_cut l.reader).parts
