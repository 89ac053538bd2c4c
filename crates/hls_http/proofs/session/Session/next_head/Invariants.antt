-- Reads change neither the input still to come nor the failures; each leaves one read fewer.
use Rattle.std.{proofs.Common.{◌≡◌, ◌++◌, List, ℕ, Some}, specs.Io.KnownBytes.prepend_known}
use Rattle.hls_http.specs.BufferedReader.{unread_of, read_failures, reader_of, reads_left}
use Rattle.hls_http.proofs.session.Session.next_head.Given as goal

abbrev pub invariant-loop-head : goal.invariant-loop-head
invariant-loop-head g l = record {
  same : (rest : List ℕ) → g.R.Read.remaining (reader_of l.initial.self.source) ≡ Some rest
      → prepend_known (unread_of l.self.source) (g.R.Read.remaining (reader_of l.self.source)) ≡ Some (unread_of l.initial.self.source ++ rest);
  quiet : read_failures l.self.source ≡ read_failures l.initial.self.source;
  writer : l.self.writer ≡ l.initial.self.writer;
}

abbrev pub decreases-loop-head : goal.decreases-loop-head
decreases-loop-head g l = reads_left l.self.source
