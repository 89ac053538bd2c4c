-- The frames so far are steps of the input without content. Each read leaves fewer reads, and each frame fewer held bytes.
use Rattle.std.proofs.Common.{◌≡◌, ◌+◌, ◌*◌, ◌++◌, List, [], ℕ, Some, length}
use Rattle.hls_http.specs.{Bodies.RunsOnReader, BufferedReader.{unread_of, read_failures, reader_of, reads_left}}
use Rattle.hls_http.proofs.session.Session.body.Given as goal

abbrev pub invariant-loop-self : goal.invariant-loop-self
invariant-loop-self g l = record {
  goes : (rest : List ℕ) → g.R.Read.remaining (reader_of l.initial.self.source) ≡ Some rest
      → RunsOnReader l.initial.body (unread_of l.initial.self.source ++ rest) [] l.body (unread_of l.self.source) (g.R.Read.remaining (reader_of l.self.source));
  quiet : read_failures l.self.source ≡ read_failures l.initial.self.source;
  writer : l.self.writer ≡ l.initial.self.writer;
}

abbrev pub decreases-loop-self : goal.decreases-loop-self
decreases-loop-self g l = reads_left l.self.source * 131072 + length (unread_of l.self.source)
