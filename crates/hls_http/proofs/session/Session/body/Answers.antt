-- By the token at the front of the held bytes: a piece is returned, a frame continues the loop, and an incomplete one needs a read.
use Rattle.std.proofs.Common.{◌≡◌, ◌∙◌, ◌<◌, ◌++◌, ℕ, List, [], length, length-take, sym, ap, subst, arith, refl, take, drop}
use Rattle.hls_http.specs.{Bodies.{RunsOnReader, IsOpen}, Buffers.BufferTexts, declared.input_buffer.ReadOutcome.TheVariants.Eof, BufferedReader.{unread_of, reader_of}}
use Rattle.hls_http.proofs.{BodySteps.{goes_filled, goes_none, goes_then, last_alone}, HeadLaws.at_end}
use Rattle.hls_http.proofs.session.Session.body.Goals as goal

pub loop-self-init : goal.loop-self-init
loop-self-init g c = record { goes = λ rest known. goes_none c.args.body.now (unread_of c.args.self.now.source) rest _ known; quiet = refl; writer = refl }

pub returns-in-Ok-Piece-clause-reads_piece : goal.returns-in-Ok-Piece-clause-reads_piece
returns-in-Ok-Piece-clause-reads_piece g c = λ rest known.
    let step = rw (c.in-Ok-Piece.field-0-is, c.unread.ensures.unread) at c.in-Ok-Piece.ensures in
    let held = unread_of c.loop-self.self.source in
    let some : 0 < length (take c.in-Ok-Piece.len held) = omega (arith, length-take c.in-Ok-Piece.len held, step.0, step.1) in
    let w = c.loop-self.invariant.goes rest known in
    let left : c.consume.new.self.unread ≡ drop c.in-Ok-Piece.len held = ap (λ (texts : BufferTexts). texts.unread) c.consume.ensures in
    let taken : take c.in-Ok-Piece.len held ≡ c.consume.new.self.taken = sym (ap (λ (texts : BufferTexts). texts.taken) c.consume.ensures) in
    let goes = goes_then c.args.body.now c.loop-self.body c.in-Ok-Piece.next (unread_of c.args.self.now.source ++ rest) [] held c.consume.new.self.unread _ _ _ (g.R.Read.remaining (reader_of c.loop-self.self.source))
    w step.2 left refl in (
      subst (λ (xs : List ℕ). 0 < length xs) taken some,
      subst (λ (xs : List ℕ). RunsOnReader c.args.body.now (unread_of c.args.self.now.source ++ rest) xs c.in-Ok-Piece.next c.consume.new.self.unread (g.R.Read.remaining (reader_of c.loop-self.self.source))) taken goes,
      last_alone c.args.body.now c.loop-self.body c.in-Ok-Piece.next (unread_of c.args.self.now.source ++ rest) w.later w.runs step.3,
    )

pub loop-self-preserved-in-Ok-Frame : goal.loop-self-preserved-in-Ok-Frame
loop-self-preserved-in-Ok-Frame g c = record {
  goes = λ rest known.
      let step = rw (c.in-Ok-Frame.field-0-is, c.unread.ensures.unread) at c.in-Ok-Frame.ensures in
      goes_then c.args.body.now c.loop-self.body c.in-Ok-Frame.next (unread_of c.args.self.now.source ++ rest) [] (unread_of c.loop-self.self.source) c.consume-in-Ok-Frame.new.self.unread [] _ _
      (g.R.Read.remaining (reader_of c.loop-self.self.source)) (c.loop-self.invariant.goes rest known) step.2
      (ap (λ (texts : BufferTexts). texts.unread) c.consume-in-Ok-Frame.ensures) refl;
  quiet = c.loop-self.invariant.quiet;
  writer = c.loop-self.invariant.writer;
}

pub returns-in-Eof-clause-reads_piece : goal.returns-in-Eof-clause-reads_piece
returns-in-Eof-clause-reads_piece g c = λ rest known.
    let wait = rw (c.in-Err-Incomplete.field-0-is, c.unread.ensures.unread) at c.in-Err-Incomplete.ensures in
    let r = c.in-Eof.ensures.reads in
    let old = c.loop-self.invariant.goes rest known in
    let e = at_end old.later (unread_of c.loop-self.self.source) c.read_from.new.self.unread _ _ old.known r in (
      goes_filled c.args.body.now c.loop-self.body (unread_of c.args.self.now.source ++ rest) [] (unread_of c.loop-self.self.source) c.read_from.new.self.unread _ _ Eof old r,
      (e.3, subst (λ (xs : List ℕ). IsOpen c.loop-self.body xs) (e.0 ∙ sym e.1) wait.1),
    )
