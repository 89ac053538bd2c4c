-- A read returns a piece that is recorded or refused, fails, or is at the end; each is a lemma of GatherLaws.
use Rattle.std.proofs.Common.{◌≡◌, ◌∙◌, List, ℕ, Err, take, ap, arith, subst, refl, [], rules}
use Rattle.std.specs.Io.KnownBytes.{Consumes}
use Rattle.hls_io.specs.Counted.{inner_of}
use Rattle.hls_commands.specs.CutFaultName.{fault_of}
use Rattle.hls_commands.proofs.GatherLaws.{counts_untaken, gather_done, gather_failed, gather_left, gather_refused, reading_more, reading_none, took}
use Rattle.hls_commands.proofs.cut.record_stream.read_parts.Goals as goal

pub pieces-init : goal.pieces-init
pieces-init g c = record {
  reading = λ stream known. reading_none c.args.recorder.now stream _ c.new-reader.result known c.new-reader.ensures;
  room = c.requires;
  quiet = refl;
}

pub returns-in-None-clause-records : goal.returns-in-None-clause-records
returns-in-None-clause-records g c = λ stream known. gather_failed c.args.recorder.now stream c.pieces.reader _ _ c.pieces.recorder (c.pieces.invariant.reading stream known) c.in-None.ensures.kept

pub pieces-preserved : goal.pieces-preserved
pieces-preserved g c = record {
  reading = λ stream known. reading_more c.args.recorder.now stream c.pieces.reader (take c.in-Some.len c.read.new.buf) c.ingest_piece.new.reader _ c.pieces.recorder c.ingest_piece.new.channel
      (took c.args.recorder.now stream c.pieces.reader (take c.in-Some.len c.read.new.buf) _ _ c.pieces.recorder (c.pieces.invariant.reading stream known) c.in-Some.ensures.bytes) (c.in_ok-ingest_piece.ensures.ingests c.args.recorder.now);
  room = omega (arith, c.pieces.invariant.room, c.read.auto.buf);
  quiet = c.in-Some.ensures.quiet refl ∙ c.pieces.invariant.quiet;
}

pub returns-in_err-ingest_piece-clause-records : goal.returns-in_err-ingest_piece-clause-records
returns-in_err-ingest_piece-clause-records g c = λ stream known.
    let is : c.from_residual.result ≡ Err (fault_of c.in_err-ingest_piece.field-0.0) = search rules in
    rw is
    (gather_refused c.args.recorder.now stream c.pieces.reader (take c.in-Some.len c.read.new.buf) c.ingest_piece.new.reader _ c.pieces.recorder c.ingest_piece.new.channel c.in_err-ingest_piece.field-0.0
    (took c.args.recorder.now stream c.pieces.reader (take c.in-Some.len c.read.new.buf) _ _ c.pieces.recorder (c.pieces.invariant.reading stream known) c.in-Some.ensures.bytes) (c.in_err-ingest_piece.ensures.ingests c.args.recorder.now))

pub returns-in_err-ingest_piece-clause-counts : goal.returns-in_err-ingest_piece-clause-counts
returns-in_err-ingest_piece-clause-counts g c =
    let is : c.from_residual.result ≡ Err (fault_of c.in_err-ingest_piece.field-0.0) = search rules in
    rw is (counts_untaken c.in_err-ingest_piece.field-0.0 _ _ (c.in-Some.ensures.quiet refl ∙ c.pieces.invariant.quiet))

pub returns-in-Ok-clause-records : goal.returns-in-Ok-clause-records
returns-in-Ok-clause-records g c = λ stream known.
    let none : take c.in-Some.len c.read.new.buf ≡ [] = ap (λ n. take n c.read.new.buf) c.if-len-eq0.true in
    let reading = c.pieces.invariant.reading stream known in
    gather_done c.args.recorder.now stream c.pieces.reader _ _ c.pieces.recorder reading
    (subst (λ (bs : List ℕ). Consumes (g.R.Read.remaining (inner_of c.pieces.input)) (g.R.Read.remaining (inner_of c.read.new.self)) bs) none c.in-Some.ensures.bytes)
    (c.in-Some.ensures.end c.if-len-eq0.true) (c.in-Ok.ensures reading.taken reading.reached.taken.no_fault reading.reached.left)

pub returns-clause-records : goal.returns-clause-records
returns-clause-records g c = λ stream known.
    let none : take c.in-Some.len c.read.new.buf ≡ [] = ap (λ n. take n c.read.new.buf) c.if-len-eq0.true in
    let reading = c.pieces.invariant.reading stream known in
    gather_left c.args.recorder.now stream c.pieces.reader _ _ c.pieces.recorder c.in-Err.fault reading
    (subst (λ (bs : List ℕ). Consumes (g.R.Read.remaining (inner_of c.pieces.input)) (g.R.Read.remaining (inner_of c.read.new.self)) bs) none c.in-Some.ensures.bytes)
    (c.in-Some.ensures.end c.if-len-eq0.true) (c.in-Err.ensures reading.taken reading.reached.taken.no_fault reading.reached.left)
