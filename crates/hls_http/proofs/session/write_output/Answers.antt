-- A front of the output is written and the rest waits, chunk by chunk, until nothing waits or a write fails.
use Rattle.std.proofs.Common.{◌∙◌, ◌++◌, List, ℕ, drop, length, false, true, refl, ap, subst, sym}
use Rattle.std.proofs.lemmas.{Bool.eqb-true, List.nil_from_length}
use Rattle.hls_io.specs.Counted.{inner_of}
use Rattle.hls_http.proofs.SendLaws.{Sent, chunk_sent, sent}
use Rattle.hls_http.proofs.session.write_output.Goals as goal

pub returns-then-not-write_whole-clause-writes : goal.returns-then-not-write_whole-clause-writes
returns-then-not-write_whole-clause-writes g c = λ held known.
    let s = c.loop-output.invariant.sent held known in
    sent held _ _ _ false (chunk_sent held _ _ _ _ (g.W.Write.contents (inner_of c.write_whole.new.output)) false s c.chunk-next.ensures (c.if-not-write_whole.ensures.writes _ s.contents_are)) (λ e. cc)

pub loop-output-preserved : goal.loop-output-preserved
loop-output-preserved g c = record {
  sent = λ held known.
      let s = c.loop-output.invariant.sent held known in
      let w = c.if-not-write_whole.ensures.writes _ s.contents_are in
      subst (λ (xs : List ℕ). Sent held c.args.output xs (g.W.Write.contents (inner_of c.write_whole.new.output)))
      (ap (λ xs. xs ++ drop (length c.chunk-next.result.now) c.loop-output.output) (w.whole refl) ∙ sym c.advance.ensures)
      (chunk_sent held _ _ _ _ _ true s c.chunk-next.ensures w);
  quiet = c.if-not-write_whole.ensures.counts ∙ c.loop-output.invariant.quiet;
}

pub returns-clause-writes : goal.returns-clause-writes
returns-clause-writes g c = λ held known.
    sent held _ _ _ true (c.loop-output.invariant.sent held known) (λ done. nil_from_length c.loop-output.output (eqb-true (length c.loop-output.output) 0 (sym c.loop-output-test.ensures)))
