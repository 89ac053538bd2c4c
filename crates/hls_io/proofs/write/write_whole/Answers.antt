-- After a failed write a beginning of the text is written, otherwise the whole text; a write that succeeds adds no failure to the count.
use Rattle.std.proofs.{Common.{◌≡◌, ◌∙◌, length, arith, refl}, lemmas.List.nil_from_length}
use Rattle.hls_io.proofs.WriteLaws.{writes_part, writes_whole, writing_more}
use Rattle.hls_io.proofs.write.write_whole.Goals as goal

pub loop-rest-preserved : goal.loop-rest-preserved
loop-rest-preserved g c = record {
  writing = λ held known. writing_more held c.args.text.now c.loop-rest.rest.now c.in-Some.written _ _ _ (c.loop-rest.invariant.writing held known) c.in-Some.ensures.bytes (omega arith);
  quiet = c.in-Some.ensures.quiet refl ∙ c.loop-rest.invariant.quiet;
}

pub returns-in-None-clause-writes : goal.returns-in-None-clause-writes
returns-in-None-clause-writes g c = λ held known. writes_part held c.args.text.now c.loop-rest.rest.now _ _ (c.loop-rest.invariant.writing held known) c.in-None.ensures.kept

pub returns-clause-writes : goal.returns-clause-writes
returns-clause-writes g c = λ held known.
    let none : length c.loop-rest.rest.now ≡ 0 = grind arith in
    writes_whole held c.args.text.now c.loop-rest.rest.now _ (c.loop-rest.invariant.writing held known) (nil_from_length c.loop-rest.rest.now none)
