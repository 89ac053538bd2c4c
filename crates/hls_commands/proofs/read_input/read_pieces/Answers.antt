-- A read returns a piece, fails, or is at the end; each is a lemma of ReadLaws.
use Rattle.std.proofs.Common.{◌≡◌, ◌∙◌, ◌++◌, List, ℕ, length, take, ap, sym, arith, subst, refl, rules, []}
use Rattle.std.specs.Io.KnownBytes.{Consumes}
use Rattle.std.proofs.lemmas.List.{length-take-le, take-take}
use Rattle.hls_io.specs.Counted.{inner_of}
use Rattle.hls_commands.specs.ReadInput.{held_len}
use Rattle.hls_commands.proofs.ReadLaws.{Reading, reading_more, reads_failed, reads_unkept, reads_whole}
use Rattle.hls_commands.proofs.read_input.read_pieces.Goals as goal

pub returns-in-None-clause-reads : goal.returns-in-None-clause-reads
returns-in-None-clause-reads g c = λ stream known. reads_failed c.args.most stream c.pieces.bytes.items _ _ (c.pieces.invariant.reading stream known) c.in-None.ensures.kept

pub pieces-preserved : goal.pieces-preserved
pieces-preserved g c =
    let came : List ℕ = take c.in-Some.len c.read.new.buf in
    let len : length came ≡ c.in-Some.len = length-take-le c.in-Some.len c.read.new.buf c.in-Some.ensures.bound in
    let fewer : take c.count_held-held.result came ≡ take c.count_held-held.result c.read.new.buf =
    take-take c.count_held-held.result c.in-Some.len c.read.new.buf c.count_held-held.ensures.bound in
    let held : c.count_held-held.result ≡ held_len c.args.most (length c.pieces.bytes.items) (length came) = search rules in
    record {
      reading = λ stream known. subst (λ (bs : List ℕ). Reading c.args.most stream (g.R.Read.remaining (inner_of c.read.new.self)) bs) (ap (λ (bs : List ℕ). c.pieces.bytes.items ++ bs) fewer ∙ sym c.in-Ok.ensures.items)
          (reading_more c.args.most stream c.pieces.bytes.items came c.count_held-held.result _ _ (c.pieces.invariant.reading stream known) c.in-Some.ensures.bytes held);
      room = omega (arith, c.pieces.invariant.room, c.read.auto.buf);
      quiet = c.in-Some.ensures.quiet refl ∙ c.pieces.invariant.quiet;
    }

pub returns-in-Err-clause-reads : goal.returns-in-Err-clause-reads
returns-in-Err-clause-reads g c = λ stream known.
    reads_unkept c.args.most stream c.pieces.bytes.items (take c.in-Some.len c.read.new.buf) _ _ (c.pieces.invariant.reading stream known) c.in-Some.ensures.bytes

pub returns-clause-reads : goal.returns-clause-reads
returns-clause-reads g c = λ stream known.
    let none : take c.in-Some.len c.read.new.buf ≡ [] = ap (λ n. take n c.read.new.buf) c.if-len-eq0.true in
    reads_whole c.args.most stream c.pieces.bytes _ _ (c.pieces.invariant.reading stream known)
    (subst (λ (bs : List ℕ). Consumes (g.R.Read.remaining (inner_of c.pieces.input)) (g.R.Read.remaining (inner_of c.read.new.self)) bs) none c.in-Some.ensures.bytes)
    (c.in-Some.ensures.end c.if-len-eq0.true)
