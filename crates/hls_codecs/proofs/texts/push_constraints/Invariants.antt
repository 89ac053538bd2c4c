-- Before each round, the text so far and that of the remaining bytes are the text before and that of all bytes. The rest gets shorter.
use Rattle.std.proofs.Common.{◌≡◌, ◌++◌, length}
use Rattle.hls_codecs.specs.Texts.{constraint_texts}
use Rattle.hls_codecs.proofs.texts.push_constraints.Given as goal

abbrev pub invariant-bytes : goal.invariant-bytes
invariant-bytes l = l.out.items ++ constraint_texts l.rest ≡ l.initial.out.items ++ constraint_texts l.fn.bytes

abbrev pub decreases-bytes : goal.decreases-bytes
decreases-bytes l = length l.rest
