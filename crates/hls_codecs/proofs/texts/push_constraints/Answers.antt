-- The text gets a point and a hexadecimal number for each constraint byte up to the last one that isn't 0; zeros at the end get nothing.
use Rattle.std.proofs.Common.{◌++◌, sym, ◌∙◌}
use Rattle.std.proofs.lemmas.List.{take_rest}
use Rattle.hls_codecs.specs.Texts.{constraint_texts}
use Rattle.hls_codecs.proofs.TextLaws.{constraint-pushed, constraints-done}
use Rattle.hls_codecs.proofs.texts.push_constraints.Goals as goal

pub bytes-preserved : goal.bytes-preserved
bytes-preserved c =
    rw (take_rest c.bytes.rest.now 1)
    (constraint-pushed (c.args.out.now.items ++ constraint_texts c.args.bytes.now) c.bytes.out.items c.push.new.self.items c.push_hex_number.new.out.items c.bytes.rest.now c.from.result
    c.in-len1-up.len_at_least (sym c.are_zero.ensures ∙ c.bytes-test.true) c.from.ensures c.in_ok-push.ensures.items c.in_ok-push_hex_number.ensures c.bytes.invariant)

pub returns : goal.returns
returns c = constraints-done (c.args.out.now.items ++ constraint_texts c.args.bytes.now) c.bytes.out.items c.bytes.rest.now (sym c.are_zero.ensures ∙ c.bytes-test.false) c.bytes.invariant
