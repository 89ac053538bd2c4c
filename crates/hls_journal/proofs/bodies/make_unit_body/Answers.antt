-- The unit's length, its checksum and its head, appended after the start of a body, are the body of the unit's record.
use Rattle.std.proofs.Common.{◌∙◌, ◌++◌, take, refl, ap, arith}
use Rattle.std.specs.Int.{w64, to_le_bytes}
use Rattle.hls_journal.proofs.Started.{unit_body_of}
use Rattle.hls_journal.proofs.bodies.make_unit_body.Goals as goal

pub returns : goal.returns
returns c =
    unit_body_of c.args.by c.args.rendition c.args.at c.in-Some.head_len c.args.unit.now c.in_ok-body.body.items c.extend_from_slice.new.self.items c.extend_from_slice-2.new.self.items
    (take c.in-Some.head_len c.args.unit.now) c.extend_from_slice-3.new.self.items
    (omega (arith, c.if-unit-gt-UNIT_LIMIT.false)) c.in-Some.ensures.0 c.in-Some.ensures.1 c.in_ok-body.ensures
    (c.in_ok-extend_from_slice.ensures.items ∙ ap (λ xs. c.in_ok-body.body.items ++ xs) c.to_le_bytes.ensures)
    (c.in_ok-extend_from_slice-2.ensures.items ∙ ap (λ xs. c.extend_from_slice.new.self.items ++ xs) (c.to_le_bytes-2.ensures ∙ ap (λ k. to_le_bytes w64 k) c.checksum_of.ensures))
    refl
    c.in_ok-extend_from_slice-3.ensures.items
