-- The length, the checksum and the body, appended one after another, are the bytes of the record.
use Rattle.std.proofs.Common.{◌∙◌, ◌++◌, ap}
use Rattle.std.specs.Int.{w64, to_le_bytes}
use Rattle.hls_journal_log.proofs.Headers.{record_pushed}
use Rattle.hls_journal_log.proofs.write.push_record.Goals as goal

pub returns : goal.returns
returns c =
    record_pushed c.args.out.now.items c.args.number c.args.body.now c.extend_from_slice.new.self.items c.extend_from_slice-2.new.self.items c.extend_from_slice-3.new.self.items
    (c.in_ok-extend_from_slice.ensures.items ∙ ap (λ xs. c.args.out.now.items ++ xs) c.to_le_bytes.ensures)
    (c.in_ok-extend_from_slice-2.ensures.items ∙ ap (λ xs. c.extend_from_slice.new.self.items ++ xs) (c.to_le_bytes-2.ensures ∙ ap (λ k. to_le_bytes w64 k) c.checksum_of-sum.ensures))
    c.in_ok-extend_from_slice-3.ensures.items
