-- A name, and as many zeros as fill 32 bytes, are the bytes of the name in a record.
use Rattle.std.proofs.Common.{◌∙◌, ◌-◌, ◌++◌, length, take, ap, arith}
use Rattle.std.specs.Prelude.{replicate}
use Rattle.std.proofs.lemmas.List.{take-replicate}
use Rattle.hls_journal.proofs.Pushed.{then_pushed}
use Rattle.hls_journal.proofs.channel.push_name.Goals as goal

pub returns : goal.returns
returns c =
    then_pushed c.args.out.now.items c.args.name.now c.extend_from_slice.new.self.items (replicate (32 - length c.args.name.now) 0) c.extend_from_slice-2.new.self.items
    c.in_ok-extend_from_slice.ensures.items
    (c.in_ok-extend_from_slice-2.ensures.items
    ∙ ap (λ xs. c.extend_from_slice.new.self.items ++ xs)
    (ap (λ k. take k (replicate 32 0)) c.saturating_sub.ensures ∙ take-replicate (32 - length c.args.name.now) 32 0 (omega arith)))
