-- The zeros so far and those left are always as many as asked for. After the loop none are left.
use Rattle.std.proofs.Common.{◌≡◌, ◌∙◌, ap, sym, arith, ◌++◌, replicate, refl}
use Rattle.std.proofs.lemmas.List.{append-nil, take-replicate}
use Rattle.hls_journal.proofs.Blocks.{block_pushed}
use Rattle.hls_journal.proofs.zeros.push_zeros.Goals as goal

pub loop-left-init : goal.loop-left-init
loop-left-init c = ap (λ xs. xs ++ replicate c.args.count 0) c.in_ok-reserve.ensures.items

pub loop-left-preserved : goal.loop-left-preserved
loop-left-preserved c =
    block_pushed c.loop-left.out.items c.extend_from_slice.new.self.items _ (c.args.out.now.items ++ replicate c.args.count 0) c.loop-left.left c.min-more.result (omega (arith, c.min-more.ensures))
    (take-replicate c.min-more.result 4096 0 (omega (arith, c.min-more.ensures))) c.in_ok-extend_from_slice.ensures.items c.loop-left.invariant

pub returns : goal.returns
returns c =
    let none : 0 ≡ c.loop-left.left = omega (arith, c.loop-left-test.false) in
    sym (append-nil c.loop-left.out.items) ∙ ap (λ n. c.loop-left.out.items ++ replicate n 0) none ∙ c.loop-left.invariant
