-- By the part in which the number is: the settled items (`run_in_front`) or the recent ones (`run_behind`).
use Rattle.std.proofs.Common.{◌≡◌, ◌∙◌, refl, ap}
use Rattle.hls_blocks.proofs.Runs.{run_in_front, run_behind}
use Rattle.hls_blocks.proofs.leaf.LeafNode.run_at.Goals as goal

pub returns-then-from-settled-clause-run : goal.returns-then-from-settled-clause-run
returns-then-from-settled-clause-run g c =
    let leaf = c.args.self.now in
    let settled : c.as_slice-settled.result.now ≡ leaf.settled.value.items = c.as_slice-settled.ensures.value ∙ ap (λ v. v.items) c.deref.ensures in
    rw settled (run_in_front (λ x. x.value) leaf.settled.value.items leaf.recent.items _ c.args.n leaf.first refl c.requires.low (rw settled at c.if-from-settled.true))

pub returns-clause-run : goal.returns-clause-run
returns-clause-run g c =
    let leaf = c.args.self.now in
    let settled : c.as_slice-settled.result.now ≡ leaf.settled.value.items = c.as_slice-settled.ensures.value ∙ ap (λ v. v.items) c.deref.ensures in
    rw (settled, c.as_slice-recent.ensures.value)
    (run_behind (λ x. x.value) leaf.settled.value.items leaf.recent.items _ c.args.n leaf.first refl c.requires.low (rw settled at c.if-from-settled.false) c.requires.high)
