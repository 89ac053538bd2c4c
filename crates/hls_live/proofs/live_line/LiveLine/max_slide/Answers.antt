-- If removing `middle` segments doesn't leave enough, neither does removing more (`leaves-more`), so `middle` is the new `high`.
use Rattle.std.proofs.Common.{ℕ, ◌+◌, ◌-◌, ◌/◌, ◌<◌, ◌≤◌, ◌⊎◌, arith, sym, inl, inr, ◌∙◌}
use Rattle.std.proofs.lemmas.Bool.{false≢true}
use Rattle.hls_live.proofs.Cited.{leaves-more}
use Rattle.hls_live.proofs.live_line.LiveLine.max_slide.Goals as goal

pub loop-high-preserved : goal.loop-high-preserved
loop-high-preserved c =
    let live = c.args.self.now in
    let middle : ℕ = c.loop-high.low + (c.loop-high.high - c.loop-high.low) / 2 in
    let below : middle < c.loop-high.high = omega arith in
    let above : c.loop-high.low < middle = omega arith in
    record {
      leaves = c.loop-high.invariant.leaves;
      most = λ m leaves.
          let either : (m < middle) ⊎ (middle ≤ m) = grind arith in
          elim either [
            | inl less ↦ less
            | inr more ↦ absurd (false≢true (sym c.if-leaves_window.false ∙ c.leaves_window.ensures.1 (leaves-more _ _ _ _ m middle leaves more)))
          ];
      order = above;
      within = omega (arith, c.loop-high.invariant.within, below);
    }
