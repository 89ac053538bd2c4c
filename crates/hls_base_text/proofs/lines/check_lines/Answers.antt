-- A known line leaves the checks of the lines after it.
use Rattle.std.proofs.Common.{◌≡◌, ◌∙◌, ℕ, suc, ◌+◌, true, rules, arith, sym, ap}
use Rattle.hls_base_text.specs.BaseText.{is_known, names_of}
use Rattle.hls_base_text.proofs.LineSteps.{checks_from, known_line}
use Rattle.hls_base_text.proofs.lines.check_lines.Goals as goal

pub loop-line-preserved : goal.loop-line-preserved
loop-line-preserved c =
    let known : is_known (names_of c.args.renditions.now) c.in-Some.line.now ≡ true = search rules in
    let next : c.loop-line.number + 1 ≡ suc c.loop-line.number = omega arith in (
      ap (λ (k : ℕ). checks_from (names_of c.args.renditions.now) k c.in-Some.after.now) next
          ∙ (sym (known_line (names_of c.args.renditions.now) c.loop-line.number c.loop-line.rest.now c.in-Some.line.now c.in-Some.after.now c.in-Some.ensures.line known)
          ∙ c.loop-line.invariant.0),
      omega (arith, c.in-Some.ensures.shorter, c.loop-line.invariant.1),
    )
