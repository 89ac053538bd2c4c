-- After the line of a rendition is written, those of the renditions after it remain to be written.
use Rattle.std.proofs.Common.{◌≡◌, ◌∙◌, ℕ, ◌+◌, ◌<◌, ◌++◌, List, length, drop, get_or, rules, arith, sym, ap, append_assoc}
use Rattle.hls_core_laws.specs.declared.rendition.Rendition.{Rendition}
use Rattle.hls_core_laws.specs.Base.{bytes_before_base}
use Rattle.hls_base_text.specs.BaseText.{bytes_line, bytes_lines, names_of}
use Rattle.hls_base_text.proofs.Written.{lines_next}
use Rattle.hls_base_text.proofs.write.push_bytes_lines.Goals as goal

pub loop-number-preserved : goal.loop-number-preserved
loop-number-preserved c =
    let names : List (List ℕ) = names_of c.args.renditions.now in
    let r : ℕ = c.loop-number.number in
    let d : Rendition = c.index-renditions-number.result in
    let inside : r < length c.args.renditions.now = search rules in
    let here : get_or c.args.renditions.now r d ≡ d = search rules in
    let rest : List ℕ = bytes_lines c.args.base.now (drop (r + 1) names) (r + 1) in
    let line : List ℕ = bytes_line d.name (bytes_before_base c.args.base.now r) in
    let pushed : c.push_bytes_line.new.out.items ≡ c.loop-number.out.items ++ line = search rules in
    let next : line ++ rest ≡ bytes_lines c.args.base.now (drop r names) r =
    ap (λ (x : Rendition). bytes_line x.name (bytes_before_base c.args.base.now r) ++ rest) (sym here)
    ∙ sym (lines_next c.args.base.now c.args.renditions.now r d inside) in (
      ap (λ (l : List ℕ). l ++ rest) pushed
          ∙ (append_assoc c.loop-number.out.items line rest
          ∙ (ap (λ (l : List ℕ). c.loop-number.out.items ++ l) next ∙ c.loop-number.invariant.0)),
      omega (arith, inside),
    )
