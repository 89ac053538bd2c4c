-- The header lines of the table are appended: the version lines, the target, the preferred length,
-- and the numbers of renditions and places.
use Rattle.std.proofs.Common.{ℕ, ◌++◌, ap, ◌∙◌, [], ◌∷◌}
use Rattle.hls_text.specs.Lines.{text_of_lines}
use Rattle.hls_check_tables.specs.declared.goal.Goal.{Goal}
use Rattle.hls_check.specs.Text.{rule_lines, target_line, preferred_line, renditions_line, places_line}
use Rattle.hls_check.proofs.Written.{head_written}
use Rattle.hls_check.proofs.writer.push_head.Goals as goal

pub returns : goal.returns
returns c =
    head_written c.args.out.now.items c.args.table.now c.push_rule.new.out.items c.push_number_line.new.out.items
    c.push_number_line-2.new.out.items c.push_number_line-3.new.out.items c.push_number_line-4.new.out.items
    (c.in_ok-push_rule.ensures ∙ ap (λ (g : Goal). c.args.out.now.items ++ text_of_lines (rule_lines g.rule)) c.goal-goal.ensures)
    (c.in_ok-push_number_line.ensures ∙ ap (λ (g : Goal). c.push_rule.new.out.items ++ text_of_lines (target_line g.target ∷ [])) c.goal-goal.ensures)
    (c.in_ok-push_number_line-2.ensures ∙ ap (λ (g : Goal). c.push_number_line.new.out.items ++ text_of_lines (preferred_line g.preferred ∷ [])) c.goal-goal.ensures)
    (c.in_ok-push_number_line-3.ensures ∙ ap (λ (n : ℕ). c.push_number_line-2.new.out.items ++ text_of_lines (renditions_line n ∷ [])) c.rendition_count.ensures)
    (c.in_ok-push_number_line-4.ensures ∙ ap (λ (n : ℕ). c.push_number_line-3.new.out.items ++ text_of_lines (places_line n ∷ [])) c.len.ensures.len)
