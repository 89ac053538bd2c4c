-- The plan line is appended: the first place of the plan after the word, and each further one after a space.
use Rattle.std.proofs.Common.{ℕ, List, ◌≡◌, ◌++◌, subst}
use Rattle.std.proofs.lemmas.List.{take_rest}
use Rattle.hls_text.specs.Numbers.{spaced_numbers}
use Rattle.hls_check.proofs.Written.{plan_written}
use Rattle.hls_check.proofs.writer.push_plan.Goals as goal

pub returns : goal.returns
returns c =
    plan_written c.args.out.now.items c.args.plan.now c.extend_from_slice.new.self.items c.push_number.new.out.items
    c.push_more_places.new.out.items c.push.new.self.items c.requires
    c.in_ok-extend_from_slice.ensures.items c.in_ok-push_number.ensures
    (subst (λ (xs : List ℕ). c.push_more_places.new.out.items ≡ c.push_number.new.out.items ++ spaced_numbers xs) (take_rest c.args.plan.now 1)
    c.in_ok-push_more_places.ensures)
    c.in_ok-push.ensures.items
