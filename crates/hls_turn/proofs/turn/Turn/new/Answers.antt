-- Each split keeps the rule of the turn (`forks`) and appends the pass of the next number (`next_pass`); at the end pass 0 is put before the others.
use Rattle.std.proofs.Common.{rules, ◌∙◌, ℕ, List, [], ◌∷◌, ◌++◌, sym, ap}
use Rattle.crossbeam_queue.specs.Passes.{view}
use Rattle.atomic_table.specs.Seated.{TableId}
use Rattle.hls_turn.specs.Rule.{split_view}
use Rattle.hls_turn.specs.Passes.{PassData, known_by}
use Rattle.hls_turn.specs.Calls.{opening_pass}
use Rattle.hls_turn.proofs.Steps.{forks}
use Rattle.hls_turn.proofs.Openings.{next_pass, all_passes}
use Rattle.hls_turn.proofs.turn.Turn.new.Goals as goal

pub another-queue_pass-requires-clause-rule : goal.another-queue_pass-requires-clause-rule
another-queue_pass-requires-clause-rule g c = forks c.args.snapshot c.loop-number.number c.loop-number.queue_pass.id (view c.loop-number.queue_pass) c.loop-number.invariant.first c.loop-number.invariant.knows

pub loop-number-preserved : goal.loop-number-preserved
loop-number-preserved g c =
    let turn : TableId = c.in_ok-queue.queue.table.shared.table_id in
    let passes : List PassData = c.loop-number.passes.items in
    let number : ℕ = c.loop-number.number in
    record {
      ours = search rules;
      first = search rules;
      knows = search rules;
      others = c.in_ok-push.ensures.items
          ∙ (λ i. passes ++ record { turn = c.another-queue_pass.ensures.queue.1.0 i; known = known_by ((c.another-queue_pass.ensures.rule.1 ∙ ap split_view c.loop-number.invariant.knows) i) } ∷ [])
          ∙ ap (λ (l : List PassData). l ++ opening_pass turn c.args.snapshot number ∷ []) c.loop-number.invariant.others
          ∙ sym (next_pass (opening_pass turn c.args.snapshot) number c.loop-number.auto.number);
    }

pub returns : goal.returns
returns g c =
    let turn : TableId = c.in_ok-queue.queue.table.shared.table_id in
    c.in_ok-insert.ensures.items
    ∙ (λ i. record { turn = c.loop-number.invariant.ours.0 i; known = known_by (c.loop-number.invariant.knows i) } ∷ c.loop-number.passes.items)
    ∙ ap (λ (l : List PassData). opening_pass turn c.args.snapshot 0 ∷ l) c.loop-number.invariant.others
    ∙ all_passes (opening_pass turn c.args.snapshot) c.args.workers c.loop-number.number c.requires.0 (search rules)
