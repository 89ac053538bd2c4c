-- All floors begin at 0, and each record raises them. The slice that it is given is the whole list.
use Rattle.std.proofs.Common.{◌≡◌, ◌∙◌, ℕ, ◌++◌, length, take, drop, get_or, ap, rules}
use Rattle.std.specs.Prelude.{max, replicate}
use Rattle.std.proofs.lemmas.List.{get_or-replicate, length-replicate}
use Rattle.hls_journal_laws.specs.Floors.{floor_in}
use Rattle.hls_journal.proofs.HighestFloors.{no_floors, more_floors, written_back}
use Rattle.hls_journal.proofs.floors.find_floors.Goals as goal

pub loop-body-init : goal.loop-body-init
loop-body-init c =
    let zeros : c.in_ok-floors.floors.items ≡ replicate 256 0 = c.in_ok-floors.ensures.items_if_clones_equal (λ y h. h) in
    no_floors c.args.bodies.now c.in_ok-floors.floors.items (ap length zeros ∙ length-replicate {A = ℕ} 256 0)
    (λ r below. ap (λ xs. get_or xs r 0) zeros ∙ get_or-replicate 256 r 0 0 below)

pub loop-body-preserved : goal.loop-body-preserved
loop-body-preserved c =
    let len : c.loop-body.floors.len ≡ 256 = search rules in
    let new_len : length c.raise_floor.new.floors ≡ 256 = c.raise_floor.ensures.len in
    let back = written_back c.raise_floor.new.floors c.loop-body.floors.items c.loop-body.floors.len len new_len in
    more_floors c.args.bodies.now c.loop-body.body-index c.body-item.result c.loop-body.floors.items
    (take c.loop-body.floors.len (c.raise_floor.new.floors ++ drop (length c.raise_floor.new.floors) c.loop-body.floors.items))
    c.loop-body-test.true c.body-item.is (ap length back ∙ new_len)
    (λ r. ap (λ xs. get_or xs r 0) back ∙ c.raise_floor.ensures.floors r ∙ ap (λ xs. max (get_or xs r 0) (floor_in c.deref.result.now r)) c.deref_mut.ensures.value ∙ ap (λ b. max (get_or c.loop-body.floors.items r 0) (floor_in b r)) c.deref.ensures)
    c.loop-body.invariant
