-- The only child is in the slot of the number, and has the item (`single_node`).
use Rattle.std.proofs.Common.{[], ◌∷◌}
use Rattle.std.proofs.lemmas.Nat.{div-add-mod'}
use Rattle.hls_blocks.proofs.Held.{single_node}
use Rattle.hls_blocks.proofs.branch.BranchNode.new_with_item.Goals as goal

pub returns-clause-value_of : goal.returns-clause-value_of
returns-clause-value_of g c =
    rw (c.in_ok-new.ensures.ok, c.new.ensures.items, c.in_ok-new-2.ensures.ok, c.in_ok-child.ensures.value_of, c.capacity-width.ensures.value)
    (λ i. record { first = div-add-mod' c.args.n g.C.Node.max_items i; items = c.args.item.value ∷ [] })

pub returns-clause-sound : goal.returns-clause-sound
returns-clause-sound g c =
    rw (c.in_ok-new.ensures.ok, c.new.ensures.items, c.in_ok-new-2.ensures.ok, c.capacity-width.ensures.value)
    (single_node g.C.Node.value_of g.C.Node.sound g.C.Node.max_items c.args.n c.in_ok-child.child c.args.item.value (rw c.capacity-width.ensures.value at c.capacity-width.ensures.some) c.requires.place
    (rw c.capacity-width.ensures.value at c.in_ok-child.ensures.value_of) c.in_ok-child.ensures.sound)
