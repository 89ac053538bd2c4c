-- Divided by the capacity of a child, n gives the child's slot and the number inside it, also if n is the number of the next item.
use Rattle.hls_blocks.proofs.Held.{place}
use Rattle.std.proofs.lemmas.List.{length-map}
use Rattle.hls_blocks.proofs.branch.locate_child.Goals as goal

pub returns : goal.returns
returns g c = rw c.capacity-width.ensures.value
    (place g.C.Node.max_items c.args.node.now.slot c.args.n _ (rw c.capacity-width.ensures.value at c.capacity-width.ensures.some) (rw length-map c.requires.sound.some) c.requires.sound.chain c.requires.low)
