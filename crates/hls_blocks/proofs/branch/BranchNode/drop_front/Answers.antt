-- The child of the new first item loses its own front, and those before it are gone (`left_node`).
use Rattle.std.proofs.Common.{refl}
use Rattle.hls_blocks.specs.Tree.{children}
use Rattle.hls_blocks.proofs.Held.{left_node}
use Rattle.hls_blocks.proofs.Last.{list_by, node_by}
use Rattle.hls_blocks.proofs.branch.BranchNode.drop_front.Goals as goal

pub returns-clause-value_of : goal.returns-clause-value_of
returns-clause-value_of g c =
    let found = c.find_child-at.ensures in
    let left = left_node g.C.Node.value_of g.C.Node.sound g.C.Node.max_items c.args.self.now.slot c.args.n (children c.args.self.now) _ c.find_child-at.result.0 c.find_child-at.result.1 (g.C.Node.value_of c.find_child-at.result.2.now)
    c.in_ok-child.child c.requires.sound found.number found.within found.child_is found.low found.high c.in_ok-child.ensures.value_of c.in_ok-child.ensures.sound refl in
    list_by g.C.Node.value_of g.C.Node.max_items _ _ _ c.with_first_child.result c.with_first_child.ensures left.list

pub returns-clause-sound : goal.returns-clause-sound
returns-clause-sound g c =
    let found = c.find_child-at.ensures in
    let left = left_node g.C.Node.value_of g.C.Node.sound g.C.Node.max_items c.args.self.now.slot c.args.n (children c.args.self.now) _ c.find_child-at.result.0 c.find_child-at.result.1 (g.C.Node.value_of c.find_child-at.result.2.now)
    c.in_ok-child.child c.requires.sound found.number found.within found.child_is found.low found.high c.in_ok-child.ensures.value_of c.in_ok-child.ensures.sound refl in
    node_by g.C.Node.value_of g.C.Node.sound g.C.Node.max_items _ _ c.with_first_child.result c.with_first_child.ensures left.node
