-- A run of the child that contains item n is a run of the whole node: it begins with item n, and the items after it are the node's next ones.
use Rattle.std.proofs.Common.{arith}
use Rattle.std.proofs.lemmas.List.{length-map}
use Rattle.hls_blocks.proofs.Held.{run_of}
use Rattle.hls_blocks.proofs.branch.BranchNode.run_at.Goals as goal

pub returns-clause-run : goal.returns-clause-run
returns-clause-run g c =
    let found = c.find_child-inner.ensures in
    run_of g.C.Node.max_items c.args.self.now.slot c.args.n _ c.find_child-inner.result.0 c.find_child-inner.result.1 _ (g.C.Node.value_of c.find_child-inner.result.2.now) _
    c.requires.sound.chain found.number (simp length-map found.within) found.child_is found.low (omega (arith, found.high)) (length-map _ _) c.run_at.ensures.run
