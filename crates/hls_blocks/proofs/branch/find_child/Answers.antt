-- The child of an item exists (`locate_child`); it is one of the others (`other_at`) or the last one (`last_at`).
use Rattle.std.proofs.Common.{◌≡◌, ◌<◌, ◌≤◌, length, map, get_or, ◌∙◌, ap, arith}
use Rattle.std.proofs.lemmas.List.{length-map}
use Rattle.hls_blocks.specs.Tree.{children}
use Rattle.hls_blocks.proofs.Held.{found}
use Rattle.hls_blocks.proofs.Last.{other_at, last_at, count_of}
use Rattle.hls_blocks.proofs.branch.find_child.Goals as goal

pub returns-then-at-others : goal.returns-then-at-others
returns-then-at-others g c =
    let items : c.as_slice-others.result.now ≡ c.args.node.now.others.value.items = c.as_slice-others.ensures.value ∙ ap (λ v. v.items) c.deref.ensures in
    let child_is = other_at (λ x. x.value) c.args.node.now.others.value.items c.args.node.now.last.value c.locate_child-at.result.0 c.index-others-at.result c.deref-then-at-others.result.now
    (rw items at c.index-others-at.is) c.deref-then-at-others.ensures (rw items at c.if-at-others.true) in
    let child = found g.C.Node.value_of g.C.Node.sound (children c.args.node.now) c.locate_child-at.result.0 c.locate_child-at.result.1 c.deref-then-at-others.result.now
    child_is c.requires.sound.all (c.locate_child-at.ensures.kept c.requires.high) in
    record {
      number = c.locate_child-at.ensures.index_is.number;
      within = child.within;
      child_is = child.child_is;
      sound = child.is_sound;
      low = child.low;
      high = child.high;
    }

pub returns : goal.returns
returns g c =
    let items : c.as_slice-others.result.now ≡ c.args.node.now.others.value.items = c.as_slice-others.ensures.value ∙ ap (λ v. v.items) c.deref.ensures in
    let kept = c.locate_child-at.ensures.kept c.requires.high in
    let others = map (λ x. x.value) c.args.node.now.others.value.items in
    let few : length others ≤ c.locate_child-at.result.0 = simp length-map (rw items at c.if-at-others.false) in
    let within : c.locate_child-at.result.0 < length (children c.args.node.now) = simp length-map at kept.child in
    let tail : c.locate_child-at.result.0 ≡ length others = omega (arith, count_of others c.args.node.now.last.value) in
    let child_is : get_or (children c.args.node.now) c.locate_child-at.result.0 c.deref-2.result.now ≡ c.deref-2.result.now =
    rw c.deref-2.ensures (last_at others c.args.node.now.last.value c.locate_child-at.result.0 tail) in
    let child = found g.C.Node.value_of g.C.Node.sound (children c.args.node.now) c.locate_child-at.result.0 c.locate_child-at.result.1 c.deref-2.result.now
    child_is c.requires.sound.all kept in
    record {
      number = c.locate_child-at.ensures.index_is.number;
      within = child.within;
      child_is = child.child_is;
      sound = child.is_sound;
      low = child.low;
      high = child.high;
    }
