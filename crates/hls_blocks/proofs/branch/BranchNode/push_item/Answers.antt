-- The item goes into a new child if the last one is full (`pushed_behind`), else into the last one (`pushed_last`).
use Rattle.std.proofs.Common.{◌<◌, ◌≤◌, length, map}
use Rattle.std.proofs.lemmas.List.{length-map}
use Rattle.hls_blocks.proofs.Last.{room_behind, open_last, pushed_last, pushed_behind, list_by, node_by}
use Rattle.hls_blocks.proofs.branch.BranchNode.push_item.Goals as goal

pub returns-then-at-others-clause-value_of : goal.returns-then-at-others-clause-value_of
returns-then-at-others-clause-value_of g c =
    let others = map (λ x. x.value) c.args.self.now.others.value.items in
    let past : length others < c.locate_child-at.result.0 = simp length-map (rw (c.as_slice-others.ensures.value, c.deref.ensures) at c.if-at-others.true) in
    let next = pushed_behind g.C.Node.value_of g.C.Node.sound g.C.Node.max_items c.args.self.now.slot c.args.n others c.args.self.now.last.value c.locate_child-at.result.0 c.locate_child-at.result.1
    c.in_ok-child.child c.args.item.value c.requires.sound c.locate_child-at.ensures c.requires.next c.requires.place past c.in_ok-child.ensures.value_of c.in_ok-child.ensures.sound in
    list_by g.C.Node.value_of g.C.Node.max_items _ _ _ c.with_child.result c.with_child.ensures.all next.list

pub returns-then-at-others-clause-sound : goal.returns-then-at-others-clause-sound
returns-then-at-others-clause-sound g c =
    let others = map (λ x. x.value) c.args.self.now.others.value.items in
    let past : length others < c.locate_child-at.result.0 = simp length-map (rw (c.as_slice-others.ensures.value, c.deref.ensures) at c.if-at-others.true) in
    let next = pushed_behind g.C.Node.value_of g.C.Node.sound g.C.Node.max_items c.args.self.now.slot c.args.n others c.args.self.now.last.value c.locate_child-at.result.0 c.locate_child-at.result.1
    c.in_ok-child.child c.args.item.value c.requires.sound c.locate_child-at.ensures c.requires.next c.requires.place past c.in_ok-child.ensures.value_of c.in_ok-child.ensures.sound in
    node_by g.C.Node.value_of g.C.Node.sound g.C.Node.max_items _ _ c.with_child.result c.with_child.ensures.all next.node

pub push_item-requires-clause-sound : goal.push_item-requires-clause-sound
push_item-requires-clause-sound g c =
    let others = map (λ x. x.value) c.args.self.now.others.value.items in
    let few : c.locate_child-at.result.0 ≤ length others = simp length-map (rw (c.as_slice-others.ensures.value, c.deref.ensures) at c.if-at-others.false) in
    rw c.deref-2.ensures (open_last g.C.Node.value_of g.C.Node.sound g.C.Node.max_items c.args.self.now.slot c.args.n others c.args.self.now.last.value c.locate_child-at.result.0 c.locate_child-at.result.1
    c.requires.sound c.locate_child-at.ensures c.requires.next few).is_sound

pub push_item-requires-clause-next : goal.push_item-requires-clause-next
push_item-requires-clause-next g c =
    let others = map (λ x. x.value) c.args.self.now.others.value.items in
    let few : c.locate_child-at.result.0 ≤ length others = simp length-map (rw (c.as_slice-others.ensures.value, c.deref.ensures) at c.if-at-others.false) in
    rw c.deref-2.ensures (open_last g.C.Node.value_of g.C.Node.sound g.C.Node.max_items c.args.self.now.slot c.args.n others c.args.self.now.last.value c.locate_child-at.result.0 c.locate_child-at.result.1
    c.requires.sound c.locate_child-at.ensures c.requires.next few).next

pub returns-clause-value_of : goal.returns-clause-value_of
returns-clause-value_of g c =
    let others = map (λ x. x.value) c.args.self.now.others.value.items in
    let few : c.locate_child-at.result.0 ≤ length others = simp length-map (rw (c.as_slice-others.ensures.value, c.deref.ensures) at c.if-at-others.false) in
    rw (c.in_ok-clone.ensures.cases, c.in_ok-new.ensures.ok)
    (pushed_last g.C.Node.value_of g.C.Node.sound g.C.Node.max_items c.args.self.now.slot c.args.n others c.args.self.now.last.value c.locate_child-at.result.0 c.locate_child-at.result.1
    c.in_ok-last.last c.args.item.value c.requires.sound c.locate_child-at.ensures c.requires.next c.requires.place few (rw c.deref-2.ensures at c.in_ok-last.ensures.value_of) c.in_ok-last.ensures.sound).list

pub returns-clause-sound : goal.returns-clause-sound
returns-clause-sound g c =
    let others = map (λ x. x.value) c.args.self.now.others.value.items in
    let few : c.locate_child-at.result.0 ≤ length others = simp length-map (rw (c.as_slice-others.ensures.value, c.deref.ensures) at c.if-at-others.false) in
    rw (c.in_ok-clone.ensures.cases, c.in_ok-new.ensures.ok)
    (pushed_last g.C.Node.value_of g.C.Node.sound g.C.Node.max_items c.args.self.now.slot c.args.n others c.args.self.now.last.value c.locate_child-at.result.0 c.locate_child-at.result.1
    c.in_ok-last.last c.args.item.value c.requires.sound c.locate_child-at.ensures c.requires.next c.requires.place few (rw c.deref-2.ensures at c.in_ok-last.ensures.value_of) c.in_ok-last.ensures.sound).node

pub with_child-requires-clause-few : goal.with_child-requires-clause-few
with_child-requires-clause-few g c =
    let others = map (λ x. x.value) c.args.self.now.others.value.items in
    let past : length others < c.locate_child-at.result.0 = simp length-map (rw (c.as_slice-others.ensures.value, c.deref.ensures) at c.if-at-others.true) in
    room_behind g.C.Node.value_of g.C.Node.sound g.C.Node.max_items c.args.self.now.slot c.args.n others c.args.self.now.last.value c.locate_child-at.result.0 c.locate_child-at.result.1
    c.locate_child-at.ensures c.requires.place past

pub new_with_item-requires-clause-place : goal.new_with_item-requires-clause-place
new_with_item-requires-clause-place g c = c.locate_child-at.ensures.index_is.inside

pub push_item-requires-clause-place : goal.push_item-requires-clause-place
push_item-requires-clause-place g c = c.locate_child-at.ensures.index_is.inside
