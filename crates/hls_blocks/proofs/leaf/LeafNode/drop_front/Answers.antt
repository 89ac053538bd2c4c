-- By the part in which the new first item is: the settled items (`left_in_front`) or the recent ones (`left_behind`).
use Rattle.std.proofs.Common.{◌≡◌, ◌∙◌, refl, ap}
use Rattle.std.proofs.lemmas.List.{take_rest}
use Rattle.hls_blocks.proofs.Leaves.{left_in_front, left_behind}
use Rattle.hls_blocks.proofs.leaf.LeafNode.drop_front.Goals as goal

pub returns-then-from-settled-clause-value_of : goal.returns-then-from-settled-clause-value_of
returns-then-from-settled-clause-value_of g c =
    let settled : c.as_slice-settled.result.now ≡ c.args.self.now.settled.value.items = c.as_slice-settled.ensures.value ∙ ap (λ v. v.items) c.deref.ensures in
    (left_in_front c.args.self.now record { first = c.args.n; settled = c.in_ok-new.field-0; recent = c.in_ok-copy_entries.field-0 } c.args.n
    c.requires.sound c.requires.low c.requires.high refl (rw settled at c.if-from-settled.true)
    (rw c.in_ok-new.ensures.ok (rw (take_rest, settled) at c.in_ok-rest.ensures)) (rw c.as_slice-recent.ensures.value at c.in_ok-copy_entries.ensures)).list

pub returns-then-from-settled-clause-sound : goal.returns-then-from-settled-clause-sound
returns-then-from-settled-clause-sound g c =
    let settled : c.as_slice-settled.result.now ≡ c.args.self.now.settled.value.items = c.as_slice-settled.ensures.value ∙ ap (λ v. v.items) c.deref.ensures in
    (left_in_front c.args.self.now record { first = c.args.n; settled = c.in_ok-new.field-0; recent = c.in_ok-copy_entries.field-0 } c.args.n
    c.requires.sound c.requires.low c.requires.high refl (rw settled at c.if-from-settled.true)
    (rw c.in_ok-new.ensures.ok (rw (take_rest, settled) at c.in_ok-rest.ensures)) (rw c.as_slice-recent.ensures.value at c.in_ok-copy_entries.ensures)).node

pub returns-clause-value_of : goal.returns-clause-value_of
returns-clause-value_of g c =
    let settled : c.as_slice-settled.result.now ≡ c.args.self.now.settled.value.items = c.as_slice-settled.ensures.value ∙ ap (λ v. v.items) c.deref.ensures in
    (left_behind c.args.self.now record { first = c.args.n; settled = c.in_ok-new-2.field-0; recent = c.in_ok-copy_entries-2.field-0 } c.args.n
    c.requires.sound c.requires.low c.requires.high refl (rw settled at c.if-from-settled.false)
    (rw c.in_ok-new-2.ensures.ok c.new-2.ensures.items) (rw (take_rest, settled, c.as_slice-recent.ensures.value) at c.in_ok-copy_entries-2.ensures)).list

pub returns-clause-sound : goal.returns-clause-sound
returns-clause-sound g c =
    let settled : c.as_slice-settled.result.now ≡ c.args.self.now.settled.value.items = c.as_slice-settled.ensures.value ∙ ap (λ v. v.items) c.deref.ensures in
    (left_behind c.args.self.now record { first = c.args.n; settled = c.in_ok-new-2.field-0; recent = c.in_ok-copy_entries-2.field-0 } c.args.n
    c.requires.sound c.requires.low c.requires.high refl (rw settled at c.if-from-settled.false)
    (rw c.in_ok-new-2.ensures.ok c.new-2.ensures.items) (rw (take_rest, settled, c.as_slice-recent.ensures.value) at c.in_ok-copy_entries-2.ensures)).node
