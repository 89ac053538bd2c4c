-- With fewer than seven recent items the new one is appended to them (`recent_grown`); else all items are settled (`all_settled`).
use Rattle.std.proofs.Common.{◌≡◌, refl, ◌∙◌, ap, arith}
use Rattle.hls_blocks.proofs.Leaves.{recent_grown, all_settled, count_of_parts}
use Rattle.hls_blocks.proofs.leaf.LeafNode.push_item.Goals as goal

pub returns-then-recent-lt-RECENT-clause-value_of : goal.returns-then-recent-lt-RECENT-clause-value_of
returns-then-recent-lt-RECENT-clause-value_of g c =
    (recent_grown c.args.self.now record { first = c.args.self.now.first; settled = c.in_ok-clone.field-0; recent = c.in_ok-copy_with_last.field-0 } c.args.n c.args.item.value
    c.requires.next c.requires.place refl c.in_ok-clone.ensures.cases (rw c.as_slice-recent.ensures.value at c.in_ok-copy_with_last.ensures.values)).list

pub returns-then-recent-lt-RECENT-clause-sound : goal.returns-then-recent-lt-RECENT-clause-sound
returns-then-recent-lt-RECENT-clause-sound g c =
    (recent_grown c.args.self.now record { first = c.args.self.now.first; settled = c.in_ok-clone.field-0; recent = c.in_ok-copy_with_last.field-0 } c.args.n c.args.item.value
    c.requires.next c.requires.place refl c.in_ok-clone.ensures.cases (rw c.as_slice-recent.ensures.value at c.in_ok-copy_with_last.ensures.values)).node

pub copy_both_with_last-requires-clause-room : goal.copy_both_with_last-requires-clause-room
copy_both_with_last-requires-clause-room g c =
    let items : c.as_slice.result.now ≡ c.args.self.now.settled.value.items = c.as_slice.ensures.value ∙ ap (λ v. v.items) c.deref.ensures in
    rw (items, c.as_slice-recent.ensures.value) (omega (arith, count_of_parts c.args.self.now, c.requires.sound))

pub copy_both_with_last-requires-clause-count : goal.copy_both_with_last-requires-clause-count
copy_both_with_last-requires-clause-count g c =
    let items : c.as_slice.result.now ≡ c.args.self.now.settled.value.items = c.as_slice.ensures.value ∙ ap (λ v. v.items) c.deref.ensures in
    rw (items, c.as_slice-recent.ensures.value) (omega (arith, count_of_parts c.args.self.now, c.requires.sound))

pub returns-clause-value_of : goal.returns-clause-value_of
returns-clause-value_of g c =
    let items : c.as_slice.result.now ≡ c.args.self.now.settled.value.items = c.as_slice.ensures.value ∙ ap (λ v. v.items) c.deref.ensures in
    (all_settled c.args.self.now record { first = c.args.self.now.first; settled = c.in_ok-new.field-0; recent = c.new-2.result } c.args.n c.args.item.value
    c.requires.next c.requires.place refl (rw c.in_ok-new.ensures.ok (rw (items, c.as_slice-recent.ensures.value) at c.in_ok-settled.ensures.values)) c.new-2.ensures.items).list

pub returns-clause-sound : goal.returns-clause-sound
returns-clause-sound g c =
    let items : c.as_slice.result.now ≡ c.args.self.now.settled.value.items = c.as_slice.ensures.value ∙ ap (λ v. v.items) c.deref.ensures in
    (all_settled c.args.self.now record { first = c.args.self.now.first; settled = c.in_ok-new.field-0; recent = c.new-2.result } c.args.n c.args.item.value
    c.requires.next c.requires.place refl (rw c.in_ok-new.ensures.ok (rw (items, c.as_slice-recent.ensures.value) at c.in_ok-settled.ensures.values)) c.new-2.ensures.items).node
