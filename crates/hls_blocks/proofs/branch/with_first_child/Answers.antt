-- The new child precedes those of the others that are left, or it is the only one if the last child is replaced.
use Rattle.std.proofs.Common.{◌≡◌, ◌+◌, ◌<◌, ◌≤◌, suc, [], ◌∷◌, ◌++◌, add-one, length, map, refl, ◌∙◌, sym, ap, arith}
use Rattle.std.proofs.lemmas.List.{take_rest, drop_all, drop-map, length-map, length-drop}
use Rattle.hls_blocks.proofs.Last.{others_from, count_of}
use Rattle.hls_blocks.proofs.branch.with_first_child.Goals as goal

pub copy_with_first-requires : goal.copy_with_first-requires
copy_with_first-requires g c =
    let node = c.args.node.now in
    let items : c.as_slice-others.result.now ≡ node.others.value.items = c.as_slice-others.ensures.value ∙ ap (λ v. v.items) c.deref.ensures in
    let all = map (λ x. x.value) node.others.value.items in
    rw (take_rest, items) (omega (arith, length-drop (c.args.at + 1) node.others.value.items, c.requires.few, count_of all node.last.value, length-map node.others.value.items (λ x. x.value)))

pub returns-then-at-others : goal.returns-then-at-others
returns-then-at-others g c =
    let node = c.args.node.now in
    let items : c.as_slice-others.result.now ≡ node.others.value.items = c.as_slice-others.ensures.value ∙ ap (λ v. v.items) c.deref.ensures in
    let others = rw (take_rest, items, ← drop-map, add-one, c.in_ok-child.ensures.ok) at c.in_ok-others.ensures in
    let within : c.args.at < length (map (λ x. x.value) node.others.value.items) = simp length-map (rw items at c.if-at-others.true) in
    record {
      starts_at = refl;
      children_are = rw (c.in_ok-new.ensures.ok, c.in_ok-clone.ensures.cases)
          (ap (λ ys. ys ++ node.last.value ∷ []) others ∙ ap (λ ys. c.args.child ∷ ys) (sym (others_from (map (λ x. x.value) node.others.value.items) node.last.value c.args.at within)));
    }

pub returns : goal.returns
returns g c =
    let node = c.args.node.now in
    let items : c.as_slice-others.result.now ≡ node.others.value.items = c.as_slice-others.ensures.value ∙ ap (λ v. v.items) c.deref.ensures in
    let all = map (λ x. x.value) node.others.value.items in
    let past : length all ≤ c.args.at = simp length-map (rw items at c.if-at-others.false) in
    record {
      starts_at = refl;
      children_are = rw (c.in_ok-new-2.ensures.ok, c.new-2.ensures.items, c.in_ok-child.ensures.ok, drop_all (suc c.args.at) (all ++ node.last.value ∷ []) (omega (arith, past, count_of all node.last.value))) refl;
    }
