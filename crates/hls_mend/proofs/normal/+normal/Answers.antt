-- Boxes that aren't normalized are appended as they are (`normal-zero`, `normal-raw`); of others, each box is one step (`normal-step`).
use Rattle.std.proofs.Common.{rules, ◌≡◌, ◌∙◌, ℕ, ◌-◌, ◌<◌, ◌++◌, true, false, Some, None, List, [], length, drop, sym, ap, subst, arith, append_assoc}
use Rattle.std.specs.Prelude.{OnOk}
use Rattle.std.proofs.lemmas.List.{take_rest, append-nil}
use Rattle.std.proofs.lemmas.Bool.{eqb-true}
use Rattle.hls_boxes.specs.Boxes.{child_of, box_at}
use Rattle.hls_mend.specs.InitSections.{normal_box, normal_boxes}
use Rattle.hls_mend.proofs.BoxSteps.{normal_rest, boxes-step, boxes-none, no-bytes, normal-step, normal-empty, normal-start, normal-raw, normal-zero, when-ok}
use Rattle.hls_mend.proofs.normal.+normal.Goals as goal

pub push_boxes-returns-then-depth-eq0 : goal.push_boxes-returns-then-depth-eq0
push_boxes-returns-then-depth-eq0 t c =
    subst (λ (xs : List ℕ). OnOk c.extend_from_slice.result (c.extend_from_slice.new.self.items ≡ c.args.out.now.items ++ xs))
    (sym (normal-zero c.args.depth c.args.content.now (omega arith)))
    (when-ok c.extend_from_slice.result c.extend_from_slice.new.self.items (c.args.out.now.items ++ c.args.content.now) c.args.out.now.items c.extend_from_slice.ensures.items)

pub push_boxes-returns-then-not-are_boxes : goal.push_boxes-returns-then-not-are_boxes
push_boxes-returns-then-not-are_boxes t c =
    let none : c.are_boxes.result ≡ false = search rules in
    subst (λ (xs : List ℕ). OnOk c.extend_from_slice-then-not-are_boxes.result (c.extend_from_slice-then-not-are_boxes.new.self.items ≡ c.args.out.now.items ++ xs))
    (sym (normal-raw c.args.depth c.args.content.now (sym c.are_boxes.ensures ∙ none)))
    (when-ok c.extend_from_slice-then-not-are_boxes.result c.extend_from_slice-then-not-are_boxes.new.self.items (c.args.out.now.items ++ c.args.content.now) c.args.out.now.items c.extend_from_slice-then-not-are_boxes.ensures.items)

pub push_boxes-returns-in_default : goal.push_boxes-returns-in_default
push_boxes-returns-in_default t c =
    let none : box_at c.boxes.rest.now ≡ None = sym c.read_whole_header.ensures.value ∙ c.in_default.is in
    let some : 0 < length c.boxes.rest.now = search rules in
    let never : true ≡ false = sym c.boxes.invariant.filled ∙ boxes-none c.boxes.rest.now some none in
    absurd (cc)

pub push_boxes-boxes-preserved : goal.push_boxes-boxes-preserved
push_boxes-boxes-preserved t c =
    let h = c.in-Some.header in
    let rest = c.boxes.rest.now in
    let depth = c.args.depth - 1 in
    let is : box_at rest ≡ Some h = sym c.read_whole_header.ensures.value ∙ c.in-Some.is in
    let some : 0 < length rest = search rules in
    rw (take_rest rest h.size)
    (record {
      filled = sym (boxes-step rest h some is) ∙ c.boxes.invariant.filled;
      joined = ap (λ (xs : List ℕ). xs ++ normal_rest depth (drop h.size rest)) c.in_ok-push_box.ensures
          ∙ append_assoc c.boxes.out.items (normal_box (normal_boxes depth) (child_of h rest)) (normal_rest depth (drop h.size rest))
          ∙ ap (λ (xs : List ℕ). c.boxes.out.items ++ xs) (sym (normal-step depth rest h some is c.boxes.invariant.filled))
          ∙ c.boxes.invariant.joined;
    })

pub push_boxes-returns : goal.push_boxes-returns
push_boxes-returns t c =
    let depth = c.args.depth - 1 in
    let empty : c.is_empty.result ≡ true = search rules in
    let filled : c.are_boxes.result ≡ true = search rules in
    let none : c.boxes.rest.now ≡ [] = no-bytes c.boxes.rest.now (eqb-true (length c.boxes.rest.now) 0 (sym c.is_empty.ensures ∙ empty)) in
    let some : 0 < c.args.depth = omega arith in
    sym (append-nil c.boxes.out.items)
    ∙ ap (λ (xs : List ℕ). c.boxes.out.items ++ xs) (sym (ap (normal_rest depth) none ∙ normal-empty depth))
    ∙ c.boxes.invariant.joined
    ∙ ap (λ (xs : List ℕ). c.args.out.now.items ++ xs) (sym (normal-start c.args.depth c.args.content.now some (sym c.are_boxes.ensures ∙ filled)))
