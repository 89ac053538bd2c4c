-- A walk over boxes, one box at a time.
use Rattle.std.proofs.Common.{◌≡◌, ℕ, ◌<◌, List, [], ◌∷◌, length, drop, slice_range, Option, Some, None, option_and_then, option_map, refl, ◌∙◌, ap, arith}
use Rattle.hls_boxes.specs.declared.box_header.BoxHeader.{BoxHeader}
use Rattle.hls_boxes.specs.Boxes.{Child, child_of, children, children_after_header, box_at}
use Rattle.hls_boxes.proofs.Callers.{children-empty, children-step}
use Rattle.hls_media.specs.Folds.{fold_boxes, fold_content}

-- at the end of the bytes, the result of a walk is that of its state
pub over-end : {S R : Type 0} (step : S → ℕ → List ℕ → Option S) (finish : S → Option R) (s : S) (bytes : List ℕ) → length bytes ≡ 0 → fold_content step finish s bytes ≡ finish s
unfolding fold_content fold_boxes
over-end step finish s [] e = ap (option_and_then (fold_boxes step finish s)) children-empty
over-end step finish s (b ∷ bytes) e = absurd (omega (arith, e))

-- a walk fails at bytes that aren't empty and don't begin with a complete box
pub over-bad : {S R : Type 0} (step : S → ℕ → List ℕ → Option S) (finish : S → Option R) (s : S) (bytes : List ℕ) → 0 < length bytes → box_at bytes ≡ None → fold_content step finish s bytes ≡ None
unfolding fold_content
over-bad step finish s bytes some none =
    ap (option_and_then (fold_boxes step finish s)) (children-step bytes some ∙ ap (children_after_header children bytes) none)

-- a function that fails for every value fails for an option
nothing : {A B : Type 0} (o : Option A) → None ≡ option_and_then {U = B} (λ (a : A). None) o
nothing None = refl
nothing (Some a) = refl

-- a walk over a box and others, if they are readable, is its step and then a walk over the others
front : {S R : Type 0} (step : S → ℕ → List ℕ → Option S) (finish : S → Option R) (s : S) (c : Child) (others : Option (List Child))
    → option_and_then (fold_boxes step finish s) (option_map (λ more. c ∷ more) others) ≡ option_and_then (λ s'. option_and_then (fold_boxes step finish s') others) (step s c.kind c.content)
unfolding fold_boxes
front step finish s c None = nothing (step s c.kind c.content)
front step finish s c (Some cs) = refl

-- a walk at a complete box is its step and then a walk over the bytes after the box
pub over-next : {S R : Type 0} (step : S → ℕ → List ℕ → Option S) (finish : S → Option R) (s : S) (bytes : List ℕ) (h : BoxHeader) (next : Option S) → 0 < length bytes → box_at bytes ≡ Some h → step s h.kind (slice_range bytes h.head h.size) ≡ next
    → fold_content step finish s bytes ≡ option_and_then (λ s'. fold_content step finish s' (drop h.size bytes)) next
unfolding fold_content
over-next step finish s bytes h next some is_box stepped =
    ap (option_and_then (fold_boxes step finish s)) (children-step bytes some ∙ ap (children_after_header children bytes) is_box)
    ∙ front step finish s (child_of h bytes) (children (drop h.size bytes))
    ∙ ap (option_and_then (λ s'. option_and_then (fold_boxes step finish s') (children (drop h.size bytes)))) stepped

-- finishing a walk's state after a step is walking to the finished result, if it is so for the boxes after the step
finish_next : {S R : Type 0} (step : S → ℕ → List ℕ → Option S) (finish : S → Option R) (cs : List Child) → ((s : S) → option_and_then finish (fold_boxes step Some s cs) ≡ fold_boxes step finish s cs) → (next : Option S)
    → option_and_then finish (option_and_then (λ s. fold_boxes step Some s cs) next) ≡ option_and_then (λ s. fold_boxes step finish s cs) next
finish_next step finish cs ih None = refl
finish_next step finish cs ih (Some s) = ih s

-- finishing the last state of a walk over boxes gives the result of the walk
along-finish : {S R : Type 0} (step : S → ℕ → List ℕ → Option S) (finish : S → Option R) (cs : List Child) (s : S) → option_and_then finish (fold_boxes step Some s cs) ≡ fold_boxes step finish s cs
unfolding fold_boxes
along-finish step finish [] s = refl
along-finish step finish (c ∷ cs) s = finish_next step finish cs (along-finish step finish cs) (step s c.kind c.content)

-- the same for boxes that may not be readable
finish_boxes : {S R : Type 0} (step : S → ℕ → List ℕ → Option S) (finish : S → Option R) (s : S) (boxes : Option (List Child)) → option_and_then finish (option_and_then (fold_boxes step Some s) boxes) ≡ option_and_then (fold_boxes step finish s) boxes
finish_boxes step finish s None = refl
finish_boxes step finish s (Some cs) = along-finish step finish cs s

-- finishing the last state of a walk over the boxes that fill a text gives the result of the walk
pub over-finish : {S R : Type 0} (step : S → ℕ → List ℕ → Option S) (finish : S → Option R) (s : S) (bytes : List ℕ) → option_and_then finish (fold_content step Some s bytes) ≡ fold_content step finish s bytes
unfolding fold_content
over-finish step finish s bytes = finish_boxes step finish s (children bytes)
