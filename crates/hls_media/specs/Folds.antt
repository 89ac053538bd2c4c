-- A walk over the boxes that fill a text, each visited once.
-- For the proofs of this crate; no public clause cites it.
use Rattle.std.specs.Prelude.{ℕ, List, [], ◌∷◌, Option, option_and_then}
use Rattle.hls_boxes.specs.Boxes.{Child, children}

-- the result of a walk over these boxes from a state: each step gets the type and the content of a box; None if a step returns None
unfoldable pub fold_boxes : {S R : Type 0} → (S → ℕ → List ℕ → Option S) → (S → Option R) → S → List Child → Option R
fold_boxes step finish s [] = finish s
fold_boxes step finish s (c ∷ cs) = option_and_then (λ s'. fold_boxes step finish s' cs) (step s c.kind c.content)

-- the result of a walk over the boxes that fill a text; None if no boxes fill it, or a step returns None
unfoldable pub fold_content : {S R : Type 0} → (S → ℕ → List ℕ → Option S) → (S → Option R) → S → List ℕ → Option R
fold_content step finish s bytes = option_and_then (fold_boxes step finish s) (children bytes)
