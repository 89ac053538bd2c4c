-- The lemmas on a list that begins after the first item of its tree.
use Rattle.std.proofs.Common.{◌≡◌, ℕ, ◌+◌, ◌-◌, ◌<◌, ◌≤◌, List, ◌++◌, length, map, drop, sym, ◌∙◌, ap, subst, arith, length-drop}
use Rattle.std.proofs.lemmas.List.{drop-drop}
use Rattle.hls_blocks.specs.Numbered.{Numbered, next_of, from_number, items_starting_at}
use Rattle.hls_blocks.proofs.Runs.{run_within}

-- a list that begins within its tree has the tree's next number
pub same_next : {T : Type 0} (tree : Numbered T) (first : ℕ) → tree.first ≤ first → first ≤ next_of tree → next_of (from_number tree first) ≡ next_of tree
same_next tree first low high = omega (arith, length-drop (first - tree.first) tree.items)

-- the items from a number of the list on are the tree's items from there
pub same_items : {T : Type 0} (tree : Numbered T) (first n : ℕ) → tree.first ≤ first → first ≤ n
    → items_starting_at (from_number tree first) n ≡ items_starting_at tree n
same_items tree first n low high =
    let whole : first - tree.first + (n - first) ≡ n - tree.first = omega arith in
    drop-drop (n - first) (first - tree.first) tree.items ∙ ap (λ k. drop k tree.items) whole

-- a run of the tree is a run of the list
pub same_run : {E T : Type 0} (f : E → T) (tree list : Numbered T) (first n : ℕ) (es : List E) → list ≡ from_number tree first → tree.first ≤ first → list.first ≤ n
    → items_starting_at tree n ≡ map f es ++ items_starting_at tree (n + length es)
    → items_starting_at list n ≡ map f es ++ items_starting_at list (n + length es)
same_run {T = T} f tree list first n es list_is low at run =
    let from : first ≤ n = subst (λ (l : Numbered T). l.first ≤ n) list_is at in
    rw (list_is, same_items tree first n low from, same_items tree first (n + length es) low (omega arith)) run

-- a run of the tree ends at or before the next number of the list
pub same_run_within : {E T : Type 0} (f : E → T) (tree list : Numbered T) (first n : ℕ) (es : List E) → list ≡ from_number tree first → tree.first ≤ first
    → list.first ≤ n → n < next_of list → first ≤ next_of tree
    → items_starting_at tree n ≡ map f es ++ items_starting_at tree (n + length es) → n + length es ≤ next_of list
same_run_within {T = T} f tree list first n es list_is low at below high run =
    let from : first ≤ n = subst (λ (l : Numbered T). l.first ≤ n) list_is at in
    let same = same_next tree first low high in
    let inside : n < next_of tree = rw (← same) (subst (λ (l : Numbered T). n < next_of l) list_is below) in
    rw (list_is, same) (run_within f tree n es (omega arith) inside run)

-- the tree without its front has the same next number
pub same_end : {T : Type 0} (next first n : ℕ) (tree list new : Numbered T) → list ≡ from_number tree first → tree.first ≤ first → first ≤ next → next ≡ next_of tree
    → list.first ≤ n → n ≤ next_of list → new ≡ from_number tree n → next ≡ next_of new
same_end {T = T} next first n tree list new list_is low high next_is at below new_is =
    let from : first ≤ n = subst (λ (l : Numbered T). l.first ≤ n) list_is at in
    let same = same_next tree first low (omega arith) in
    let inside : n ≤ next_of tree = rw (← same) (subst (λ (l : Numbered T). n ≤ next_of l) list_is below) in
    rw new_is (next_is ∙ sym (same_next tree n (omega arith) inside))
