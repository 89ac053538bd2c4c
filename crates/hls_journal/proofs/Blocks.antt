-- Zeros that are appended in blocks.
use Rattle.std.proofs.Common.{◌≡◌, ◌∙◌, ℕ, ◌+◌, ◌-◌, ◌≤◌, List, ◌++◌, replicate, take, sym, ap, arith, append_assoc}
use Rattle.std.proofs.lemmas.List.{take-replicate, replicate-append-replicate}

-- after a block of zeros is appended, the text and the zeros that are left are the same whole
pub block_pushed : (old new block whole : List ℕ) (left more : ℕ) → more ≤ left → block ≡ replicate more 0 → new ≡ old ++ block → old ++ replicate left 0 ≡ whole → new ++ replicate (left - more) 0 ≡ whole
block_pushed old new block whole left more fits block_is new_is so_far =
    let all : more + (left - more) ≡ left = omega (arith, fits) in
    ap (λ xs. xs ++ replicate (left - more) 0) (new_is ∙ ap (λ xs. old ++ xs) block_is)
    ∙ append_assoc old (replicate more 0) (replicate (left - more) 0)
    ∙ ap (λ xs. old ++ xs) (replicate-append-replicate more (left - more) 0 ∙ ap (λ n. replicate n 0) all)
    ∙ so_far
