-- The path is the folder followed by the offsets of the range's first and last byte, both `ahead` bytes further, with a hyphen between them and
-- `.m4s` at the end.
use Rattle.std.proofs.Common.{◌≡◌, ◌∙◌, ℕ, ◌+◌, ◌-◌, List, [], ◌∷◌, ◌++◌, IfOk, ap, subst, sym, append_assoc}
use Rattle.std.specs.Fmt.{decimal}
use Rattle.hls_jobs.proofs.programme_files.path_in.Goals as goal

pub returns : goal.returns
returns c =
    let folder = c.args.folder.now in
    let offset : ℕ = c.args.ahead + c.args.range.offset in
    let first : List ℕ = decimal offset in
    let last : List ℕ = decimal (offset + c.args.range.length - 1) in
    let name : List ℕ = 46 ∷ 109 ∷ 52 ∷ 115 ∷ [] in
    subst (λ (text : List ℕ). IfOk c.from_string.result (λ uri. uri ≡ text))
    (c.in_ok-format.ensures.ok
    ∙ (ap (λ (n : ℕ). folder ++ (first ++ 45 ∷ (decimal n ++ name))) c.saturating_sub-last.ensures
    ∙ ap (λ (t : List ℕ). folder ++ t) (sym (append_assoc first (45 ∷ last) name))))
    c.from_string.ensures
