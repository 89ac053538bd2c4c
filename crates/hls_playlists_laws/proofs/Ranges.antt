-- Units and their bytes: what a range selects of the joined units.
use Rattle.std.proofs.Common.{◌≡◌, ℕ, zero, suc, ◌+◌, ◌-◌, ◌≤◌, List, [], ◌∷◌, ◌++◌, length, map, take, drop, sum, sum_by, refl, sym, ◌∙◌, ap, arith, length-append, suc-add}
use Rattle.std.specs.List.{concat}
use Rattle.std.proofs.lemmas.List.{take-map, drop-map}
use Rattle.std.proofs.lemmas.List.Sums.{sum-map, sum_by-cons}
use Rattle.std.proofs.lemmas.List.Folds.{concat-append}
use Rattle.std.proofs.Math.Seq.{take-add, drop-append-add, take-append_seam, drop-append_seam}
use Rattle.hls_media_laws.specs.declared.facts.Facts.{Facts}
use Rattle.hls_media_laws.specs.FactLists.{len_of}
use Rattle.hls_playlists_laws.specs.JobResource.{bytes_between, units_between, HaveLengths}

drop_nil : {A : Type 0} (n : ℕ) → drop n (let none : List A = [] in none) ≡ []
drop_nil zero = refl
drop_nil (suc n) = refl

pub drop_drop : {A : Type 0} (m n : ℕ) (xs : List A) → drop n (drop m xs) ≡ drop (m + n) xs
drop_drop zero n xs = ap (λ k. drop k xs) (omega arith)
drop_drop (suc m) n [] = drop_nil n ∙ sym (drop_nil (suc m + n))
drop_drop (suc m) n (x ∷ xs) = drop_drop m n xs ∙ ap (λ k. drop k (x ∷ xs)) (sym (suc-add m n))

-- the sum of the lengths of lists is the length of their concatenation
pub length_concat : (xs : List (List ℕ)) → sum_by length xs ≡ length (concat xs)
length_concat [] = refl
length_concat (x ∷ xs) = sum_by-cons length x xs ∙ ap (λ n. length x + n) (length_concat xs) ∙ sym (length-append x (concat xs))

-- the facts and the kept bytes agree on how many bytes the units from one number to another have
pub bytes_are : (facts : List Facts) (floor : ℕ) (units : List (List ℕ)) (from to : ℕ) → floor ≤ from → HaveLengths facts floor units →
    bytes_between facts from to ≡ length (concat (units_between floor units from to))
bytes_are facts floor units from to low lens =
    let n : ℕ = to - from in
    let k : ℕ = from - floor in
    let here : drop from facts ≡ drop k (drop floor facts) =
    sym (drop_drop floor k facts ∙ ap (λ j. drop j facts) (omega arith)) in
    let mapped : map len_of (take n (drop k (drop floor facts))) ≡ map length (take n (drop k units)) =
    sym (take-map len_of n (drop k (drop floor facts))) ∙ ap (take n) (sym (drop-map len_of k (drop floor facts)))
    ∙ ap (λ xs. take n (drop k xs)) lens
    ∙ ap (take n) (drop-map length k units) ∙ take-map length n (drop k units) in
    ap (λ xs. sum_by len_of (take n xs)) here
    ∙ sym (sum-map len_of (take n (drop k (drop floor facts)))) ∙ ap sum mapped
    ∙ sum-map length (take n (drop k units)) ∙ length_concat (take n (drop k units))

-- two runs of units, the second right after the first, are one run
pub units_join : (floor : ℕ) (units : List (List ℕ)) (a b c : ℕ) → floor ≤ a → a ≤ b → b ≤ c →
    concat (units_between floor units a b) ++ concat (units_between floor units b c) ≡ concat (units_between floor units a c)
units_join floor units a b c low first second =
    let from : List (List ℕ) = drop (a - floor) units in
    let later : drop (b - floor) units ≡ drop (b - a) from =
    sym (drop_drop (a - floor) (b - a) units ∙ ap (λ j. drop j units) (omega arith)) in
    sym (concat-append (take (b - a) from) (take (c - b) (drop (b - floor) units)))
    ∙ ap (λ xs. concat (take (b - a) from ++ take (c - b) xs)) later
    ∙ ap concat (sym (take-add (b - a) (c - b) from))
    ∙ ap (λ n. concat (take n from)) (omega arith)

-- a range that begins after the first i units and spans d of them selects these d units
pub taken : (head : List ℕ) (units : List (List ℕ)) (i d x : ℕ) →
    take (length (concat (take d (drop i units)))) (drop (length head + length (concat (take i units))) (head ++ concat (take (i + (d + x)) units))) ≡ concat (take d (drop i units))
taken head units i d x =
    let here : List ℕ = concat (take d (drop i units)) in
    let rest : List ℕ = concat (take x (drop d (drop i units))) in
    let before : List ℕ = concat (take i units) in
    let split : concat (take (i + (d + x)) units) ≡ before ++ (here ++ rest) =
    ap concat (take-add i (d + x) units) ∙ concat-append (take i units) (take (d + x) (drop i units))
    ∙ ap (λ xs. before ++ xs) (ap concat (take-add d x (drop i units)) ∙ concat-append (take d (drop i units)) (take x (drop d (drop i units)))) in
    let dropped : drop (length head + length before) (head ++ concat (take (i + (d + x)) units)) ≡ here ++ rest =
    drop-append-add head (concat (take (i + (d + x)) units)) (length before) ∙ ap (drop (length before)) split ∙ drop-append_seam before (here ++ rest) in
    ap (take (length here)) dropped ∙ take-append_seam here rest
