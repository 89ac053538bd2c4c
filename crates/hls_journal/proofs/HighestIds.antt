-- The highest ids of records, one by one.
use Rattle.std.proofs.Common.{◌≡◌, ◌∙◌, ℕ, ◌+◌, ◌<◌, List, [], ◌∷◌, ◌++◌, length, take, get_or, sym, ap, arith}
use Rattle.std.specs.Prelude.{max}
use Rattle.std.proofs.lemmas.List.{take_more}
use Rattle.hls_journal.specs.Asides.{ids_in, highest_ids}

-- the highest job id limit of records and one more is the greater of theirs and of that record's
ids_snoc : (bodies : List (List ℕ)) (body : List ℕ) → highest_ids (bodies ++ body ∷ []) ≡ max (highest_ids bodies) (ids_in body)
ids_snoc [] body = omega arith
ids_snoc (b ∷ bodies) body = omega (arith, ids_snoc bodies body)

-- the highest job id limit so far, raised by the next record, is that of one record more
pub more_ids : (bodies : List (List ℕ)) (index : ℕ) (body : List ℕ) (so_far ids found : ℕ) → index < length bodies → body ≡ get_or bodies index body → so_far ≡ highest_ids (take index bodies)
    → found ≡ ids_in body → ids ≡ max so_far found → ids ≡ highest_ids (take (index + 1) bodies)
more_ids bodies index body so_far ids found within at is found_is most =
    let front : take (index + 1) bodies ≡ take index bodies ++ body ∷ [] = take_more bodies index body within ∙ ap (λ b. take index bodies ++ b ∷ []) (sym at) in
    omega (arith, is, found_is, most, ap (λ bs. highest_ids bs) front, ids_snoc (take index bodies) body)
