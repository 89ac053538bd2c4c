-- The uses of jobs by their ids, and by their indices.
use Rattle.std.proofs.Common.{◌≡◌, ◌≢◌, ℕ, suc, zero, List, [], ◌∷◌, ◌++◌, take, Some, None, refl, sym, ap, ◌∙◌}
use Rattle.std.specs.Prelude.{All, slice_get, slice_set}
use Rattle.std.specs.List.{remove}
use Rattle.std.proofs.lemmas.Bool.{eq-eqb, ne_eqb}
use Rattle.std.proofs.lemmas.List.Elements.{All-head, All-tail}
use Rattle.hls_jobs.specs.declared.last_uses.LastUse.{LastUse}
use Rattle.hls_jobs.specs.LastUses.{IsUseAt, with_use, without_use}

same_use : (first found : LastUse) → Some first ≡ Some found → first ≡ found
same_use first found is = cc

none_there : (found : LastUse) → None ≡ Some found → ⊥
none_there found there = cc

-- setting the first use of an id, given the uses before it, is replacing the last use of the id
set_there : (uses : List LastUse) (id used_ms at : ℕ) (found : LastUse) → slice_get uses at ≡ Some found → found.id ≡ id → All (λ use_of. use_of.id ≢ id) (take at uses)
    → slice_set uses at (record { id = id; used_ms = used_ms }) ≡ with_use id used_ms uses
set_there [] id used_ms at found there is first = absurd (none_there found there)
set_there (head ∷ uses) id used_ms zero found there is first = rw (eq-eqb head.id id (ap (λ (u : LastUse). u.id) (same_use head found there) ∙ is)) refl
set_there (head ∷ uses) id used_ms (suc at) found there is first =
    rw (ne_eqb head.id id (All-head (λ (u : LastUse). u.id ≢ id) head (take at uses) first))
    (ap (λ (us : List LastUse). head ∷ us) (set_there uses id used_ms at found there is (All-tail (λ (u : LastUse). u.id ≢ id) head (take at uses) first)))

-- setting the first use of an id at its index is replacing the last use of the id
pub set_first : (uses : List LastUse) (id used_ms at : ℕ) → IsUseAt uses id at → slice_set uses at (record { id = id; used_ms = used_ms }) ≡ with_use id used_ms uses
set_first uses id used_ms at found = set_there uses id used_ms at found.found found.there found.id_is found.first

-- the first use that is noted of an id is added at the end
pub first_use : (uses : List LastUse) (id used_ms : ℕ) → All (λ use_of. use_of.id ≢ id) uses → uses ++ record { id = id; used_ms = used_ms } ∷ [] ≡ with_use id used_ms uses
first_use [] id used_ms others = refl
first_use (head ∷ uses) id used_ms others =
    rw (ne_eqb head.id id (All-head (λ (u : LastUse). u.id ≢ id) head uses others))
    (ap (λ (us : List LastUse). head ∷ us) (first_use uses id used_ms (All-tail (λ (u : LastUse). u.id ≢ id) head uses others)))

-- removing the first use of an id, given the uses before it, is removing the id's use
removed_there : (uses : List LastUse) (id at : ℕ) (found : LastUse) → slice_get uses at ≡ Some found → found.id ≡ id → All (λ use_of. use_of.id ≢ id) (take at uses)
    → remove uses at ≡ without_use id uses
removed_there [] id at found there is first = absurd (none_there found there)
removed_there (head ∷ uses) id zero found there is first = rw (eq-eqb head.id id (ap (λ (u : LastUse). u.id) (same_use head found there) ∙ is)) refl
removed_there (head ∷ uses) id (suc at) found there is first =
    rw (ne_eqb head.id id (All-head (λ (u : LastUse). u.id ≢ id) head (take at uses) first))
    (ap (λ (us : List LastUse). head ∷ us) (removed_there uses id at found there is (All-tail (λ (u : LastUse). u.id ≢ id) head (take at uses) first)))

-- removing the first use of an id at its index is removing the id's use
pub removed_first : (uses : List LastUse) (id at : ℕ) → IsUseAt uses id at → remove uses at ≡ without_use id uses
removed_first uses id at found = removed_there uses id at found.found found.there found.id_is found.first

-- removing the use of an id that has none changes nothing
pub kept_uses : (uses : List LastUse) (id : ℕ) → All (λ use_of. use_of.id ≢ id) uses → uses ≡ without_use id uses
kept_uses [] id others = refl
kept_uses (head ∷ uses) id others =
    rw (ne_eqb head.id id (All-head (λ (u : LastUse). u.id ≢ id) head uses others))
    (ap (λ (us : List LastUse). head ∷ us) (kept_uses uses id (All-tail (λ (u : LastUse). u.id ≢ id) head uses others)))
