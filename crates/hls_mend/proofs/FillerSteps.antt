-- Fillers, one after another.
use Rattle.std.proofs.Common.{◌≡◌, ◌∙◌, ℕ, zero, suc, ◌+◌, ◌-◌, ◌<◌, ◌≤◌, Some, None, List, [], ◌∷◌, ◌++◌, refl, sym, ap, arith, append_assoc}
use Rattle.std.proofs.lemmas.Bool.{lt-ltb, le-ltb}
use Rattle.std.proofs.lemmas.List.{append-nil}
use Rattle.hls_media_laws.specs.InitData.{InitData}
use Rattle.hls_mend.specs.declared.mended.ReadUnit.{ReadUnit}
use Rattle.hls_mend.specs.MendedUnits.{FillerSource, filler, filler_ticks, fillers_from}

-- the fillers from `start` are the next one, if it can be made, and those after it
fillers-next : (left start end : ℕ) (init : InitData) (s : FillerSource) (len : ℕ) (u : ReadUnit) → 0 < left → start < end → filler init s start (filler_ticks len (end - start)) ≡ Some u
    → fillers_from left init s len start end ≡ u ∷ fillers_from (left - 1) init s len (start + filler_ticks len (end - start)) end
unfolding fillers_from
fillers-next zero start end init s len u some within made = absurd (omega (arith, some))
fillers-next (suc left) start end init s len u some within made =
    let a : suc left - 1 ≡ left = omega arith in rw (lt-ltb start end within, made, a) refl

-- after one more filler was made, those made and those left are still all fillers
pub made-more : (us : List ReadUnit) (left start end next : ℕ) (init : InitData) (s : FillerSource) (len : ℕ) (u : ReadUnit) (all : List ReadUnit) → 0 < left → start < end
    → filler init s start (filler_ticks len (end - start)) ≡ Some u → next ≡ start + filler_ticks len (end - start)
    → us ++ fillers_from left init s len start end ≡ all → (us ++ u ∷ []) ++ fillers_from (left - 1) init s len next end ≡ all
made-more us left start end next init s len u all some within made is joined =
    append_assoc us (u ∷ []) (fillers_from (left - 1) init s len next end)
    ∙ ap (λ (n : ℕ). us ++ u ∷ fillers_from (left - 1) init s len n end) is
    ∙ ap (λ (xs : List ReadUnit). us ++ xs) (sym (fillers-next left start end init s len u some within made))
    ∙ joined

-- if the next filler can't be made, those made are all
pub made-all : (us : List ReadUnit) (left start end : ℕ) (init : InitData) (s : FillerSource) (len : ℕ) (all : List ReadUnit) → start < end → filler init s start (filler_ticks len (end - start)) ≡ None
    → us ++ fillers_from left init s len start end ≡ all → us ≡ all
unfolding fillers_from
made-all us zero start end init s len all within none joined = sym (append-nil us) ∙ joined
made-all us (suc left) start end init s len all within none joined =
    let stop : fillers_from (suc left) init s len start end ≡ [] = rw (lt-ltb start end within, none) refl in
    sym (append-nil us) ∙ ap (λ (xs : List ReadUnit). us ++ xs) (sym stop) ∙ joined

-- if the gap is filled, the fillers made are all
pub made-over : (us : List ReadUnit) (left start end : ℕ) (init : InitData) (s : FillerSource) (len : ℕ) (all : List ReadUnit) → end ≤ start → us ++ fillers_from left init s len start end ≡ all → us ≡ all
unfolding fillers_from
made-over us zero start end init s len all over joined = sym (append-nil us) ∙ joined
made-over us (suc left) start end init s len all over joined =
    let stop : fillers_from (suc left) init s len start end ≡ [] = rw (le-ltb start end over) refl in
    sym (append-nil us) ∙ ap (λ (xs : List ReadUnit). us ++ xs) (sym stop) ∙ joined

-- if no filler may follow, those made are all
pub made-most : (us : List ReadUnit) (left start end : ℕ) (init : InitData) (s : FillerSource) (len : ℕ) (all : List ReadUnit) → left ≡ 0 → us ++ fillers_from left init s len start end ≡ all → us ≡ all
unfolding fillers_from
made-most us left start end init s len all none joined =
    let stop : fillers_from left init s len start end ≡ [] = rw none refl in
    sym (append-nil us) ∙ ap (λ (xs : List ReadUnit). us ++ xs) (sym stop) ∙ joined
