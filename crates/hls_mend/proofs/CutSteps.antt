-- Leading samples, one at a time.
use Rattle.std.proofs.Common.{◌≡◌, ◌∙◌, ℕ, suc, ◌+◌, ◌^◌, ◌<◌, ◌≤◌, true, false, Some, None, List, ◌∷◌, length, drop, get_or, refl, sym, ap, arith}
use Rattle.std.proofs.lemmas.Bool.{lt-leb, le-leb}
use Rattle.std.proofs.Math.Seq.{drop-cons}
use Rattle.std.proofs.lemmas.List.{drop-drop}
use Rattle.std.proofs.lemmas.List.Sums.{sum_by-drop_more}
use Rattle.hls_mend_laws.specs.declared.sample.Sample.{Sample}
use Rattle.hls_mend_laws.specs.Fragments.{Fragment, total_size}
use Rattle.hls_mend_laws.specs.Cuts.{is_cut, cut_from, rest_of}

-- a sample that is cut is skipped with its bytes, and the next one starts where it ends
pub cut-step : (snap end start : ℕ) (f : Fragment) (s : Sample) (ss : List Sample) (payload : List ℕ) → is_cut snap end start s ≡ true → start + s.duration < 2 ^ 64
    → cut_from snap end f start (s ∷ ss) payload ≡ cut_from snap end f (start + s.duration) ss (drop s.size payload)
cut-step snap end start f s ss payload cut early = rw (cut, lt-leb (2 ^ 64) (start + s.duration) early) refl

-- if a sample that is cut ends at tick 2^64 or later, nothing is left
pub cut-late : (snap end start : ℕ) (f : Fragment) (s : Sample) (ss : List Sample) (payload : List ℕ) → is_cut snap end start s ≡ true → 2 ^ 64 ≤ start + s.duration
    → cut_from snap end f start (s ∷ ss) payload ≡ None
cut-late snap end start f s ss payload cut late = rw (cut, le-leb (2 ^ 64) (start + s.duration) late) refl

-- a sample that isn't cut begins the rest
pub cut-kept : (snap end start : ℕ) (f : Fragment) (s : Sample) (ss : List Sample) (payload : List ℕ) → is_cut snap end start s ≡ false
    → cut_from snap end f start (s ∷ ss) payload ≡ Some (rest_of f start (s ∷ ss) payload)
cut-kept snap end start f s ss payload kept = rw kept refl

-- the sample at this index is the first of those that are left
pub next-sample : (ss : List Sample) (i : ℕ) (s : Sample) → i < length ss → s ≡ get_or ss i s → drop i ss ≡ s ∷ drop (i + 1) ss
next-sample ss i s within is =
    let one : suc i ≡ i + 1 = omega arith in
    drop-cons ss i s within ∙ ap (λ (x : Sample). x ∷ drop (suc i) ss) (sym is) ∙ ap (λ (k : ℕ). s ∷ drop k ss) one

-- the same as `cut-step`, `cut-late` and `cut-kept` for the sample at index i, after `len` bytes of the payload
pub cut-next : (snap end at i len : ℕ) (f : Fragment) (ss : List Sample) (s : Sample) (payload : List ℕ) → i < length ss → s ≡ get_or ss i s
    → is_cut snap end at s ≡ true → at + s.duration < 2 ^ 64
    → cut_from snap end f at (drop i ss) (drop len payload) ≡ cut_from snap end f (at + s.duration) (drop (i + 1) ss) (drop (len + s.size) payload)
cut-next snap end at i len f ss s payload within is cut early =
    ap (λ (xs : List Sample). cut_from snap end f at xs (drop len payload)) (next-sample ss i s within is)
    ∙ cut-step snap end at f s (drop (i + 1) ss) (drop len payload) cut early
    ∙ ap (λ (p : List ℕ). cut_from snap end f (at + s.duration) (drop (i + 1) ss) p) (drop-drop s.size len payload)

pub cut-next-late : (snap end at i len : ℕ) (f : Fragment) (ss : List Sample) (s : Sample) (payload : List ℕ) → i < length ss → s ≡ get_or ss i s
    → is_cut snap end at s ≡ true → 2 ^ 64 ≤ at + s.duration → cut_from snap end f at (drop i ss) (drop len payload) ≡ None
cut-next-late snap end at i len f ss s payload within is cut late =
    ap (λ (xs : List Sample). cut_from snap end f at xs (drop len payload)) (next-sample ss i s within is)
    ∙ cut-late snap end at f s (drop (i + 1) ss) (drop len payload) cut late

pub cut-next-kept : (snap end at i len : ℕ) (f : Fragment) (ss : List Sample) (s : Sample) (payload : List ℕ) → i < length ss → s ≡ get_or ss i s
    → is_cut snap end at s ≡ false → cut_from snap end f at (drop i ss) (drop len payload) ≡ Some (rest_of f at (drop i ss) (drop len payload))
cut-next-kept snap end at i len f ss s payload within is kept =
    let next = next-sample ss i s within is in
    ap (λ (xs : List Sample). cut_from snap end f at xs (drop len payload)) next
    ∙ cut-kept snap end at f s (drop (i + 1) ss) (drop len payload) kept
    ∙ ap (λ (xs : List Sample). Some (rest_of f at xs (drop len payload))) (sym next)

-- the sizes from a sample on are its own and those of the samples after it, added up
pub sizes-next : (ss : List Sample) (i : ℕ) (s : Sample) → i < length ss → s ≡ get_or ss i s → total_size (drop i ss) ≡ s.size + total_size (drop (i + 1) ss)
sizes-next ss i s within is =
    sum_by-drop_more (λ (x : Sample). x.size) ss i s within ∙ ap (λ (x : Sample). x.size + total_size (drop (i + 1) ss)) (sym is)
