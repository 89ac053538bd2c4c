-- What was read before the `moof`, joined with what is left.
use Rattle.std.proofs.Common.{◌≡◌, ℕ, Option, Some, None, option_map, List, [], ◌∷◌, ◌++◌, length, refl, sym, ap, arith, append_assoc}
use Rattle.hls_mend_laws.specs.FragmentsRead.{Front}

-- the front with these bytes kept before those of another front
abbrev pub joined : List ℕ → Option Front → Option Front
joined kept o = option_map (λ (f : Front). record { kept = kept ++ f.kept; rest = f.rest }) o

-- keeping no bytes before a front leaves it as it is
pub joined-nothing : (o : Option Front) → o ≡ joined [] o
joined-nothing None = refl
joined-nothing (Some f) = refl

-- keeping bytes before a front twice is keeping both, one after the other
pub joined-more : (kept bytes : List ℕ) (o : Option Front) → joined kept (joined bytes o) ≡ joined (kept ++ bytes) o
joined-more kept bytes None = refl
joined-more kept bytes (Some f) = ap (λ (xs : List ℕ). Some (record { kept = xs; rest = f.rest })) (sym (append_assoc kept bytes f.kept))

pub no-bytes : (xs : List ℕ) → length xs ≡ 0 → xs ≡ []
no-bytes [] none = refl
no-bytes (x ∷ xs) none = absurd (omega (arith, none))
