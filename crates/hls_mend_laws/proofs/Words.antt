-- Numbers in bytes that were written.
use Rattle.std.proofs.Common.{◌≡◌, ◌∙◌, ℕ, suc, ◌*◌, ◌^◌, ◌<◌, List, [], ◌∷◌, ◌++◌, length, refl, ap, arith}
use Rattle.std.specs.Int.{w32, w64, to_be_bytes}
use Rattle.std.proofs.lemmas.Nat.{from_be_bytes-to_be_bytes_4, from_be_bytes-to_be_bytes_8}
use Rattle.hls_boxes.specs.Boxes.{number_at}
use Rattle.hls_mend_laws.specs.Bytes.{words}

-- 32-bit numbers have four bytes each
pub words-len : (ns : List ℕ) → length (words ns) ≡ 4 * length ns
words-len [] = refl
words-len (n ∷ ns) = let more = words-len ns in omega (arith, more)

-- a 32-bit number after others is read as it was written, whatever follows it
pub word-at : (before : List ℕ) (n : ℕ) (after : List ℕ) (at : ℕ) → at ≡ 4 * length before → n < 2 ^ 32 → number_at w32 at (words before ++ (words (n ∷ []) ++ after)) ≡ n
unfolding number_at
word-at [] n after at is fits = ap (λ (k : ℕ). number_at w32 k (words (n ∷ []) ++ after)) is ∙ from_be_bytes-to_be_bytes_4 n fits
word-at (b ∷ before) n after at is fits =
    let four : at ≡ suc (suc (suc (suc (4 * length before)))) = omega (arith, is) in
    ap (λ (k : ℕ). number_at w32 k (words (b ∷ before) ++ (words (n ∷ []) ++ after))) four ∙ word-at before n after (4 * length before) refl fits

-- a 64-bit number after one of 32 bits is read as it was written
pub long-at : (n time : ℕ) → time < 2 ^ 64 → number_at w64 4 (words (n ∷ []) ++ to_be_bytes w64 time) ≡ time
unfolding number_at
long-at n time fits = from_be_bytes-to_be_bytes_8 time fits
