-- The words of a text, and the loop that mixes them.
use Rattle.std.proofs.Common.{◌≡◌, ◌∙◌, ℕ, zero, suc, ◌+◌, ◌-◌, ◌*◌, ◌/◌, ◌%◌, ◌^◌, ◌<◌, ◌≤◌, ◌==◌, true, false, List, [], ◌∷◌, length, take, drop, get_or, refl, sym, ap, inl, inr, arith, w8, Fits}
use Rattle.std.proofs.Math.Nat.{mod-eq_of_lt}
use Rattle.std.proofs.lemmas.Bool.{cases_lt}
use Rattle.std.proofs.lemmas.List.{drop-drop, get_or_past}
use Rattle.std.proofs.lemmas.Simd.{Each1-get_or}
use Rattle.std.specs.Simd.{first_chunks}
use Rattle.std.specs.Simd.Lanes.{Each1, number_l}
use Rattle.byteorder.specs.Endian.{little_from, little_number}
use Rattle.byteorder.specs.Numbers.{little_from-cons, little_from-lt, little_from-take}
use Rattle.hls_journal_log.specs.Checksum.{mix, mix_words, word_at}

-- n bytes are the same number read as digits to base 256 as read with the lowest byte first
number_l_is : (n : ℕ) (xs : List ℕ) → length xs ≡ n → number_l 256 xs ≡ little_number n xs
number_l_is zero [] len = refl
number_l_is zero (x ∷ xs) len = omega (arith, len)
number_l_is (suc n) [] len = omega (arith, len)
number_l_is (suc n) (x ∷ xs) len =
    ap (λ r. x + 256 * r) (number_l_is n xs (omega (arith, len)) ∙ sym (little_from-cons 0 n x xs))

-- eight bytes that are read as a lane of 64 bits are the number that they are, lowest first
pub word_is : (bytes : List ℕ) → length bytes ≡ 8 → Each1 (Fits w8) bytes → number_l 256 bytes % 2 ^ 64 ≡ little_number 8 bytes
word_is bytes len fit =
    let small : little_number 8 bytes < 256 ^ 8 =
    little_from-lt 0 8 bytes
    (λ k. elim (cases_lt k (length bytes)) [
      | inl inside ↦ (Each1-get_or (Fits w8) bytes k 0 inside fit).fits
      | inr past ↦ (let none = get_or_past bytes k 0 past in omega (arith, none))
    ]) in
    ap (λ n. n % 2 ^ 64) (number_l_is 8 bytes len) ∙ mod-eq_of_lt small

-- chunk i of a text is the eight bytes from byte 8 * i on
chunk_at : (count i : ℕ) (bytes none : List ℕ) → i < count → get_or (first_chunks 8 count bytes) i none ≡ take 8 (drop (8 * i) bytes)
chunk_at zero i bytes none within = absurd (omega (arith, within))
chunk_at (suc count) zero bytes none within = refl
chunk_at (suc count) (suc i) bytes none within =
    let place : 8 + 8 * i ≡ 8 * suc i = omega arith in
    chunk_at count i (drop 8 bytes) none (omega (arith, within)) ∙ ap (λ xs. take 8 xs) (drop-drop (8 * i) 8 bytes) ∙ ap (λ k. take 8 (drop k bytes)) place

-- if the state has mixed the first words of a text, and the next one is mixed, it has mixed one word more
pub one_more_word : (start index state word new : ℕ) (bytes chunk none : List ℕ) (words : List (List ℕ)) → words ≡ first_chunks 8 (length bytes / 8) bytes → index < length words → length words ≡ length bytes / 8
    → chunk ≡ get_or words index none → word ≡ little_number 8 chunk → new ≡ mix state word
    → state ≡ mix_words start bytes index → new ≡ mix_words start bytes (index + 1)
unfolding mix_words
one_more_word start index state word new bytes chunk none words words_are within count chunk_is number_is new_is so_far =
    let here : word ≡ word_at bytes index =
    number_is
    ∙ ap (λ xs. little_number 8 xs) (chunk_is ∙ ap (λ ws. get_or ws index none) words_are ∙ chunk_at (length bytes / 8) index bytes none (omega (arith, within, count)))
    ∙ little_from-take 0 8 8 (drop (8 * index) bytes) (omega arith) in
    let next : suc index ≡ index + 1 = omega arith in
    new_is ∙ ap (λ s. mix s word) so_far ∙ ap (λ w. mix (mix_words start bytes index) w) here ∙ ap (λ n. mix_words start bytes n) next

-- bytes past the end of a list are the number 0
none_past : (i m : ℕ) (xs : List ℕ) → length xs ≤ i → little_from i m xs ≡ 0
none_past i zero xs past = refl
none_past i (suc m) xs past =
    let here : get_or xs i 0 ≡ 0 = get_or_past xs i 0 past in
    let more : little_from (suc i) m xs ≡ 0 = none_past (suc i) m xs (omega (arith, past)) in
    ap (λ a. a + 256 * little_from (suc i) m xs) here ∙ ap (λ a. 0 + 256 * a) more

-- bytes past the end of a list add nothing to the number
zeros_past : (i n m k : ℕ) (xs : List ℕ) → k ≡ n + m → length xs ≤ i + n → little_from i k xs ≡ little_from i n xs
zeros_past i zero m k xs k_is past = none_past i k xs (omega (arith, past))
zeros_past i (suc n) m zero xs k_is past = absurd (omega (arith, k_is))
zeros_past i (suc n) m (suc k) xs k_is past = ap (λ r. get_or xs i 0 + 256 * r) (zeros_past (suc i) n m k xs (omega (arith, k_is)) (omega (arith, past)))

-- in a text of whole words, the state after its complete words is that after all words
pub whole_words : (start index state : ℕ) (bytes rest : List ℕ) → index ≡ length bytes / 8 → length rest ≡ length bytes % 8 → (length rest == 0) ≡ true → state ≡ mix_words start bytes index → state ≡ mix_words start bytes ((length bytes + 7) / 8)
whole_words start index state bytes rest end rest_len none so_far =
    let whole : length rest ≡ 0 = grind (arith, none) in
    so_far ∙ ap (λ n. mix_words start bytes n) (omega (arith, end, rest_len, whole))

-- in a text whose last word isn't complete, the state after its complete words and the rest is that after all words
pub last_word : (start index state word new : ℕ) (bytes rest : List ℕ) → index ≡ length bytes / 8 → (length rest == 0) ≡ false → rest ≡ drop (length bytes / 8 * 8) bytes → length rest ≡ length bytes % 8
    → word ≡ little_number (length rest) rest → new ≡ mix state word → state ≡ mix_words start bytes index → new ≡ mix_words start bytes ((length bytes + 7) / 8)
unfolding mix_words
last_word start index state word new bytes rest end some rest_is rest_len number_is new_is so_far =
    let zeros : little_number (length rest) rest ≡ little_number 8 rest =
    sym (zeros_past 0 (length rest) (8 - length rest) 8 rest (omega (arith, rest_len)) (omega arith)) in
    let place : length bytes / 8 * 8 ≡ 8 * index = omega (arith, end) in
    let here : word ≡ word_at bytes index = number_is ∙ zeros ∙ ap (λ xs. little_number 8 xs) (rest_is ∙ ap (λ k. drop k bytes) place) in
    let more : 0 < length rest = grind (arith, some) in
    let count : suc index ≡ (length bytes + 7) / 8 = omega (arith, end, rest_len, more) in
    new_is ∙ ap (λ s. mix s word) so_far ∙ ap (λ w. mix (mix_words start bytes index) w) here ∙ ap (λ n. mix_words start bytes n) count
