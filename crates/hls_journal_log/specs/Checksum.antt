-- The checksum of a number and a text: 64 bits that depend on every byte.
use Rattle.std.specs.Prelude.{ℕ, zero, suc, ◌+◌, ◌*◌, ◌/◌, ◌%◌, ◌^◌, List, length, drop, bit_xor}
use Rattle.std.specs.Int.{w64, rotate_left}
use Rattle.byteorder.specs.Endian.{little_number}

-- the state after one more word; another state or another word gives another one
abbrev pub mix : ℕ → ℕ → ℕ
mix state word = rotate_left w64 (bit_xor state (word * 0x9e37_79b9_7f4a_7c15 % 2 ^ 64)) 31 * 0xbf58_476d_1ce4_e5b9 % 2 ^ 64

-- a word of a text: eight bytes, the lowest first, where those past the end count as zeros
abbrev pub word_at : List ℕ → ℕ → ℕ
word_at text n = little_number 8 (drop (8 * n) text)

-- the state after the first words of a text
unfoldable pub mix_words : ℕ → List ℕ → ℕ → ℕ
mix_words state text zero = state
mix_words state text (suc n) = mix (mix_words state text n) (word_at text n)

-- the checksum: a fixed state is mixed with the number, the length, and each word
abbrev pub checksum_of : ℕ → List ℕ → ℕ
checksum_of number text = mix_words (mix (mix 0x243f_6a88_85a3_08d3 number) (length text)) text ((length text + 7) / 8)
