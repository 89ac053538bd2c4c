-- The lemmas of other crates that this one cites. Declares nothing.
pub use Rattle.hls_text.proofs.Callers.{clean-append, clean_words, first_cut, front_number, front_spaced, IsClean, IsSmall, joined-append, joined_lines, lines_of_joined, no_digit, no_digit_behind, no_end, same_number, same_spaced, spaced_same, tail_of_joined}
