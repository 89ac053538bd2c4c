-- The text of a programme's playlist.
use Rattle.std.proofs.Common.{◌≡◌, ◌∙◌, ℕ, ◌+◌, ◌<◌, List, ◌++◌, length, drop, map, get_or, All, arith, sym, ap, append_assoc, rules}
use Rattle.std.specs.Prelude.{IsTrue, IsUtf8}
use Rattle.std.proofs.lemmas.List.{drop_more}
use Rattle.std.proofs.lemmas.Str.{IsUtf8-from_ascii}
use Rattle.std.proofs.lemmas.Str.Ascii.{IsAscii-from_all}
use Rattle.hls_core_laws.specs.Base.{BaseData, IsBase, is_run_byte, run_text}
use Rattle.hls_m3u8.specs.declared.playlist.MediaSegment.{MediaSegment}
use Rattle.hls_m3u8.specs.Lines.{text_of_lines, segment_lines, all_segment_lines}
use Rattle.hls_m3u8.proofs.Joined.{joined_append}

-- ---- the name of a run is UTF-8 text

run_byte_small : (b : ℕ) → IsTrue (is_run_byte b) → b < 128
run_byte_small b spelled = grind (arith, spelled)

run_bytes_small : (name : List ℕ) → All (λ b. IsTrue (is_run_byte b)) name → All (λ b. b < 128) name
run_bytes_small name spelled = search rules

-- the text of a base's run is UTF-8
pub run_utf8 : (base : BaseData) → IsBase base → IsUtf8 (run_text base.run)
run_utf8 base is = IsUtf8-from_ascii (run_text base.run) (IsAscii-from_all (run_text base.run) (run_bytes_small (run_text base.run) is.run))

-- ---- segments

-- one more of the segments that were made of others is written
pub next_made : (make : MediaSegment → MediaSegment) (o p : List ℕ) (s : MediaSegment) (ss : List MediaSegment) (i : ℕ) → i < length ss → get_or ss i s ≡ s
    → p ≡ o ++ text_of_lines (segment_lines (make s))
    → p ++ text_of_lines (all_segment_lines (map make (drop (i + 1) ss))) ≡ o ++ text_of_lines (all_segment_lines (map make (drop i ss)))
next_made make o p s ss i small at written =
    let rest = all_segment_lines (map make (drop (i + 1) ss)) in
    ap (λ (t : List ℕ). t ++ text_of_lines rest) written
    ∙ append_assoc o (text_of_lines (segment_lines (make s))) (text_of_lines rest)
    ∙ ap (λ (t : List ℕ). o ++ t) (sym (joined_append (segment_lines (make s)) rest))
    ∙ ap (λ (x : MediaSegment). o ++ text_of_lines (segment_lines (make x) ++ rest)) (sym at)
    ∙ ap (λ (xs : List MediaSegment). o ++ text_of_lines (all_segment_lines (map make xs))) (sym (drop_more ss i s small))
