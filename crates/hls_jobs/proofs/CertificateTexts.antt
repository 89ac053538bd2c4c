-- The text of a certificate, written in parts.
use Rattle.std.proofs.Common.{◌≡◌, ◌∙◌, ℕ, ◌≤◌, min, List, [], ◌++◌, arith, length, map, drop, slice_range, sym, ap}
use Rattle.std.proofs.lemmas.List.{drop_all, drop_min}
use Rattle.std.proofs.lemmas.List.Folds.{drop_split}
use Rattle.hls_check_tables.specs.declared.spot.Spot.{Spot}
use Rattle.hls_check_tables.specs.Certificates.{CertificateData}
use Rattle.hls_check.specs.Text.{head_lines, place_line, claim_lines, text}
use Rattle.hls_check.proofs.Written.{places_parts, text_parts}
use Rattle.hls_text.specs.Lines.{text_of_lines}
use Rattle.hls_catchup.specs.declared.cut_result.CutResult.{CutResult}
use Rattle.hls_jobs.specs.CertificateWriter.{rest_of_certificate}
use Rattle.hls_catchup.specs.Jobs.Files.{certificate_of}

-- with the places up to index `stop` appended, the text so far and the rest are still the whole text
pub places-on : (c : CertificateData) (places : List (List Spot)) (old new : List ℕ) (written from stop : ℕ) → places ≡ c.table.places → from ≡ min written (length places)
    → from ≤ stop → new ≡ old ++ text_of_lines (map place_line (slice_range places from stop)) → new ++ rest_of_certificate c stop ≡ old ++ rest_of_certificate c written
places-on c places old new written from stop same from_is far is =
    ap (λ (ps : List (List Spot)). new ++ text_of_lines (map place_line (drop stop ps) ++ claim_lines c.shown)) (sym same)
    ∙ places_parts old new (slice_range places from stop) (drop stop places) (claim_lines c.shown) is
    ∙ ap (λ (ps : List (List Spot)). old ++ text_of_lines (map place_line ps ++ claim_lines c.shown))
    (sym (drop_split places from stop far) ∙ ap (λ (n : ℕ). drop n places) from_is ∙ drop_min written places)
    ∙ ap (λ (ps : List (List Spot)). old ++ text_of_lines (map place_line (drop written ps) ++ claim_lines c.shown)) same

-- with all remaining places and then the claim appended, the text is the whole
pub all-written : (c : CertificateData) (places : List (List Spot)) (old new all : List ℕ) (written from : ℕ) → places ≡ c.table.places → from ≡ min written (length places)
    → new ≡ old ++ text_of_lines (map place_line (slice_range places from (length places))) → all ≡ new ++ text_of_lines (claim_lines c.shown) → all ≡ old ++ rest_of_certificate c written
all-written c places old new all written from same from_is is all_is =
    let rest = slice_range places from (length places) in
    let within : from ≤ length places = omega (arith, from_is) in
    let left : rest ++ drop (length places) places ≡ drop written places =
    sym (drop_split places from (length places) within) ∙ ap (λ (n : ℕ). drop n places) from_is ∙ drop_min written places in
    all_is ∙ places_parts old new rest [] (claim_lines c.shown) is
    ∙ ap (λ (ps : List (List Spot)). old ++ text_of_lines (map place_line (rest ++ ps) ++ claim_lines c.shown)) (sym (drop_all (length places) places (omega arith)))
    ∙ ap (λ (ps : List (List Spot)). old ++ text_of_lines (map place_line ps ++ claim_lines c.shown)) left
    ∙ ap (λ (ps : List (List Spot)). old ++ text_of_lines (map place_line (drop written ps) ++ claim_lines c.shown)) same

-- the head, followed by the rest from the first place on, is the certificate's text
pub head-written : (cut : CutResult) (c : CertificateData) (out : List ℕ) → c ≡ certificate_of cut → out ≡ text_of_lines (head_lines c.table.goal c.table.renditions (length c.table.places))
    → out ++ rest_of_certificate (certificate_of cut) 0 ≡ text (certificate_of cut)
head-written cut c out c_is is =
    ap (λ (d : CertificateData). out ++ rest_of_certificate d 0) (sym c_is)
    ∙ ap (λ (t : List ℕ). t ++ rest_of_certificate c 0) is
    ∙ sym (text_parts c)
    ∙ ap (λ (d : CertificateData). text d) c_is
