-- Boxes that are written from the first byte to the last.
use Rattle.std.proofs.Common.{◌≡◌, ◌∙◌, ℕ, ◌+◌, ◌*◌, ◌<◌, List, [], ◌∷◌, ◌++◌, length, drop, get_or, refl, ap, append_assoc}
use Rattle.std.specs.List.{flat_map}
use Rattle.std.specs.Int.{to_be_bytes, w32}
use Rattle.std.proofs.lemmas.List.{append-nil}
use Rattle.hls_boxes.specs.Kinds.{moof_type}
use Rattle.hls_media_laws.specs.Kinds.{traf_type, trun_type}
use Rattle.hls_mend_laws.specs.declared.sample.Sample.{Sample}
use Rattle.hls_mend_laws.specs.Bytes.{words, box_header, Box, box_bytes}
use Rattle.hls_mend_laws.specs.Fragments.{Fragment, mfhd_type, payload_offset, row, mfhd_of, tfhd_of, tfdt_of, trun_of, traf_of, moof_of, mdat_of, fragment_bytes}
use Rattle.hls_mend_laws.proofs.Callers.{trun-len, traf-len, moof-len}
use Rattle.hls_mend.proofs.CutSteps.{next-sample}

-- a written box is the header for the length of its content, and then the content
header-and-content : (b : Box) (len : ℕ) → length b.content ≡ len → box_bytes b ≡ box_header b.kind len ++ b.content
unfolding box_bytes
header-and-content b len is = ap (λ (n : ℕ). box_header b.kind n ++ b.content) is

-- a written `trun` is its header, its flags and number of samples, its data offset, and its rows
pub trun-joined : (offset : ℕ) (ss : List Sample)
    → box_bytes (trun_of offset ss) ≡ box_header trun_type (12 + 16 * length ss) ++ (words (0x01000f01 ∷ length ss ∷ []) ++ (to_be_bytes w32 offset ++ words (flat_map row ss)))
trun-joined offset ss = header-and-content (trun_of offset ss) (12 + 16 * length ss) (trun-len offset ss)

-- a written `traf` is its header, and then its `tfhd`, `tfdt` and `trun`
pub traf-joined : (f : Fragment)
    → box_bytes (traf_of f)
    ≡ box_header traf_type (48 + length f.head + 16 * length f.samples) ++ (box_bytes (tfhd_of f) ++ (box_bytes (tfdt_of f.start) ++ box_bytes (trun_of (payload_offset f) f.samples)))
traf-joined f =
    let len = 48 + length f.head + 16 * length f.samples in
    header-and-content (traf_of f) len (traf-len f)
    ∙ ap (λ (bytes : List ℕ). box_header traf_type len ++ (box_bytes (tfhd_of f) ++ (box_bytes (tfdt_of f.start) ++ bytes))) (append-nil (box_bytes (trun_of (payload_offset f) f.samples)))

-- a written `mfhd` is its header, and then a 0 and the sequence number
mfhd-joined : (f : Fragment) (rest : List ℕ) → box_bytes (mfhd_of f) ++ rest ≡ box_header mfhd_type 8 ++ (words (0 ∷ f.number ∷ []) ++ rest)
unfolding box_bytes
mfhd-joined f rest = refl

-- a written `moof` is its header, the `mfhd` and the `traf`
pub moof-joined : (f : Fragment)
    → box_bytes (moof_of f)
    ≡ box_header moof_type (72 + length f.head + 16 * length f.samples) ++ (box_header mfhd_type 8 ++ (words (0 ∷ f.number ∷ []) ++ box_bytes (traf_of f)))
moof-joined f =
    let len = 72 + length f.head + 16 * length f.samples in
    header-and-content (moof_of f) len (moof-len f)
    ∙ ap (λ (bytes : List ℕ). box_header moof_type len ++ (box_bytes (mfhd_of f) ++ bytes)) (append-nil (box_bytes (traf_of f)))
    ∙ ap (λ (bytes : List ℕ). box_header moof_type len ++ bytes) (mfhd-joined f (box_bytes (traf_of f)))

-- a written unit is the boxes before its `moof`, the `moof` and the `mdat`
pub unit-joined : (f : Fragment) → fragment_bytes f ≡ f.front ++ (box_bytes (moof_of f) ++ box_bytes (mdat_of f))
unfolding fragment_bytes
unit-joined f = ap (λ (bytes : List ℕ). f.front ++ (box_bytes (moof_of f) ++ bytes)) (append-nil (box_bytes (mdat_of f)))

-- the rows from a sample on are its own row and those of the samples after it
pub rows-next : (ss : List Sample) (i : ℕ) (s : Sample) → i < length ss → s ≡ get_or ss i s → words (flat_map row (drop i ss)) ≡ words (row s) ++ words (flat_map row (drop (i + 1) ss))
rows-next ss i s within is = ap (λ (xs : List Sample). words (flat_map row xs)) (next-sample ss i s within is)

-- two, three or four parts that are appended one after another are appended as one
pub appended-two : (old a b first last : List ℕ) → first ≡ old ++ a → last ≡ first ++ b → last ≡ old ++ (a ++ b)
appended-two old a b first last is then = then ∙ ap (λ (xs : List ℕ). xs ++ b) is ∙ append_assoc old a b

pub appended-three : (old a b c first second last : List ℕ) → first ≡ old ++ a → second ≡ first ++ b → last ≡ second ++ c → last ≡ old ++ (a ++ (b ++ c))
appended-three old a b c first second last is then more =
    appended-two old (a ++ b) c second last (appended-two old a b first second is then) more ∙ ap (λ (xs : List ℕ). old ++ xs) (append_assoc a b c)

pub appended-four : (old a b c d first second third last : List ℕ) → first ≡ old ++ a → second ≡ first ++ b → third ≡ second ++ c → last ≡ third ++ d → last ≡ old ++ (a ++ (b ++ (c ++ d)))
appended-four old a b c d first second third last is then more end =
    appended-three old (a ++ b) c d second third last (appended-two old a b first second is then) more end ∙ ap (λ (xs : List ℕ). old ++ xs) (append_assoc a b (c ++ d))
