-- The bytes of the `moof` are appended: its header, its `mfhd` with the number, and its `traf`.
use Rattle.std.proofs.Common.{◌∙◌, ℕ, ◌+◌, ◌*◌, List, [], ◌∷◌, ◌++◌, length, sym, ap}
use Rattle.hls_boxes.specs.Kinds.{moof_type}
use Rattle.hls_mend_laws.specs.Bytes.{words, box_header, box_bytes}
use Rattle.hls_mend_laws.specs.Fragments.{mfhd_type, traf_of}
use Rattle.hls_mend.specs.Views.{parts_view}
use Rattle.hls_mend.proofs.Joined.{moof-joined, appended-four}
use Rattle.hls_mend.proofs.write.push_moof.Goals as goal

pub returns : goal.returns
returns c =
    let f = parts_view c.args.parts in
    appended-four c.args.out.now.items (box_header moof_type (72 + length f.head + 16 * length f.samples)) (box_header mfhd_type 8) (words (0 ∷ f.number ∷ []))
    (box_bytes (traf_of f)) _ _ _ _ c.in_ok-push_header.ensures c.in_ok-push_header-2.ensures c.in_ok-push_two.ensures c.in_ok-push_traf.ensures
    ∙ ap (λ (xs : List ℕ). c.args.out.now.items ++ xs) (sym (moof-joined f))
