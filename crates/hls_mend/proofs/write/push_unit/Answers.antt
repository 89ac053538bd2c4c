-- The bytes of the unit are appended: the boxes before its `moof`, the `moof`, and the `mdat` with the payload.
use Rattle.std.proofs.Common.{◌∙◌, ℕ, List, ◌++◌, sym, ap}
use Rattle.hls_mend_laws.specs.Bytes.{box_bytes}
use Rattle.hls_mend_laws.specs.Fragments.{moof_of, mdat_of}
use Rattle.hls_mend.specs.Views.{parts_view}
use Rattle.hls_mend.proofs.Joined.{unit-joined, appended-three}
use Rattle.hls_mend.proofs.write.push_unit.Goals as goal

pub returns : goal.returns
returns c =
    let f = parts_view c.args.parts in
    appended-three c.args.out.now.items f.front (box_bytes (moof_of f)) (box_bytes (mdat_of f)) _ _ _
    c.in_ok-extend_from_slice.ensures.items c.in_ok-push_moof.ensures c.in_ok-push_box.ensures
    ∙ ap (λ (xs : List ℕ). c.args.out.now.items ++ xs) (sym (unit-joined f))
