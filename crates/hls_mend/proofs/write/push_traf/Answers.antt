-- The bytes of the `traf` are appended: its header, its `tfhd`, its `tfdt` with the start, and its `trun` with the samples (`traf-joined`).
use Rattle.std.proofs.Common.{◌∙◌, ℕ, ◌+◌, ◌*◌, List, ◌++◌, length, sym, ap}
use Rattle.hls_media_laws.specs.Kinds.{traf_type}
use Rattle.hls_mend_laws.specs.Bytes.{box_header, box_bytes}
use Rattle.hls_mend_laws.specs.Fragments.{payload_offset, tfhd_of, tfdt_of, trun_of}
use Rattle.hls_mend.specs.Views.{parts_view}
use Rattle.hls_mend.proofs.Joined.{traf-joined, appended-four}
use Rattle.hls_mend.proofs.write.push_traf.Goals as goal

pub returns : goal.returns
returns c =
    let f = parts_view c.args.parts in
    appended-four c.args.out.now.items (box_header traf_type (48 + length f.head + 16 * length f.samples)) (box_bytes (tfhd_of f)) (box_bytes (tfdt_of f.start))
    (box_bytes (trun_of (payload_offset f) f.samples)) _ _ _ _ c.in_ok-push_header.ensures c.in_ok-push_box.ensures c.in_ok-push_tfdt.ensures c.in_ok-push_trun.ensures
    ∙ ap (λ (xs : List ℕ). c.args.out.now.items ++ xs) (sym (traf-joined f))
