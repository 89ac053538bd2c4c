-- The header, the flags and the number of samples, the data offset and the rows are appended one after another (`trun-joined`).
use Rattle.std.proofs.Common.{◌≡◌, ◌∙◌, ℕ, ◌+◌, ◌*◌, List, [], ◌∷◌, ◌++◌, length, sym, ap}
use Rattle.std.specs.List.{flat_map}
use Rattle.std.specs.Int.{to_be_bytes, w32}
use Rattle.hls_media_laws.specs.Kinds.{trun_type}
use Rattle.hls_mend_laws.specs.Bytes.{words, box_header}
use Rattle.hls_mend_laws.specs.Fragments.{row}
use Rattle.hls_mend.proofs.Joined.{trun-joined, appended-four}
use Rattle.hls_mend.proofs.write.push_trun.Goals as goal

pub returns : goal.returns
returns c =
    let ss = c.args.samples.now in
    let offset = to_be_bytes w32 c.args.offset in
    let at : c.extend_from_slice.new.self.items ≡ c.push_two.new.out.items ++ offset =
    c.in_ok-extend_from_slice.ensures.items ∙ ap (λ (xs : List ℕ). c.push_two.new.out.items ++ xs) c.to_be_bytes.ensures in
    appended-four c.args.out.now.items (box_header trun_type (12 + 16 * length ss)) (words (0x01000f01 ∷ length ss ∷ [])) offset (words (flat_map row ss)) _ _ _ _
    c.in_ok-push_header.ensures c.in_ok-push_two.ensures at c.in_ok-push_rows.ensures
    ∙ ap (λ (xs : List ℕ). c.args.out.now.items ++ xs) (sym (trun-joined c.args.offset ss))
