-- The header, the version and the start are appended one after another.
use Rattle.std.proofs.Common.{◌≡◌, ◌∙◌, ℕ, List, [], ◌∷◌, ◌++◌, ap}
use Rattle.std.specs.Int.{to_be_bytes, w64}
use Rattle.hls_media_laws.specs.Kinds.{tfdt_type}
use Rattle.hls_mend_laws.specs.Bytes.{words, box_header, box_bytes}
use Rattle.hls_mend.proofs.Joined.{appended-three}
use Rattle.hls_mend.proofs.write.push_tfdt.Goals as goal

pub returns : goal.returns
unfolding box_bytes
returns c =
    let start = to_be_bytes w64 c.args.start in
    let version : c.extend_from_slice.new.self.items ≡ c.push_header.new.out.items ++ words (0x01000000 ∷ []) =
    c.in_ok-extend_from_slice.ensures.items ∙ ap (λ (xs : List ℕ). c.push_header.new.out.items ++ xs) c.to_be_bytes.ensures in
    let time : c.extend_from_slice-2.new.self.items ≡ c.extend_from_slice.new.self.items ++ start =
    c.in_ok-extend_from_slice-2.ensures.items ∙ ap (λ (xs : List ℕ). c.extend_from_slice.new.self.items ++ xs) c.to_be_bytes-2.ensures in
    appended-three c.args.out.now.items (box_header tfdt_type 12) (words (0x01000000 ∷ [])) start _ _ _ c.in_ok-push_header.ensures version time
