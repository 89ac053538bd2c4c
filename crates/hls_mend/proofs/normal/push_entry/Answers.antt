-- The type, the length and the content, appended one after another.
use Rattle.std.proofs.Common.{◌≡◌, ◌∙◌, ℕ, ◌++◌, List, length, ap, append_assoc}
use Rattle.std.specs.Int.{to_be_bytes, w32, w64}
use Rattle.hls_mend.proofs.normal.push_entry.Goals as goal

pub returns : goal.returns
returns c =
    let kind = to_be_bytes w32 c.args.kind in
    let len = to_be_bytes w64 (length c.args.content.now) in
    let first : c.extend_from_slice.new.self.items ≡ c.args.out.now.items ++ kind =
    c.in_ok-extend_from_slice.ensures.items ∙ ap (λ (xs : List ℕ). c.args.out.now.items ++ xs) c.to_be_bytes.ensures in
    let second : c.extend_from_slice-2.new.self.items ≡ c.extend_from_slice.new.self.items ++ len =
    c.in_ok-extend_from_slice-2.ensures.items ∙ ap (λ (xs : List ℕ). c.extend_from_slice.new.self.items ++ xs) c.to_be_bytes-2.ensures in
    c.in_ok-extend_from_slice-3.ensures.items
    ∙ ap (λ (xs : List ℕ). xs ++ c.args.content.now) (second ∙ ap (λ (xs : List ℕ). xs ++ len) first)
    ∙ append_assoc (c.args.out.now.items ++ kind) len c.args.content.now
    ∙ append_assoc c.args.out.now.items kind (len ++ c.args.content.now)
