-- Two numbers are appended, each as four bytes with the highest first.
use Rattle.std.proofs.Common.{◌≡◌, ◌∙◌, ℕ, ◌++◌, List, ap}
use Rattle.std.specs.Int.{to_be_bytes, w32}
use Rattle.hls_mend.proofs.Joined.{appended-two}
use Rattle.hls_mend.proofs.write.push_two.Goals as goal

pub returns : goal.returns
returns c =
    let first : c.extend_from_slice.new.self.items ≡ c.args.out.now.items ++ to_be_bytes w32 c.args.first =
    c.in_ok-extend_from_slice.ensures.items ∙ ap (λ (xs : List ℕ). c.args.out.now.items ++ xs) c.to_be_bytes.ensures in
    let second : c.extend_from_slice-2.new.self.items ≡ c.extend_from_slice.new.self.items ++ to_be_bytes w32 c.args.second =
    c.in_ok-extend_from_slice-2.ensures.items ∙ ap (λ (xs : List ℕ). c.extend_from_slice.new.self.items ++ xs) c.to_be_bytes-2.ensures in
    appended-two c.args.out.now.items (to_be_bytes w32 c.args.first) (to_be_bytes w32 c.args.second) _ _ first second
