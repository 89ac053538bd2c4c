-- The input of a reader and the output of a writer, before and after a call.
use Rattle.std.specs.Prelude.{◌≡◌, ℕ, List, Option, Some}
use Rattle.hls_io.specs.{Counted.inner_of, declared.counted.Counted.Counted}

-- if the remaining input of a reader is known before a call, it, what remains afterwards and the result satisfy the relation
abbrev pub RelatesInput : {R E : Type 0} → (R → Option (List ℕ)) → Counted R → Counted R → (List ℕ → Option (List ℕ) → E → Type 0) → E → Type 0
RelatesInput remaining old new Is result =
    (text : List ℕ) → remaining (inner_of old) ≡ Some text → Is text (remaining (inner_of new)) result

-- if the output of a writer is known before a call, it, the output afterwards and the result satisfy the relation
abbrev pub RelatesOutput : {W E : Type 0} → (W → Option (List ℕ)) → Counted W → Counted W → (List ℕ → Option (List ℕ) → E → Type 0) → E → Type 0
RelatesOutput contents old new Is result =
    (held : List ℕ) → contents (inner_of old) ≡ Some held → Is held (contents (inner_of new)) result

-- the same of the input of a reader and the output of a writer, if both are known
abbrev pub RelatesInputAndOutput : {R W E : Type 0} → (R → Option (List ℕ)) → Counted R → Counted R → (W → Option (List ℕ)) → Counted W → Counted W
    → (List ℕ → List ℕ → Option (List ℕ) → Option (List ℕ) → E → Type 0) → E → Type 0
RelatesInputAndOutput remaining old_input input contents old_output output Is result =
    (text held : List ℕ) → remaining (inner_of old_input) ≡ Some text → contents (inner_of old_output) ≡ Some held
    → Is text held (remaining (inner_of input)) (contents (inner_of output)) result
