-- The lines of a text, one after the other.
use Rattle.std.proofs.Common.{◌≡◌, ℕ, suc, List, [], ◌∷◌, Option, Some, None, Result, Err, Bool, cond, true, false, refl, ap, ◌∙◌}
use Rattle.std.specs.Prelude.{◌==◌}
use Rattle.std.specs.List.{cons_option}
use Rattle.std.proofs.lemmas.Bool.{cond-true, cond-false}
use Rattle.hls_text.specs.Lines.{IsFirstLine, before_lines, cut_text}
use Rattle.hls_text.proofs.Callers.{first_cut}
use Rattle.hls_base_text.specs.declared.base_line.BaseLine.{BaseLine}
use Rattle.hls_base_text.specs.declared.base_fault.BaseFault.{BaseFault}
use Rattle.hls_base_text.specs.declared.base_fault.BaseFault.TheVariants.{Unknown}
use Rattle.hls_base_text.specs.BaseText.{check_in, check_tail, is_known, value_in, values_in}

-- the checks of the lines of a text, counted from n
abbrev pub checks_from : List (List ℕ) → ℕ → List ℕ → Result (Unit {0}) BaseFault
checks_from names n text = check_in names n (cut_text text).lines (cut_text text).tail

-- the checks of a text are those of its first line and of the lines after it
next-is : (names : List (List ℕ)) (n : ℕ) (text line after : List ℕ) → IsFirstLine text line after →
    checks_from names n text ≡ check_in names n (line ∷ (cut_text after).lines) (cut_text after).tail
next-is names n text line after first =
    let cut = first_cut text line after first in
    ap (λ (lines : List (List ℕ)). check_in names n lines (cut_text text).tail) cut.0
    ∙ ap (check_in names n (line ∷ (cut_text after).lines)) cut.1

-- if the first line is one of a base, the checks continue after it
pub known_line : (names : List (List ℕ)) (n : ℕ) (text line after : List ℕ) → IsFirstLine text line after → is_known names line ≡ true →
    checks_from names n text ≡ checks_from names (suc n) after
known_line names n text line after first known = next-is names n text line after first ∙ cond-true (is_known names line) _ _ known

-- if the first line isn't one of a base, the fault is that line's
pub unknown_line : (names : List (List ℕ)) (n : ℕ) (text line after : List ℕ) → IsFirstLine text line after → is_known names line ≡ false →
    checks_from names n text ≡ Err (Unknown n)
unknown_line names n text line after first unknown = next-is names n text line after first ∙ cond-false (is_known names line) _ _ unknown

-- if a text without a line is its own tail, it still is after a byte is put before it that isn't a line feed
tail-before : (b : ℕ) (lines : List (List ℕ)) (tail text : List ℕ) → (lines ≡ [] → tail ≡ text) → (before_lines b lines tail).lines ≡ [] →
    (before_lines b lines tail).tail ≡ b ∷ text
tail-before b [] tail text rest none = ap (λ (l : List ℕ). b ∷ l) (rest refl)
tail-before b (line ∷ lines) tail text rest none = absurd (cc)

-- if a text without a line is its own tail, it still is after any byte is put before it, if there still is no line
tail-by : (b : ℕ) (is_end : Bool) (lines : List (List ℕ)) (tail text : List ℕ) → (lines ≡ [] → tail ≡ text) →
    (cond is_end (record { lines = [] ∷ lines; tail = tail }) (before_lines b lines tail)).lines ≡ [] →
    (cond is_end (record { lines = [] ∷ lines; tail = tail }) (before_lines b lines tail)).tail ≡ b ∷ text
tail-by b true lines tail text rest none = absurd (cc)
tail-by b false lines tail text rest none = tail-before b lines tail text rest none

-- a text without a line is its own tail
tail-of : (text : List ℕ) → (cut_text text).lines ≡ [] → (cut_text text).tail ≡ text
unfolding cut_text
tail-of [] none = refl
tail-of (b ∷ text) none = tail-by b (b == 10) (cut_text text).lines (cut_text text).tail text (tail-of text) none

-- when no line is left, the tail is checked
pub last_line : (names : List (List ℕ)) (n : ℕ) (text : List ℕ) → (cut_text text).lines ≡ [] → checks_from names n text ≡ check_tail text
last_line names n text none =
    ap (λ (lines : List (List ℕ)). check_in names n lines (cut_text text).tail) none ∙ ap check_tail (tail-of text none)

-- the values of all lines of one kind in a text
abbrev pub values_from : List (List ℕ) → BaseLine → List ℕ → List (List ℕ)
values_from names key text = values_in names key (cut_text text).lines

-- a line's value, if it has one, comes before the values of the lines after it
step-value : (names : List (List ℕ)) (key : BaseLine) (line : List ℕ) (lines : List (List ℕ)) (o : Option (List ℕ)) → value_in names key line ≡ o →
    values_in names key (line ∷ lines) ≡ cons_option o (values_in names key lines)
step-value names key line lines o is = ap (λ (x : Option (List ℕ)). cons_option x (values_in names key lines)) is

-- if the first line has a value of this kind, it is the first value
pub value_here : (names : List (List ℕ)) (key : BaseLine) (text line after value : List ℕ) → IsFirstLine text line after → value_in names key line ≡ Some value →
    values_from names key text ≡ value ∷ values_from names key after
value_here names key text line after value first is =
    ap (values_in names key) (first_cut text line after first).0 ∙ step-value names key line (cut_text after).lines (Some value) is

-- if the first line has no value of this kind, the values are those of the lines after it
pub value_later : (names : List (List ℕ)) (key : BaseLine) (text line after : List ℕ) → IsFirstLine text line after → value_in names key line ≡ None →
    values_from names key text ≡ values_from names key after
value_later names key text line after first is =
    ap (values_in names key) (first_cut text line after first).0 ∙ step-value names key line (cut_text after).lines None is

-- a text without a line has no values
pub value_nowhere : (names : List (List ℕ)) (key : BaseLine) (text : List ℕ) → (cut_text text).lines ≡ [] → values_from names key text ≡ []
value_nowhere names key text none = ap (values_in names key) none
