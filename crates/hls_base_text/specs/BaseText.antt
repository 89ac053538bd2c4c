-- The text of a base: a line for each of its parts, in any order, and the base that they give.
use Rattle.std.specs.Prelude.{◌≡◌, ℕ, suc, ◌==◌, nat_le, Bool, true, false, ◌||◌, if◌then◌else◌, List, [], ◌∷◌, ◌++◌, map, replicate, Option, Some, None, is_some, ok_or, option_and_then, Result, Ok, Err, codes, slice_get, slice_set}
use Rattle.std.specs.List.{filter_map, list_any}
use Rattle.std.specs.Borrow.{Bor}
use Rattle.std.specs.Str.{bytes_eq}
use Rattle.std.specs.Fmt.{decimal}
use Rattle.hls_text.specs.Digits.{number_of_digits}
use Rattle.hls_text.specs.Lines.{cut_text}
use Rattle.hls_core_laws.specs.declared.rendition.Rendition.{Rendition}
use Rattle.hls_core_laws.specs.Base.{BaseData, base_limit, bytes_before_base, run_field, run_text}
use Rattle.hls_core.specs.Bases.{IsNoBase, base_from}
use Rattle.hls_base_text.specs.declared.base_line.BaseLine.{BaseLine}
use Rattle.hls_base_text.specs.declared.base_line.BaseLine.TheVariants.{Run, Segments, Marks, Marked, Version, Bytes}
use Rattle.hls_base_text.specs.declared.base_fault.BaseFault.{BaseFault}
use Rattle.hls_base_text.specs.declared.base_fault.BaseFault.TheVariants.{Unknown, Unfinished, Missing, Repeated, Invalid, Inconsistent}
use Rattle.hls_base_text.specs.declared.base_fields.BaseFields.{BaseFields}

-- the names of renditions, by which a text names them
abbrev pub names_of : List Rendition → List (List ℕ)
names_of renditions = map (λ r. r.name) renditions

-- ---- lines

-- what follows a word at the start of a line, if the line begins with it
abbrev pub value_after : List ℕ → List ℕ → Option (List ℕ)
value_after [] line = Some line
value_after (w ∷ word) [] = None
value_after (w ∷ word) (b ∷ line) = if w == b then value_after word line else None

-- the value of a line `bytes NAME N`
abbrev pub bytes_value : List ℕ → List ℕ → Option (List ℕ)
bytes_value name line = option_and_then (λ rest. option_and_then (value_after (codes " ")) (value_after name rest)) (value_after (codes "bytes ") line)

-- the same for the line of a rendition that may not exist
abbrev pub bytes_value_of : Option (List ℕ) → List ℕ → Option (List ℕ)
bytes_value_of None line = None
bytes_value_of (Some name) line = bytes_value name line

-- the value of a line, if it is of this kind
abbrev pub value_in : List (List ℕ) → BaseLine → List ℕ → Option (List ℕ)
value_in names Run line = value_after (codes "run ") line
value_in names Segments line = value_after (codes "segments ") line
value_in names Marks line = value_after (codes "marks ") line
value_in names Marked line = value_after (codes "marked ") line
value_in names Version line = value_after (codes "version ") line
value_in names (Bytes r) line = bytes_value_of (slice_get names r) line

-- whether a line is of any kind that a base has
abbrev pub is_known : List (List ℕ) → List ℕ → Bool
is_known names line =
    is_some (value_after (codes "run ") line) || is_some (value_after (codes "segments ") line) || is_some (value_after (codes "marks ") line)
    || is_some (value_after (codes "marked ") line) || is_some (value_after (codes "version ") line)
    || list_any (λ name. is_some (bytes_value name line)) names

-- a text is finished if nothing follows its last line feed
abbrev pub check_tail : List ℕ → Result (Unit {0}) BaseFault
check_tail [] = Ok tt
check_tail (b ∷ tail) = Err Unfinished

-- the fault of the first line that isn't one of a base, by its number, which counts from n, or of a last line without its end, if any
abbrev pub check_in : List (List ℕ) → ℕ → List (List ℕ) → List ℕ → Result (Unit {0}) BaseFault
check_in names n [] tail = check_tail tail
check_in names n (line ∷ lines) tail = if is_known names line then check_in names (suc n) lines tail else Err (Unknown n)

-- ---- values

-- the values of all lines of one kind
abbrev pub values_in : List (List ℕ) → BaseLine → List (List ℕ) → List (List ℕ)
values_in names key lines = filter_map (value_in names key) lines

-- the value of the only line of one kind; a fault if there is none, or more than one
abbrev pub only_value : BaseLine → List (List ℕ) → Result (List ℕ) BaseFault
only_value key [] = Err (Missing key)
only_value key (value ∷ []) = Ok value
only_value key (value ∷ other ∷ values) = Err (Repeated key)

-- the value of the only line of one kind, or a fault if that line is missing or repeated
abbrev pub text_in : List (List ℕ) → BaseLine → List (List ℕ) → Result (List ℕ) BaseFault
text_in names key lines = only_value key (values_in names key lines)

-- the code returns a value or a fault as expected
abbrev pub ReadsText : Result (Bor (List ℕ)) BaseFault → Result (List ℕ) BaseFault → Type 0
ReadsText (Ok value) expected = expected ≡ Ok value.now
ReadsText (Err fault) expected = expected ≡ Err fault

-- what a result without a fault leads to, or its fault
abbrev pub result_then : {A B : Type 0} → Result A BaseFault → (A → Result B BaseFault) → Result B BaseFault
result_then (Err fault) next = Err fault
result_then (Ok x) next = next x

-- a number, if it is within the limit
abbrev pub limited : Option ℕ → Option ℕ
limited None = None
limited (Some n) = if nat_le n base_limit then Some n else None

-- the number in the only line of one kind, up to the limit, or a fault of that line
abbrev pub number_in : List (List ℕ) → BaseLine → List (List ℕ) → Result ℕ BaseFault
number_in names key lines = result_then (text_in names key lines) (λ value. ok_or (limited (number_of_digits 16 value)) (Invalid key))

-- the name of the run, or a fault of its line
abbrev pub run_in : List (List ℕ) → List (List ℕ) → Result (List ℕ) BaseFault
run_in names lines = result_then (text_in names Run lines) (λ value. ok_or (run_field value) (Invalid Run))

-- the flag that `yes` or `no` spells
abbrev pub yes_or_no : List ℕ → Option Bool
yes_or_no value = if bytes_eq value (codes "yes") then Some true else (if bytes_eq value (codes "no") then Some false else None)

-- whether the first segment after the base has a mark, by its line, or the fault of that line
abbrev pub marked_in : List (List ℕ) → List (List ℕ) → Result Bool BaseFault
marked_in names lines = result_then (text_in names Marked lines) (λ value. ok_or (yes_or_no value) (Invalid Marked))

-- the bytes of all renditions, where those before number r were read, or the first fault of a line
abbrev pub bytes_from : List (List ℕ) → List (List ℕ) → List (List ℕ) → ℕ → List ℕ → Result (List ℕ) BaseFault
bytes_from names lines [] r bytes = Ok bytes
bytes_from names lines (name ∷ rest) r bytes =
    result_then (number_in names (Bytes r) lines) (λ n. bytes_from names lines rest (suc r) (slice_set bytes r n))

-- the bytes of all renditions, up to 16 of them, or the first fault of a line
abbrev pub bytes_in : List (List ℕ) → List (List ℕ) → Result (List ℕ) BaseFault
bytes_in names lines = bytes_from names lines names 0 (replicate 16 0)

-- the fields of a base by its lines, or the first fault
abbrev pub fields_in : List (List ℕ) → List (List ℕ) → Result BaseFields BaseFault
fields_in names lines =
    result_then (run_in names lines) (λ run. result_then (number_in names Segments lines) (λ segments. result_then (number_in names Marks lines) (λ marks.
    result_then (marked_in names lines) (λ marked. result_then (number_in names Version lines) (λ version. result_then (bytes_in names lines) (λ bytes.
    Ok (record { run = run; segments = segments; marks = marks; marked = marked; bytes = bytes; version = version })))))))

-- what a text gives, or its first fault: an unknown line, a missing end, then the faults of the lines in their order
abbrev pub fields_of : List (List ℕ) → List ℕ → Result BaseFields BaseFault
fields_of names text = result_then (check_in names 0 (cut_text text).lines (cut_text text).tail) (λ done. fields_in names (cut_text text).lines)

-- ---- the base

-- the base of these fields
abbrev pub base_with : BaseFields → BaseData
base_with x = base_from x.run x.segments x.marks x.marked x.bytes x.version

-- the result is the base of the fields, or the fault that they are inconsistent
abbrev pub MakesBase : BaseFields → Result BaseData BaseFault → Type 0
MakesBase x (Ok base) = base ≡ base_with x
MakesBase x (Err Inconsistent) = IsNoBase (base_with x)
MakesBase x (Err fault) = ⊥

-- the result is the base of the fields, if there is no fault in reading them, and otherwise that fault
abbrev pub ReadsFields : Result BaseFields BaseFault → Result BaseData BaseFault → Type 0
ReadsFields (Err fault) result = result ≡ Err fault
ReadsFields (Ok x) result = MakesBase x result

-- the result is the base that a text gives to a channel with these renditions, or the first fault
abbrev pub ReadsBase : List (List ℕ) → List ℕ → Result BaseData BaseFault → Type 0
ReadsBase names text result = ReadsFields (fields_of names text) result

-- ---- what is written

-- a word, a text and a line feed
abbrev pub text_line : List ℕ → List ℕ → List ℕ
text_line word text = word ++ (text ++ 10 ∷ [])

-- a word, a number and a line feed
abbrev pub number_line : List ℕ → ℕ → List ℕ
number_line word n = text_line word (decimal n)

-- the line of the bytes of a rendition, by its name
abbrev pub bytes_line : List ℕ → ℕ → List ℕ
bytes_line name n = codes "bytes " ++ (name ++ number_line (codes " ") n)

-- the lines of the bytes of the renditions from number r on
abbrev pub bytes_lines : BaseData → List (List ℕ) → ℕ → List ℕ
bytes_lines base [] r = []
bytes_lines base (name ∷ names) r = bytes_line name (bytes_before_base base r) ++ bytes_lines base names (suc r)

-- how a flag is spelled
abbrev pub said : Bool → List ℕ
said true = codes "yes"
said false = codes "no"

-- the text of a base, for a channel with these renditions
abbrev pub base_text : List (List ℕ) → BaseData → List ℕ
base_text names base =
    text_line (codes "run ") (run_text base.run)
    ++ (number_line (codes "segments ") base.segments
    ++ (number_line (codes "marks ") base.marks
    ++ (text_line (codes "marked ") (said base.marked)
    ++ (number_line (codes "version ") base.version
    ++ bytes_lines base names 0))))
