-- The name of a run: the bytes before the first zero.
use Rattle.std.proofs.Common.{◌≡◌, ◌∙◌, ℕ, ◌≤◌, Bool, true, false, List, ◌++◌, length, take, drop, cond, Option, Some, None, refl, sym, ap, arith}
use Rattle.std.specs.Prelude.{◌==◌, nat_lt, position, replicate}
use Rattle.std.specs.List.{position_or_len}
use Rattle.std.proofs.lemmas.Bool.{and_parts, cond-false, cond-true, leb-true, ltb-false}
use Rattle.std.proofs.lemmas.List.{drop-replicate, take_all}
use Rattle.hls_core_laws.specs.Base.{is_run_name, run_field, run_text}

-- the value of a conditional option, if it is present, is the one given
ends_at : (b : Bool) (n end : ℕ) → cond b (Some n) None ≡ Some end → end ≡ n
ends_at true n end is = cc
ends_at false n end is = absurd (cc)

-- if the first zero byte of a field is at `end`, the bytes before it are the name of the run
pub named_at : (run : List ℕ) (end : ℕ) → Some end ≡ position (λ b. b == 0) run → take end run ≡ run_text run
named_at run end is =
    ap (λ (n : ℕ). take n run)
    (ends_at (nat_lt (position_or_len (λ b. b == 0) run) (length run)) (position_or_len (λ b. b == 0) run) end (sym is))

-- a conditional option is absent only if its condition doesn't hold
none_before : (b : Bool) (n : ℕ) → cond b (Some n) None ≡ None → b ≡ false
none_before true n is = absurd (cc)
none_before false n is = refl

-- a field without a zero byte is the name of the run
pub named_all : (run : List ℕ) → None ≡ position (λ b. b == 0) run → run ≡ run_text run
named_all run is =
    let past = none_before (nat_lt (position_or_len (λ b. b == 0) run) (length run)) (position_or_len (λ b. b == 0) run) (sym is) in
    sym (take_all (position_or_len (λ b. b == 0) run) run (omega (arith, ltb-false (position_or_len (λ b. b == 0) run) (length run) past)))

-- ---- the name of a run in a field

-- a text that isn't the name of a run has no field
pub no_name : (text : List ℕ) → is_run_name text ≡ false → None ≡ run_field text
no_name text is = sym (cond-false (is_run_name text) _ _ is)

-- a copy of the name of a run, with the zero bytes of an empty field after it, is the run's field
pub name_padded : (text copied : List ℕ) → is_run_name text ≡ true → copied ≡ text → Some (copied ++ drop (length text) (replicate 16 0)) ≡ run_field text
name_padded text copied is same =
    ap (λ (xs : List ℕ). Some (xs ++ drop (length text) (replicate 16 0))) same
    ∙ (ap (λ (xs : List ℕ). Some (text ++ xs)) (drop-replicate (length text) 16 0)
    ∙ sym (cond-true (is_run_name text) _ _ is))

-- the name of a run has at most 16 bytes
pub name_fits : (text : List ℕ) → is_run_name text ≡ true → length text ≤ 16
name_fits text is =
    let parts = and_parts _ _ is in
    let front = and_parts _ _ parts.0 in
    leb-true (length text) 16 front.1
