-- What follows a word at the start of a line.
use Rattle.std.proofs.Common.{◌≡◌, ℕ, List, [], ◌∷◌, ◌++◌, Some, None, true, inl, inr, refl, sym, ap, ◌∙◌, arith}
use Rattle.std.specs.Prelude.{◌==◌}
use Rattle.std.proofs.lemmas.Bool.{cases_Bool, cond-true, cond-false, eqb-true}
use Rattle.hls_base_text.specs.BaseText.{value_after}

-- a byte equals itself
same-word : (w : ℕ) → (w == w) ≡ true
same-word w = grind (arith)

-- if a line begins with a word, its value is what follows the word
pub after_some : (line word rest : List ℕ) → line ≡ word ++ rest → value_after word line ≡ Some rest
after_some line [] rest is = ap (λ (l : List ℕ). Some l) is
after_some line (w ∷ word) rest is =
    ap (value_after (w ∷ word)) is ∙ (cond-true (w == w) _ _ (same-word w) ∙ after_some (word ++ rest) word rest refl)

-- if a line doesn't begin with a word, it has no value
pub after_none : (line word : List ℕ) → ((rest : List ℕ) → line ≡ word ++ rest → ⊥) → value_after word line ≡ None
after_none line [] none = absurd (none line refl)
after_none [] (w ∷ word) none = refl
after_none (b ∷ line) (w ∷ word) none =
    elim (cases_Bool (w == b)) [
      | inl same ↦
          let is : w ≡ b = eqb-true w b same in
          cond-true (w == b) _ _ same
          ∙ after_none line word (λ rest here. none rest (ap (λ (c : ℕ). c ∷ line) (sym is) ∙ ap (λ (l : List ℕ). w ∷ l) here))
      | inr other ↦ cond-false (w == b) _ _ other
    ]
