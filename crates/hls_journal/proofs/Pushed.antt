-- Bytes that are appended one part after another.
use Rattle.std.proofs.Common.{◌≡◌, ◌∙◌, ℕ, ◌+◌, ◌<◌, List, [], ◌∷◌, ◌++◌, length, take, get_or, sym, ap, append_assoc}
use Rattle.std.specs.List.{flat_map}
use Rattle.std.proofs.lemmas.List.{take_more, flat_map_more}

-- if a part is appended after others, all of them are appended
pub then_pushed : (old parts before part after : List ℕ) → before ≡ old ++ parts → after ≡ before ++ part → after ≡ old ++ (parts ++ part)
then_pushed old parts before part after so_far one = one ∙ ap (λ xs. xs ++ part) so_far ∙ append_assoc old parts part

-- if the bytes of the next element are appended after those of the elements before it, those of one element more are appended
pub one_more_pushed : {X : Type 0} → (f : X → List ℕ) (xs : List X) (index : ℕ) (x : X) (old before after : List ℕ) → index < length xs → x ≡ get_or xs index x
    → before ≡ old ++ flat_map f (take index xs) → after ≡ before ++ f x → after ≡ old ++ flat_map f (take (index + 1) xs)
one_more_pushed f xs index x old before after within at so_far one =
    one ∙ ap (λ ys. ys ++ f x) so_far ∙ flat_map_more f old (take index xs) x
    ∙ ap (λ ys. old ++ flat_map f ys) (ap (λ y. take index xs ++ y ∷ []) at ∙ sym (take_more xs index x within))
