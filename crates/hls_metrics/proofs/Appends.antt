-- Texts that are appended one after the other.
use Rattle.std.proofs.Common.{◌≡◌, ℕ, List, ◌++◌, ap, ◌∙◌}
use Rattle.std.proofs.lemmas.List.{append_assoc}

-- a text to which one text and then another are appended has both appended, joined
pub two : (o p q a b : List ℕ) → p ≡ o ++ a → q ≡ p ++ b → q ≡ o ++ (a ++ b)
two o p q a b first second = second ∙ ap (λ (t : List ℕ). t ++ b) first ∙ append_assoc o a b

-- the same for three texts that are appended
pub three : (o p q r a b c : List ℕ) → p ≡ o ++ a → q ≡ p ++ b → r ≡ q ++ c → r ≡ o ++ (a ++ (b ++ c))
three o p q r a b c first second third = two o p r a (b ++ c) first (two p q r b c second third)
