-- The values of a name, by going through the fields.
use Rattle.std.proofs.Common.{◌≡◌, ◌∙◌, ℕ, ◌+◌, ◌≤◌, ◌<◌, List, [], ◌∷◌, Bool, true, false, cond, Some, None, length, get_or, refl, ap, drop_of_length-le}
use Rattle.std.proofs.lemmas.List.{at_drop_more}
use Rattle.httparse.specs.{declared.spans.HeaderSpan.HeaderSpan, Spans.header_bytes}
use Rattle.hls_http.specs.{Fields.{has_name, values}, Values.{values_from, fields_at}}

-- if the field has the name, its value is the first of the values
found : (b : Bool) (x v : List ℕ) (vs : List (List ℕ)) → Some v ≡ cond b (Some x) None → cond b (x ∷ vs) vs ≡ v ∷ vs
found true x v vs e = cc
found false x v vs e = absurd (cc e)

-- if the field doesn't have the name, the values are those of the other fields
passed : (b : Bool) (x : List ℕ) (vs : List (List ℕ)) → None ≡ cond b (Some x) None → cond b (x ∷ vs) vs ≡ vs
passed true x vs e = absurd (cc e)
passed false x vs e = refl

-- the values from index i on are that of field i, if it has the name, and those from index i + 1 on
one_more : (text : List ℕ) (headers : List HeaderSpan) (name : List ℕ) (i : ℕ) (d : HeaderSpan) → i < length headers
    → values_from text headers name i
    ≡ cond (has_name name (header_bytes text (get_or headers i d))) ((header_bytes text (get_or headers i d)).1 ∷ values_from text headers name (i + 1)) (values_from text headers name (i + 1))
unfolding values
one_more text headers name i d h = at_drop_more (λ (xs : List HeaderSpan). values name (fields_at text xs)) headers i d h

-- if field i has the name, its value precedes those from index i + 1 on
pub value_comes : (text : List ℕ) (headers : List HeaderSpan) (name : List ℕ) (i : ℕ) (d : HeaderSpan) (v : List ℕ) → i < length headers
    → Some v ≡ cond (has_name name (header_bytes text (get_or headers i d))) (Some (header_bytes text (get_or headers i d)).1) None
    → values_from text headers name i ≡ v ∷ values_from text headers name (i + 1)
value_comes text headers name i d v h is = one_more text headers name i d h ∙ found _ _ v (values_from text headers name (i + 1)) is

-- if field i doesn't have the name, the values from i on are those from i + 1 on
pub none_comes : (text : List ℕ) (headers : List HeaderSpan) (name : List ℕ) (i : ℕ) (d : HeaderSpan) → i < length headers
    → None ≡ cond (has_name name (header_bytes text (get_or headers i d))) (Some (header_bytes text (get_or headers i d)).1) None
    → values_from text headers name i ≡ values_from text headers name (i + 1)
none_comes text headers name i d h is = one_more text headers name i d h ∙ passed _ _ (values_from text headers name (i + 1)) is

-- after the last field there are no values
pub none_left : (text : List ℕ) (headers : List HeaderSpan) (name : List ℕ) (i : ℕ) → length headers ≤ i → values_from text headers name i ≡ []
unfolding values
none_left text headers name i h = ap (λ (xs : List HeaderSpan). values name (fields_at text xs)) (drop_of_length-le headers h)
