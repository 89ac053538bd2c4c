-- For the proofs of this crate; no public clause cites it.
-- The values of a head's fields, by its spans.
use Rattle.std.specs.Prelude.{◌≡◌, ℕ, ◌<◌, ◌≤◌, cond, List, [], ◌∷◌, length, drop, map, Option, Some, None}
use Rattle.httparse.specs.{declared.spans.HeaderSpan.HeaderSpan, Spans.header_bytes}
use Rattle.hls_http.specs.declared.fields.SingleField.{SingleField, TheVariants.{Missing, One, Several}}
use Rattle.hls_http.specs.Fields.{Fields, has_name, values}

-- the names and values of the fields whose places in the text are given
abbrev pub fields_at : List ℕ → List HeaderSpan → Fields
fields_at text headers = map (header_bytes text) headers

-- the value of a field, if it has this name
abbrev pub named_value : List ℕ → List ℕ × List ℕ → Option (List ℕ)
named_value name field = cond (has_name name field) (Some field.1) None

-- the values of this name among the fields, from an index on
abbrev pub values_from : List ℕ → List HeaderSpan → List ℕ → ℕ → List (List ℕ)
values_from text headers name at = values name (fields_at text (drop at headers))

-- the first value of this name among the fields from index `at` on, with the index after its field; or there is none
abbrev pub NextValue : List ℕ → List HeaderSpan → List ℕ → ℕ → Option (ℕ × List ℕ) → Type 0
NextValue text headers name at None = values_from text headers name at ≡ []
NextValue text headers name at (Some (next, value)) =
    (at < next) × (next ≤ length headers) × (values_from text headers name at ≡ value ∷ values_from text headers name next)

-- the values of a field that must occur at most once
abbrev pub IsSingleField : List (List ℕ) → SingleField → Type 0
IsSingleField vs Missing = vs ≡ []
IsSingleField vs (One value) = vs ≡ value.now ∷ []
IsSingleField vs Several = (x : List ℕ) × (y : List ℕ) × (more : List (List ℕ)) × (vs ≡ x ∷ y ∷ more)
