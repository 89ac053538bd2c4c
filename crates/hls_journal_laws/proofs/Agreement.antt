-- Kept bytes that agree from a number on.
use Rattle.std.proofs.Common.{◌≡◌, ◌≢◌, ◌∙◌, ℕ, ◌+◌, ◌-◌, ◌<◌, ◌≤◌, List, [], ◌∷◌, ◌++◌, length, take, drop, get_or, set, Some, refl, sym, ap, subst, inl, inr, arith, length-append, length-drop}
use Rattle.std.specs.Prelude.{◌⊎◌, slice_get, slice_set, slice_index_or}
use Rattle.std.proofs.lemmas.List.{drop-append-le, drop-drop, drop_all, get_or-set_same, get_or-set_other}
use Rattle.std.proofs.lemmas.Bool.{cases_lt, cases_eq}
use Rattle.hls_core_laws.specs.Channel.{Channel, Lane, no_lane, lane, with_lane}
use Rattle.hls_core_laws.specs.State.{State, HeldBytes, no_bytes, channel}
use Rattle.hls_core_laws.specs.Moves.{push_unit_bytes, drop_unit_bytes}

-- kept bytes that agree but for the first n units, and have as many units
pub record AgreeFrom (n : ℕ) (h k : HeldBytes) : Type 0 where
  pub head : k.head ≡ h.head
  pub count : length k.units ≡ length h.units
  pub rest : drop n k.units ≡ drop n h.units

-- kept bytes agree with themselves from any number on
pub agree_with_itself : (n : ℕ) (h : HeldBytes) → AgreeFrom n h h
agree_with_itself n h = record { head = refl; count = refl; rest = refl }

-- lists of units that agree from number n on still do after the same unit is added to both
same_pushed : (n : ℕ) (xs ys : List (List ℕ)) (b : List ℕ) → length ys ≡ length xs → drop n ys ≡ drop n xs → drop n (ys ++ b ∷ []) ≡ drop n (xs ++ b ∷ [])
same_pushed n xs ys b count rest =
    elim (cases_lt (length xs) n) [
      | inl short ↦
          drop_all n (ys ++ b ∷ []) (omega (arith, length-append ys (b ∷ []), count, short))
          ∙ sym (drop_all n (xs ++ b ∷ []) (omega (arith, length-append xs (b ∷ []), short)))
      | inr long ↦
          drop-append-le n ys (b ∷ []) (omega (arith, count, long)) ∙ ap (λ zs. zs ++ b ∷ []) rest ∙ sym (drop-append-le n xs (b ∷ []) long)
    ]

-- lists of units of the same length below n agree from number n on, whatever unit is added to each
other_pushed : (n : ℕ) (xs ys : List (List ℕ)) (b c : List ℕ) → length ys ≡ length xs → length xs < n → drop n (ys ++ c ∷ []) ≡ drop n (xs ++ b ∷ [])
other_pushed n xs ys b c count short =
    drop_all n (ys ++ c ∷ []) (omega (arith, length-append ys (c ∷ []), count, short))
    ∙ sym (drop_all n (xs ++ b ∷ []) (omega (arith, length-append xs (b ∷ []), short)))

-- kept bytes that agree from n on still do after each gets one unit more: the same one, or any whose number is below n
pub agree_pushed : (n : ℕ) (h k : HeldBytes) (b c : List ℕ) → AgreeFrom n h k → (c ≡ b) ⊎ (length h.units < n) → AgreeFrom n (push_unit_bytes h b) (push_unit_bytes k c)
agree_pushed n h k b c agree (inl same) = record {
  head = agree.head;
  count = omega (arith, length-append k.units (c ∷ []), length-append h.units (b ∷ []), agree.count);
  rest = ap (λ x. drop n (k.units ++ x ∷ [])) same ∙ same_pushed n h.units k.units b agree.count agree.rest;
}
agree_pushed n h k b c agree (inr below) = record {
  head = agree.head;
  count = omega (arith, length-append k.units (c ∷ []), length-append h.units (b ∷ []), agree.count);
  rest = other_pushed n h.units k.units b c agree.count below;
}

-- lists that agree from number n on agree from each later number on
later_drop : (n p : ℕ) (xs ys : List (List ℕ)) → n ≤ p → drop n ys ≡ drop n xs → drop p ys ≡ drop p xs
later_drop n p xs ys le rest =
    let whole : n + (p - n) ≡ p = omega (arith, le) in
    ap (λ k. drop k ys) (sym whole) ∙ sym (drop-drop (p - n) n ys) ∙ ap (λ zs. drop (p - n) zs) rest ∙ drop-drop (p - n) n xs ∙ ap (λ k. drop k xs) whole

-- kept bytes that agree from number n on agree from number m on without their first `gone` units, if n is at most gone + m
pub agree_dropped : (n m gone : ℕ) (h k : HeldBytes) → n ≤ gone + m → AgreeFrom n h k → AgreeFrom m (drop_unit_bytes h gone) (drop_unit_bytes k gone)
agree_dropped n m gone h k le agree = record {
  head = agree.head;
  count = omega (arith, length-drop gone k.units, length-drop gone h.units, agree.count);
  rest = drop-drop m gone k.units ∙ later_drop n (gone + m) h.units k.units le agree.rest ∙ sym (drop-drop m gone h.units);
}

-- if the bytes of one rendition are replaced in two lists, they agree in each rendition as they did, and in this one as the new ones do
pub agree_set : (xs ys : List HeldBytes) (q : ℕ) (a b : HeldBytes) (ns ms : ℕ → ℕ) → length ys ≡ length xs → q < length xs → ((r : ℕ) → AgreeFrom (ns r) (get_or xs r no_bytes) (get_or ys r no_bytes))
    → AgreeFrom (ms q) a b → ((r : ℕ) → r ≢ q → ms r ≡ ns r) → (r : ℕ) → AgreeFrom (ms r) (get_or (set xs q a) r no_bytes) (get_or (set ys q b) r no_bytes)
agree_set xs ys q a b ns ms counts within all one else r =
    elim (cases_eq r q) [
      | inl here ↦
          subst (λ (k : ℕ). AgreeFrom (ms k) (get_or (set xs q a) k no_bytes) (get_or (set ys q b) k no_bytes)) (sym here)
          (subst (λ (h : HeldBytes). AgreeFrom (ms q) h (get_or (set ys q b) q no_bytes)) (sym (get_or-set_same xs q a no_bytes within))
          (subst (λ (h : HeldBytes). AgreeFrom (ms q) a h) (sym (get_or-set_same ys q b no_bytes (omega (arith, within, counts)))) one))
      | inr there ↦
          subst (λ (n : ℕ). AgreeFrom n (get_or (set xs q a) r no_bytes) (get_or (set ys q b) r no_bytes)) (sym (else r there))
          (subst (λ (h : HeldBytes). AgreeFrom (ns r) h (get_or (set ys q b) r no_bytes)) (sym (get_or-set_other xs q r a no_bytes there))
          (subst (λ (h : HeldBytes). AgreeFrom (ns r) (get_or xs r no_bytes) h) (sym (get_or-set_other ys q r b no_bytes there)) (all r)))
    ]

-- after a lane is replaced, the rendition has the new one
pub lane_here : (ch : Channel) (q : ℕ) (l : Lane) → q < length ch.lanes → lane (with_lane ch q l) q ≡ l
lane_here ch q l within = get_or-set_same ch.lanes q l no_lane within

-- the other renditions have the lanes that they had
pub lane_else : (ch : Channel) (q r : ℕ) (l : Lane) → r ≢ q → lane (with_lane ch q l) r ≡ lane ch r
lane_else ch q r l there = get_or-set_other ch.lanes q r l no_lane there

-- after a lane is replaced by one with the same floor, each rendition has the floor that it had
pub floor_stays : (ch : Channel) (q : ℕ) (l : Lane) → q < length ch.lanes → l.floor ≡ (lane ch q).floor → (r : ℕ) → (lane (with_lane ch q l) r).floor ≡ (lane ch r).floor
floor_stays ch q l within same r =
    elim (cases_eq r q) [
      | inl here ↦
          ap (λ k. (lane (with_lane ch q l) k).floor) here ∙ ap (λ (x : Lane). x.floor) (lane_here ch q l within) ∙ same ∙ sym (ap (λ k. (lane ch k).floor) here)
      | inr there ↦ ap (λ (x : Lane). x.floor) (lane_else ch q r l there)
    ]
