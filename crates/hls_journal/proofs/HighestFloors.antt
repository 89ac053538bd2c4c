-- The highest floors of records, one by one.
use Rattle.std.proofs.Common.{◌≡◌, ◌∙◌, ℕ, ◌+◌, ◌<◌, ◌==◌, Bool, true, false, List, [], ◌∷◌, ◌++◌, length, take, drop, get_or, set, refl, sym, ap, inl, inr, arith}
use Rattle.std.specs.Prelude.{max, ◌&&◌, if◌then◌else◌}
use Rattle.std.proofs.Math.Seq.{take-append_seam}
use Rattle.std.proofs.lemmas.Bool.{cases_eq, eqb-true, eq-eqb, cases_lt}
use Rattle.std.proofs.lemmas.List.{take_more, get_or-set_same, get_or-set_other, get_or_past}
use Rattle.hls_journal_laws.specs.Bodies.{kind_in, rendition_in, number_in}
use Rattle.hls_journal_laws.specs.Floors.{floor_in, highest_floor}

-- the highest floor of records and one more is the greater of theirs and of that record's floor
pub highest_snoc : (bodies : List (List ℕ)) (body : List ℕ) (r : ℕ) → highest_floor (bodies ++ body ∷ []) r ≡ max (highest_floor bodies r) (floor_in body r)
highest_snoc [] body r = omega arith
highest_snoc (b ∷ bodies) body r = omega (arith, highest_snoc bodies body r)

-- if one of three tests fails, the result is 0
closed : (a b c : Bool) (n : ℕ) → (a ≡ true → b ≡ true → c ≡ true → ⊥) → (if a && b && c then n else 0) ≡ 0
closed true true true n fails = absurd (fails refl refl refl)
closed true true false n fails = refl
closed true false c n fails = refl
closed false b c n fails = refl

-- if three tests hold, the result is the number
open_all : (a b c : Bool) (n : ℕ) → a ≡ true → b ≡ true → c ≡ true → (if a && b && c then n else 0) ≡ n
open_all true true true n one two three = refl
open_all true true false n one two three = absurd (cc)
open_all true false c n one two three = absurd (cc)
open_all false b c n one two three = absurd (cc)

-- a record that doesn't trim this rendition has floor 0 for it
pub no_floor : (body : List ℕ) (r : ℕ) → (length body ≡ 12 → kind_in body ≡ 5 → rendition_in body ≡ r → ⊥) → floor_in body r ≡ 0
no_floor body r fails =
    closed (length body == 12) (kind_in body == 5) (rendition_in body == r) (number_in body)
    (λ one two three. fails (eqb-true (length body) 12 one) (eqb-true (kind_in body) 5 two) (eqb-true (rendition_in body) r three))

-- a record that isn't a trim raises no floor
pub not_raised : (floors body : List ℕ) → (length body ≡ 12 → kind_in body ≡ 5 → ⊥) → (r : ℕ) → get_or floors r 0 ≡ max (get_or floors r 0) (floor_in body r)
not_raised floors body fails r = omega (arith, no_floor body r (λ one two three. fails one two))

-- after the trim of a rendition, the floors are those before, raised by that record
pub raised : (floors new body : List ℕ) (floor : ℕ) → rendition_in body < length floors → length body ≡ 12 → kind_in body ≡ 5 → floor ≡ max (get_or floors (rendition_in body) 0) (number_in body)
    → new ≡ set floors (rendition_in body) floor → (r : ℕ) → get_or new r 0 ≡ max (get_or floors r 0) (floor_in body r)
raised floors new body floor within long kind floor_is is r =
    elim (cases_eq r (rendition_in body)) [
      | inl here ↦
          (let to : floor_in body r ≡ number_in body =
          open_all (length body == 12) (kind_in body == 5) (rendition_in body == r) (number_in body) (eq-eqb (length body) 12 long) (eq-eqb (kind_in body) 5 kind) (eq-eqb (rendition_in body) r (sym here)) in
          let at : get_or new r 0 ≡ floor = ap (λ xs. get_or xs r 0) is ∙ ap (λ k. get_or (set floors (rendition_in body) floor) k 0) here ∙ get_or-set_same floors (rendition_in body) floor 0 within in
          let from : get_or floors r 0 ≡ get_or floors (rendition_in body) 0 = ap (λ k. get_or floors k 0) here in
          omega (arith, to, at, from, floor_is))
      | inr there ↦
          (let to : floor_in body r ≡ 0 = no_floor body r (λ one two three. there (sym three)) in
          let at : get_or new r 0 ≡ get_or floors r 0 = ap (λ xs. get_or xs r 0) is ∙ get_or-set_other floors (rendition_in body) r floor 0 there in
          omega (arith, to, at))
    ]

-- the floors of 256 renditions are the highest of the first `count` records
pub record AreFloors (bodies : List (List ℕ)) (count : ℕ) (floors : List ℕ) : Type 0 where
  pub all : length floors ≡ 256
  pub highest : (r : ℕ) → get_or floors r 0 ≡ highest_floor (take count bodies) r

-- at first all floors are 0
pub no_floors : (bodies : List (List ℕ)) (floors : List ℕ) → length floors ≡ 256 → ((r : ℕ) → r < 256 → get_or floors r 0 ≡ 0) → AreFloors bodies 0 floors
no_floors bodies floors all none =
    record {
      all = all;
      highest = λ r. elim (cases_lt r 256) [ inl below ↦ none r below | inr past ↦ get_or_past floors r 0 (omega (arith, past, all)) ];
    }

-- floors that are raised by the next record are the highest of one record more
pub more_floors : (bodies : List (List ℕ)) (index : ℕ) (body : List ℕ) (floors new : List ℕ) → index < length bodies → body ≡ get_or bodies index body → length new ≡ 256
    → ((r : ℕ) → get_or new r 0 ≡ max (get_or floors r 0) (floor_in body r)) → AreFloors bodies index floors → AreFloors bodies (index + 1) new
more_floors bodies index body floors new within at all raises so_far =
    let front : take (index + 1) bodies ≡ take index bodies ++ body ∷ [] = take_more bodies index body within ∙ ap (λ b. take index bodies ++ b ∷ []) (sym at) in
    record {
      all = all;
      highest = λ r. omega (arith, raises r, so_far.highest r, ap (λ bs. highest_floor bs r) front, highest_snoc (take index bodies) body r);
    }

-- when a changed slice of a whole list is written back, the list is the changed slice
pub written_back : (new old : List ℕ) (len : ℕ) → len ≡ 256 → length new ≡ 256 → take len (new ++ drop (length new) old) ≡ new
written_back new old len len_is new_len = ap (λ n. take n (new ++ drop (length new) old)) (len_is ∙ sym new_len) ∙ take-append_seam new (drop (length new) old)
