-- Where the next box ends, or its header, if that is incomplete.
use Rattle.std.proofs.Common.{◌≡◌, ℕ, ◌<◌, ◌≤◌, ◌==◌, Bool, Option, Some, None, List, ◌++◌, length, sym, ◌∙◌, ap, inl, inr, arith, refl, subst}
use Rattle.std.proofs.lemmas.List.{length-append}
use Rattle.std.proofs.lemmas.Bool.{cases_lt, cases_Bool, lt-ltb, le-ltb}
use Rattle.std.specs.Int.{w32}
use Rattle.hls_boxes.specs.declared.box_header.BoxHeader.{BoxHeader}
use Rattle.hls_boxes.specs.declared.fault.BoxFault.{BoxFault}
use Rattle.hls_boxes.specs.declared.box_effect.BoxEffect.{BoxEffect}
use Rattle.hls_boxes.specs.declared.box_effect.BoxEffect.TheVariants.{Incomplete, Ends}
use Rattle.hls_boxes.specs.Boxes.{number_at, header_at}
use Rattle.hls_boxes.specs.Parts.{fault_of, effect_of_box, effect_of_checked_box, effect_at}
use Rattle.hls_boxes.proofs.Callers.{Short, Long, header_at-append, header_at-front, header_at-read, header_at-within, Came, Waits, Fails, Passes, came, fault_of-fits, is_end}
use Rattle.hls_boxes.specs.Feed.{needed_len, EndsAt}

-- an incomplete header needs more bytes
none-wants : (xs : List ℕ) → header_at xs ≡ None → length xs < needed_len None (length xs)
unfolding header_at
none-wants xs none = elim (cases_lt (length xs) 8) [
  | inl short ↦ rw (lt-ltb (length xs) 8 short) short
  | inr long ↦ rw (le-ltb (length xs) 8 long) (elim (cases_lt (length xs) 16) [
    | inl shorter ↦ shorter
    | inr longer ↦ elim (cases_Bool (number_at w32 0 xs == 1)) [
      | inl one ↦ let no = rw (le-ltb (length xs) 8 long, one, le-ltb (length xs) 16 longer) at none in absurd (cc)
      | inr other ↦ let no = rw (le-ltb (length xs) 8 long, other) at none in absurd (cc)
    ]
  ])
]

-- a box with a complete header that is incomplete lacks bytes
waits-if : (h : BoxHeader) (len : ℕ) (has_moof : Bool) (fault : Option BoxFault) → effect_of_checked_box h len has_moof fault ≡ Incomplete → len < h.size
waits-if h len has_moof (Some fault) is = absurd (cc)
waits-if h len has_moof None is = elim (cases_lt len h.size) [
  | inl short ↦ short
  | inr long ↦
      let so : effect_of_box h has_moof ≡ Incomplete = rw (le-ltb len h.size long) at is in
      elim (cases_Bool (is_end h.kind)) [
        | inl ends ↦ let no : Ends h.kind h.size ≡ Incomplete = rw ends at so in absurd (cc)
        | inr joins ↦ let no = rw joins at so in absurd (cc)
      ]
]

-- a box that is incomplete lacks bytes, given its header, if that is complete
waits-by : (xs : List ℕ) (before : ℕ) (has_moof : Bool) (o : Option BoxHeader) → header_at xs ≡ o → effect_at xs before has_moof ≡ Incomplete → length xs < needed_len o (length xs)
unfolding effect_at
waits-by xs before has_moof None header is = none-wants xs header
waits-by xs before has_moof (Some h) header is = waits-if h (length xs) has_moof (fault_of h before has_moof) (rw header at is)

-- an incomplete box needs more bytes
pub waits-wants : (xs : List ℕ) (before : ℕ) (has_moof : Bool) → effect_at xs before has_moof ≡ Incomplete → length xs < needed_len (header_at xs) (length xs)
waits-wants xs before has_moof is = waits-by xs before has_moof (header_at xs) refl is

-- a text that grows no further than its first box needs isn't longer than the box
fits-by : (xs ys : List ℕ) (o : Option BoxHeader) (h : BoxHeader) → header_at xs ≡ o → header_at (xs ++ ys) ≡ Some h → h.head ≤ h.size
    → length (xs ++ ys) ≤ needed_len o (length xs) → length (xs ++ ys) ≤ h.size
fits-by xs ys (Some k) h front whole fits long =
    let same : k ≡ h = (let e : Some k ≡ Some h = sym (header_at-append xs ys k front) ∙ whole in cc) in
    subst (λ (j : BoxHeader). length (xs ++ ys) ≤ j.size) same long
fits-by xs ys None h front whole fits long =
    let within = header_at-within (xs ++ ys) h whole in
    elim (cases_lt (length xs) 8) [
      | inl short ↦
          let most : length (xs ++ ys) ≤ 8 = rw (lt-ltb (length xs) 8 short) at long in
          omega (arith, most, within.0, fits)
      | inr eight ↦
          let most : length (xs ++ ys) ≤ 16 = rw (le-ltb (length xs) 8 eight) at long in
          elim (cases_lt (length xs) h.head) [
            | inr inside ↦ let no : None ≡ Some h = sym front ∙ header_at-front xs ys h whole inside in absurd (cc)
            | inl past ↦ elim (header_at-read (xs ++ ys) h whole) [
              | Short len other same ↦
                  let head : 8 ≡ h.head = ap (λ (k : BoxHeader). k.head) same in
                  absurd (omega (arith, head, past, eight))
              | Long len one same ↦
                  let head : 16 ≡ h.head = ap (λ (k : BoxHeader). k.head) same in
                  omega (arith, head, most, fits)
            ]
          ]
    ]

-- a box that is as long as the bytes ends where they do
ends-passed : (h : BoxHeader) (len : ℕ) (has_moof : Bool) → h.size ≡ len → EndsAt len (effect_of_box h has_moof)
ends-passed h len has_moof is = elim (cases_Bool (is_end h.kind)) [
  | inl ends ↦ rw ends is
  | inr joins ↦ rw joins is
]

-- if a text grows no further than its first box needs, the box, if it is complete, ends where the text does, by cases of the box
at_box_end-by : (xs ys : List ℕ) (before : ℕ) (has_moof : Bool) (next : BoxEffect) → length (xs ++ ys) ≤ needed_len (header_at xs) (length xs) → Came (xs ++ ys) before has_moof next
    → EndsAt (length (xs ++ ys)) next
at_box_end-by xs ys before has_moof next long (Waits is) = subst (EndsAt (length (xs ++ ys))) is tt
at_box_end-by xs ys before has_moof next long (Fails h fault header bad is) = subst (EndsAt (length (xs ++ ys))) is tt
at_box_end-by xs ys before has_moof next long (Passes h box tail split one good is) =
    let whole : header_at (xs ++ ys) ≡ Some h = ap header_at split ∙ header_at-append box tail h one.header in
    let fits = fits-by xs ys (header_at xs) h refl whole (fault_of-fits h before has_moof good) long in
    let size : h.size ≡ length (xs ++ ys) = omega (arith, fits, one.whole, ap length split, length-append box tail) in
    subst (EndsAt (length (xs ++ ys))) is (ends-passed h (length (xs ++ ys)) has_moof size)

-- if a text grows no further than its first box needs, the box, if it is complete, ends where the text does
pub at_box_end : (xs ys : List ℕ) (before : ℕ) (has_moof : Bool) → length (xs ++ ys) ≤ needed_len (header_at xs) (length xs) → EndsAt (length (xs ++ ys)) (effect_at (xs ++ ys) before has_moof)
at_box_end xs ys before has_moof long = at_box_end-by xs ys before has_moof (effect_at (xs ++ ys) before has_moof) long (came (xs ++ ys) before has_moof)
