-- Numbers and headers of a text don't change when bytes follow it.
use Rattle.std.proofs.Common.{◌≡◌, ℕ, zero, suc, ◌+◌, ◌-◌, ◌<◌, ◌≤◌, ◌==◌, true, false, Some, None, List, ◌++◌, length, drop, sym, ◌∙◌, ap, inl, inr, arith, refl}
use Rattle.std.specs.Int.{Width, w32, w64, byte_len, byte_worth, sum_through}
use Rattle.std.proofs.lemmas.List.{drop-append-le, get_or_append_left, length-append, length-drop}
use Rattle.std.proofs.lemmas.Bool.{cases_lt, cases_Bool, lt-ltb, le-ltb}
use Rattle.hls_boxes.specs.declared.box_header.BoxHeader.{BoxHeader}
use Rattle.hls_boxes.specs.Boxes.{number_at, header_at, short_header, long_header}

-- sums of equal terms are equal
sum_through-same : (f g : ℕ → ℕ) (n : ℕ) → ((i : ℕ) → i ≤ n → f i ≡ g i) → sum_through f n ≡ sum_through g n
sum_through-same f g zero same = same zero (omega arith)
sum_through-same f g (suc n) same =
    let front : sum_through f n ≡ sum_through g n = sum_through-same f g n (λ i le. same i (omega arith)) in
    let last : f (suc n) ≡ g (suc n) = same (suc n) (omega arith) in
    cc

-- a number within a text doesn't change when bytes follow the text
pub number_at-append : (w : Width) (at : ℕ) (xs ys : List ℕ) → 0 < byte_len w → at + byte_len w ≤ length xs → number_at w at (xs ++ ys) ≡ number_at w at xs
unfolding number_at
number_at-append w at xs ys wide long =
    let fits : at ≤ length xs = omega arith in
    rw (drop-append-le at xs ys fits) (sum_through-same _ _ (byte_len w - 1) (λ i le.
    let low : i < length (drop at xs) = omega (arith, length-drop at xs) in
    ap (byte_worth (byte_len w - 1 - i)) (get_or_append_left (drop at xs) ys 0 i low)))

-- a short header doesn't change when bytes follow it
short_header-append : (xs ys : List ℕ) → 8 ≤ length xs → short_header (xs ++ ys) ≡ short_header xs
short_header-append xs ys long =
    let kind : number_at w32 4 (xs ++ ys) ≡ number_at w32 4 xs = number_at-append w32 4 xs ys (omega arith) (omega arith) in
    let size : number_at w32 0 (xs ++ ys) ≡ number_at w32 0 xs = number_at-append w32 0 xs ys (omega arith) (omega arith) in
    rw (kind, size) refl

-- a long header doesn't change when bytes follow it
long_header-append : (xs ys : List ℕ) → 16 ≤ length xs → long_header (xs ++ ys) ≡ long_header xs
long_header-append xs ys long =
    let kind : number_at w32 4 (xs ++ ys) ≡ number_at w32 4 xs = number_at-append w32 4 xs ys (omega arith) (omega arith) in
    let size : number_at w64 8 (xs ++ ys) ≡ number_at w64 8 xs = number_at-append w64 8 xs ys (omega arith) (omega arith) in
    rw (kind, size) refl

-- the header at the start of a text: short or long, and complete
pub data Read (xs : List ℕ) (h : BoxHeader) : Type 0 where
  Short : 8 ≤ length xs → (number_at w32 0 xs == 1) ≡ false → short_header xs ≡ h → Read xs h
  Long : 16 ≤ length xs → (number_at w32 0 xs == 1) ≡ true → long_header xs ≡ h → Read xs h

-- the header at the start of a text is a short or a long one, and complete
pub header_at-read : (xs : List ℕ) (h : BoxHeader) → header_at xs ≡ Some h → Read xs h
unfolding header_at
header_at-read xs h is =
    elim (cases_lt (length xs) 8) [
      | inl short ↦
          let none : None ≡ Some h = rw (lt-ltb (length xs) 8 short) at is in
          cc
      | inr long ↦ elim (cases_Bool (number_at w32 0 xs == 1)) [
        | inl one ↦ elim (cases_lt (length xs) 16) [
          | inl short ↦
              let none : None ≡ Some h = rw (le-ltb (length xs) 8 long, one, lt-ltb (length xs) 16 short) at is in
              cc
          | inr longer ↦
              let some : Some (long_header xs) ≡ Some h = rw (le-ltb (length xs) 8 long, one, le-ltb (length xs) 16 longer) at is in
              Long longer one (cc)
        ]
        | inr other ↦
            let some : Some (short_header xs) ≡ Some h = rw (le-ltb (length xs) 8 long, other) at is in
            Short long other (cc)
      ]
    ]

-- a complete short or long header at the start of a text is the text's header
pub read-header_at : (xs : List ℕ) (h : BoxHeader) → Read xs h → header_at xs ≡ Some h
unfolding header_at
read-header_at xs h (Short long other is) =
    rw (le-ltb (length xs) 8 long, other) (ap Some is)
read-header_at xs h (Long longer one is) =
    let long : 8 ≤ length xs = omega arith in
    rw (le-ltb (length xs) 8 long, one, le-ltb (length xs) 16 longer) (ap Some is)

-- a header doesn't change when bytes follow
pub header_at-append : (xs ys : List ℕ) (h : BoxHeader) → header_at xs ≡ Some h → header_at (xs ++ ys) ≡ Some h
header_at-append xs ys h is = read-header_at (xs ++ ys) h (elim (header_at-read xs h is) [
  | Short long other same ↦
      let number : number_at w32 0 (xs ++ ys) ≡ number_at w32 0 xs = number_at-append w32 0 xs ys (omega arith) (omega arith) in
      Short (omega (arith, length-append xs ys)) (rw number other) (short_header-append xs ys long ∙ same)
  | Long longer one same ↦
      let number : number_at w32 0 (xs ++ ys) ≡ number_at w32 0 xs = number_at-append w32 0 xs ys (omega arith) (omega arith) in
      Long (omega (arith, length-append xs ys)) (rw number one) (long_header-append xs ys longer ∙ same)
])

-- a header at the start of a text is also that of each prefix that contains it
pub header_at-front : (xs ys : List ℕ) (h : BoxHeader) → header_at (xs ++ ys) ≡ Some h → h.head ≤ length xs → header_at xs ≡ Some h
header_at-front xs ys h is in_front = read-header_at xs h (elim (header_at-read (xs ++ ys) h is) [
  | Short long other same ↦
      let head : 8 ≡ h.head = ap (λ (k : BoxHeader). k.head) same in
      let long' : 8 ≤ length xs = omega arith in
      let number : number_at w32 0 (xs ++ ys) ≡ number_at w32 0 xs = number_at-append w32 0 xs ys (omega arith) (omega arith) in
      Short long' (rw (← number) other) (sym (short_header-append xs ys long') ∙ same)
  | Long longer one same ↦
      let head : 16 ≡ h.head = ap (λ (k : BoxHeader). k.head) same in
      let long' : 16 ≤ length xs = omega arith in
      let number : number_at w32 0 (xs ++ ys) ≡ number_at w32 0 xs = number_at-append w32 0 xs ys (omega arith) (omega arith) in
      Long long' (rw (← number) one) (sym (long_header-append xs ys long') ∙ same)
])

-- a header is within its text, and has at least 8 bytes
pub header_at-within : (xs : List ℕ) (h : BoxHeader) → header_at xs ≡ Some h → (8 ≤ h.head) × (h.head ≤ length xs)
header_at-within xs h is = elim (header_at-read xs h is) [
  | Short long other same ↦
      let head : 8 ≡ h.head = ap (λ (k : BoxHeader). k.head) same in
      (omega arith, omega arith)
  | Long longer one same ↦
      let head : 16 ≡ h.head = ap (λ (k : BoxHeader). k.head) same in
      (omega arith, omega arith)
]

-- a complete box: the text is exactly the header's box
pub record IsBox (h : BoxHeader) (box : List ℕ) : Type 0 where
  pub header : header_at box ≡ Some h
  pub whole : length box ≡ h.size
