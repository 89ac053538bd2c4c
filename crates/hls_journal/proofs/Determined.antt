-- The configuration that bytes determine.
use Rattle.std.proofs.Common.{◌≡◌, ◌∙◌, ℕ, zero, suc, ◌-◌, ◌<◌, ◌≤◌, ◌^◌, Bool, true, false, Option, Some, None, List, [], ◌∷◌, ◌++◌, length, take, drop, refl, sym, ap, arith, append_assoc, length-append}
use Rattle.std.proofs.lemmas.Int.{ints}
use Rattle.std.specs.Prelude.{ℤ, pos, negsuc, All, IsTrue, replicate, unsigned_abs, slice_get}
use Rattle.std.specs.List.{flat_map}
use Rattle.std.specs.Int.{from_bool}
use Rattle.std.proofs.lemmas.List.{take_at, drop_at, length-replicate}
use Rattle.byteorder.specs.Endian.{little_bytes, little_number}
use Rattle.byteorder.specs.Numbers.{little_number-reads_back, length-bytes_low_first}
use Rattle.hls_core_laws.specs.declared.rendition.Rendition.{Rendition}
use Rattle.hls_core_laws.specs.Config.{ConfigData, IsEpoch, IsRendition, is_name_byte, without_base}
use Rattle.hls_journal.specs.Channels.{config_bytes, epoch_bytes, name_bytes, rendition_bytes}
use Rattle.hls_journal.specs.Laws.{BytesDetermineConfigurations}

-- parts of the same length at the front of equal texts are equal
same_front : (a b x y : List ℕ) (n : ℕ) → length a ≡ n → length b ≡ n → a ++ x ≡ b ++ y → a ≡ b
same_front a b x y n la lb same = sym (take_at a x n la) ∙ ap (λ t. take n t) same ∙ take_at b y n lb

-- after parts of the same length, the rests of equal texts are equal
same_rest : (a b x y : List ℕ) (n : ℕ) → length a ≡ n → length b ≡ n → a ++ x ≡ b ++ y → x ≡ y
same_rest a b x y n la lb same = sym (drop_at a x n la) ∙ ap (λ t. drop n t) same ∙ drop_at b y n lb

eight : (n : ℕ) → length (little_bytes 8 n) ≡ 8
eight n = length-bytes_low_first 0 8 n

-- a number below 2^64 is determined by its eight bytes, whatever follows them
same_number : (n m : ℕ) (x y : List ℕ) → n < 2 ^ 64 → m < 2 ^ 64 → little_bytes 8 n ++ x ≡ little_bytes 8 m ++ y → n ≡ m
same_number n m x y small few same =
    sym (little_number-reads_back 8 n x (omega (arith, small))) ∙ ap (λ t. little_number 8 t) same ∙ little_number-reads_back 8 m y (omega (arith, few))

-- what follows the eight bytes of a number is determined, too
number_rest : (n m : ℕ) (x y : List ℕ) → little_bytes 8 n ++ x ≡ little_bytes 8 m ++ y → x ≡ y
number_rest n m x y same = same_rest (little_bytes 8 n) (little_bytes 8 m) x y 8 (eight n) (eight m) same

-- texts that are equal begin with the same byte
same_head : (a b : ℕ) (x y : List ℕ) → a ∷ x ≡ b ∷ y → a ≡ b
same_head a b x y same = cc

-- texts that are equal are equal after their first byte
same_tail : (a b : ℕ) (x y : List ℕ) → a ∷ x ≡ b ∷ y → x ≡ y
same_tail a b x y same = ap (λ t. drop 1 t) same

-- a flag is determined by its byte
same_flag : (a b : Bool) → from_bool a ≡ from_bool b → a ≡ b
same_flag true true same = refl
same_flag true false same = absurd (omega (arith, same))
same_flag false true same = absurd (omega (arith, same))
same_flag false false same = refl

-- a byte of a name is above 0
no_zero : (b : ℕ) → IsTrue (is_name_byte b) → 0 < b
no_zero zero named = let no : false ≡ true = named in absurd cc
no_zero (suc b) named = omega arith

-- a text of zeros doesn't begin with a byte above 0
zeros_alike : (n m : ℕ) (b : ℕ) (bs : List ℕ) → 0 < b → replicate n 0 ≡ b ∷ bs ++ replicate m 0 → ⊥
zeros_alike zero m b bs some same = absurd cc
zeros_alike (suc n) m b bs some same = omega (arith, some, same_head 0 b (replicate n 0) (bs ++ replicate m 0) same)

-- a name is determined by its bytes and the zeros that fill it up
same_name : (a b : List ℕ) (n m : ℕ) → All (λ x. IsTrue (is_name_byte x)) a → All (λ x. IsTrue (is_name_byte x)) b → a ++ replicate n 0 ≡ b ++ replicate m 0 → a ≡ b
same_name [] [] n m named other same = refl
same_name [] (b ∷ bs) n m named other same = absurd (zeros_alike n m b bs (no_zero b (other 0 0 (omega arith))) same)
same_name (x ∷ xs) [] n m named other same = absurd (zeros_alike m n x xs (no_zero x (named 0 0 (omega arith))) (sym same))
same_name (x ∷ xs) (b ∷ bs) n m named other same =
    let heads : x ≡ b = same_head x b (xs ++ replicate n 0) (bs ++ replicate m 0) same in
    let tails : xs ≡ bs =
    same_name xs bs n m (λ k d lt. named (suc k) d (omega (arith, lt))) (λ k d lt. other (suc k) d (omega (arith, lt))) (same_tail x b (xs ++ replicate n 0) (bs ++ replicate m 0) same) in
    ap (λ y. y ∷ xs) heads ∙ ap (λ ys. b ∷ ys) tails

-- a name of at most 32 bytes is filled up to 32
name_len : (name : List ℕ) → length name ≤ 32 → length (name_bytes name) ≡ 32
name_len name short = omega (arith, short, length-append name (replicate (32 - length name) 0), length-replicate {A = ℕ} (32 - length name) 0)

-- the bytes of a rendition and what follows are its name, its flag, its two numbers, and what follows
rendition_parts : (r : Rendition) (more : List ℕ) → rendition_bytes r ++ more ≡ name_bytes r.name ++ (from_bool r.video ∷ (little_bytes 8 r.bandwidth ++ (little_bytes 8 r.tolerance ++ more)))
rendition_parts r more =
    append_assoc (name_bytes r.name ++ (from_bool r.video ∷ []) ++ little_bytes 8 r.bandwidth) (little_bytes 8 r.tolerance) more
    ∙ append_assoc (name_bytes r.name ++ (from_bool r.video ∷ [])) (little_bytes 8 r.bandwidth) (little_bytes 8 r.tolerance ++ more)
    ∙ append_assoc (name_bytes r.name) (from_bool r.video ∷ []) (little_bytes 8 r.bandwidth ++ (little_bytes 8 r.tolerance ++ more))

-- two renditions are equal, and so are the texts that follow their bytes
record SameRendition (r s : Rendition) (x y : List ℕ) : Type 0 where
  is : r ≡ s
  rest : x ≡ y

-- a rendition is determined by its bytes, whatever follows them, and so is what follows
same_rendition : (r s : Rendition) (x y : List ℕ) → IsRendition r → IsRendition s → rendition_bytes r ++ x ≡ rendition_bytes s ++ y → SameRendition r s x y
same_rendition r s x y one other same =
    let whole : name_bytes r.name ++ (from_bool r.video ∷ (little_bytes 8 r.bandwidth ++ (little_bytes 8 r.tolerance ++ x))) ≡ name_bytes s.name ++ (from_bool s.video ∷ (little_bytes 8 s.bandwidth ++ (little_bytes 8 s.tolerance ++ y))) =
    sym (rendition_parts r x) ∙ same ∙ rendition_parts s y in
    let lr = name_len r.name one.name.short in
    let ls = name_len s.name other.name.short in
    let fr = from_bool r.video ∷ (little_bytes 8 r.bandwidth ++ (little_bytes 8 r.tolerance ++ x)) in
    let fs = from_bool s.video ∷ (little_bytes 8 s.bandwidth ++ (little_bytes 8 s.tolerance ++ y)) in
    let names : name_bytes r.name ≡ name_bytes s.name = same_front (name_bytes r.name) (name_bytes s.name) fr fs 32 lr ls whole in
    let name_is : r.name ≡ s.name = same_name r.name s.name (32 - length r.name) (32 - length s.name) one.name.spelled other.name.spelled names in
    let flags : fr ≡ fs = same_rest (name_bytes r.name) (name_bytes s.name) fr fs 32 lr ls whole in
    let nr = little_bytes 8 r.bandwidth ++ (little_bytes 8 r.tolerance ++ x) in
    let ns = little_bytes 8 s.bandwidth ++ (little_bytes 8 s.tolerance ++ y) in
    let video_is : r.video ≡ s.video = same_flag r.video s.video (same_head (from_bool r.video) (from_bool s.video) nr ns flags) in
    let numbers : nr ≡ ns = same_tail (from_bool r.video) (from_bool s.video) nr ns flags in
    let bandwidth_is : r.bandwidth ≡ s.bandwidth =
    same_number r.bandwidth s.bandwidth (little_bytes 8 r.tolerance ++ x) (little_bytes 8 s.tolerance ++ y) (omega (arith, one.bandwidth)) (omega (arith, other.bandwidth)) numbers in
    let last : little_bytes 8 r.tolerance ++ x ≡ little_bytes 8 s.tolerance ++ y = number_rest r.bandwidth s.bandwidth (little_bytes 8 r.tolerance ++ x) (little_bytes 8 s.tolerance ++ y) numbers in
    let tolerance_is : r.tolerance ≡ s.tolerance = same_number r.tolerance s.tolerance x y (omega (arith, one.tolerance)) (omega (arith, other.tolerance)) last in
    record {
      is = λ k. record { name = name_is k; video = video_is k; bandwidth = bandwidth_is k; tolerance = tolerance_is k };
      rest = number_rest r.tolerance s.tolerance x y last;
    }

-- a rendition has at least one byte
some_bytes : (r : Rendition) (more : List ℕ) → length (rendition_bytes r ++ more) ≡ 0 → ⊥
some_bytes r more none =
    omega (
      arith,
      none,
      ap length (rendition_parts r more),
      length-append (name_bytes r.name) (from_bool r.video ∷ (little_bytes 8 r.bandwidth ++ (little_bytes 8 r.tolerance ++ more))),
    )

-- all renditions are determined by their bytes
same_renditions : (rs ss : List Rendition) → ((n : ℕ) (r : Rendition) → slice_get rs n ≡ Some r → IsRendition r) → ((n : ℕ) (r : Rendition) → slice_get ss n ≡ Some r → IsRendition r) → flat_map rendition_bytes rs ≡ flat_map rendition_bytes ss → rs ≡ ss
same_renditions [] [] one other same = refl
same_renditions [] (s ∷ ss) one other same = absurd (some_bytes s (flat_map rendition_bytes ss) (sym (ap length same)))
same_renditions (r ∷ rs) [] one other same = absurd (some_bytes r (flat_map rendition_bytes rs) (ap length same))
same_renditions (r ∷ rs) (s ∷ ss) one other same =
    let first = same_rendition r s (flat_map rendition_bytes rs) (flat_map rendition_bytes ss) (one 0 r refl) (other 0 s refl) same in
    ap (λ x. x ∷ rs) first.is ∙ ap (λ xs. s ∷ xs) (same_renditions rs ss (λ n x at. one (suc n) x at) (λ n x at. other (suc n) x at) first.rest)

-- an epoch's microseconds are below 2^64
epoch_small : (us : ℤ) → IsEpoch (Some us) → unsigned_abs us < 2 ^ 64
epoch_small (pos n) is = omega (arith, ints, is.1)
epoch_small (negsuc n) is = absurd (omega (arith, ints, is.0))

-- two epochs with the same number of microseconds are equal, as neither is negative
same_epochs : (us them : ℤ) → IsEpoch (Some us) → IsEpoch (Some them) → unsigned_abs us ≡ unsigned_abs them → us ≡ them
same_epochs (pos n) (pos m) one other same = ap pos same
same_epochs (pos n) (negsuc m) one other same = absurd (omega (arith, ints, other.0))
same_epochs (negsuc n) them one other same = absurd (omega (arith, ints, one.0))

-- an epoch, or its absence, is determined by its bytes, whatever follows them
same_epoch : (a b : Option ℤ) (x y : List ℕ) → IsEpoch a → IsEpoch b → epoch_bytes a ++ x ≡ epoch_bytes b ++ y → a ≡ b
same_epoch None None x y one other same = refl
same_epoch None (Some us) x y one other same = absurd (omega (arith, same_head 0 1 (little_bytes 8 0 ++ x) (little_bytes 8 (unsigned_abs us) ++ y) same))
same_epoch (Some us) None x y one other same = absurd (omega (arith, same_head 1 0 (little_bytes 8 (unsigned_abs us) ++ x) (little_bytes 8 0 ++ y) same))
same_epoch (Some us) (Some them) x y one other same =
    let rest : little_bytes 8 (unsigned_abs us) ++ x ≡ little_bytes 8 (unsigned_abs them) ++ y = same_tail 1 1 (little_bytes 8 (unsigned_abs us) ++ x) (little_bytes 8 (unsigned_abs them) ++ y) same in
    ap Some (same_epochs us them one other (same_number (unsigned_abs us) (unsigned_abs them) x y (epoch_small us one) (epoch_small them other) rest))

-- an epoch has nine bytes
pub epoch_len : (a : Option ℤ) → length (epoch_bytes a) ≡ 9
epoch_len None = refl
epoch_len (Some us) = omega (arith, eight (unsigned_abs us))

-- the bytes of a configuration are those of its target, its preferred length, its epoch, and its renditions
config_parts : (c : ConfigData) → config_bytes c ≡ little_bytes 8 c.target ++ (little_bytes 8 c.preferred ++ (epoch_bytes c.epoch ++ flat_map rendition_bytes c.renditions))
config_parts c =
    append_assoc (little_bytes 8 c.target ++ little_bytes 8 c.preferred) (epoch_bytes c.epoch) (flat_map rendition_bytes c.renditions)
    ∙ append_assoc (little_bytes 8 c.target) (little_bytes 8 c.preferred) (epoch_bytes c.epoch ++ flat_map rendition_bytes c.renditions)

-- a configuration has at least the 25 bytes of its fields before the renditions
pub config_len : (c : ConfigData) → 25 ≤ length (config_bytes c)
config_len c =
    omega (
      arith,
      ap length (config_parts c),
      length-append (little_bytes 8 c.target) (little_bytes 8 c.preferred ++ (epoch_bytes c.epoch ++ flat_map rendition_bytes c.renditions)),
      length-append (little_bytes 8 c.preferred) (epoch_bytes c.epoch ++ flat_map rendition_bytes c.renditions),
      length-append (epoch_bytes c.epoch) (flat_map rendition_bytes c.renditions),
      eight c.target,
      eight c.preferred,
      epoch_len c.epoch,
    )

-- configurations with the same bytes are the same, but for their bases
pub bytes-determine-configurations : BytesDetermineConfigurations
bytes-determine-configurations c d one other same =
    let whole : little_bytes 8 c.target ++ (little_bytes 8 c.preferred ++ (epoch_bytes c.epoch ++ flat_map rendition_bytes c.renditions)) ≡ little_bytes 8 d.target ++ (little_bytes 8 d.preferred ++ (epoch_bytes d.epoch ++ flat_map rendition_bytes d.renditions)) =
    sym (config_parts c) ∙ same ∙ config_parts d in
    let cp = little_bytes 8 c.preferred ++ (epoch_bytes c.epoch ++ flat_map rendition_bytes c.renditions) in
    let dp = little_bytes 8 d.preferred ++ (epoch_bytes d.epoch ++ flat_map rendition_bytes d.renditions) in
    let target_is : c.target ≡ d.target = same_number c.target d.target cp dp (omega (arith, one.target.1)) (omega (arith, other.target.1)) whole in
    let second : cp ≡ dp = number_rest c.target d.target cp dp whole in
    let ce = epoch_bytes c.epoch ++ flat_map rendition_bytes c.renditions in
    let de = epoch_bytes d.epoch ++ flat_map rendition_bytes d.renditions in
    let preferred_is : c.preferred ≡ d.preferred =
    same_number c.preferred d.preferred ce de (omega (arith, one.preferred.1, one.target.1)) (omega (arith, other.preferred.1, other.target.1)) second in
    let third : ce ≡ de = number_rest c.preferred d.preferred ce de second in
    let epoch_is : c.epoch ≡ d.epoch = same_epoch c.epoch d.epoch (flat_map rendition_bytes c.renditions) (flat_map rendition_bytes d.renditions) one.epoch other.epoch third in
    let rest : flat_map rendition_bytes c.renditions ≡ flat_map rendition_bytes d.renditions =
    same_rest (epoch_bytes c.epoch) (epoch_bytes d.epoch) (flat_map rendition_bytes c.renditions) (flat_map rendition_bytes d.renditions) 9 (epoch_len c.epoch) (epoch_len d.epoch) third in
    let renditions_are : c.renditions ≡ d.renditions =
    same_renditions c.renditions d.renditions (λ n r at. (one.renditions.each n r at).own) (λ n r at. (other.renditions.each n r at).own) rest in
    λ k. without_base (record { target = target_is k; preferred = preferred_is k; renditions = renditions_are k; epoch = epoch_is k; base = c.base })
