-- A stream read piece by piece.
use Rattle.std.proofs.Common.{◌≡◌, ◌∙◌, ℕ, ◌+◌, ◌-◌, ◌≤◌, ◌⊎◌, inl, inr, List, [], ◌++◌, length, take, Option, Some, None, Ok, Err, Vec, refl, sym, ap, append_assoc, append-nil, arith}
use Rattle.std.specs.Prelude.{min}
use Rattle.std.specs.Global.{Global}
use Rattle.std.specs.Io.KnownBytes.{Consumes, IsAtEnd, Keeps}
use Rattle.std.proofs.Math.Seq.{take-append-add, take-length}
use Rattle.std.proofs.lemmas.List.{take_all, take_min, take-append-le, length-take-le}
use Rattle.hls_commands.specs.declared.read_input.ReadFault.TheVariants as unread
use Rattle.hls_commands.specs.ReadInput.{Reads, kept_bytes, held_len}

-- ---- the bytes that are held

-- while all bytes read are held, as many of the next ones are held as there is room for
held_within : (most : ℕ) (taken piece : List ℕ) → length taken ≤ most → take most (taken ++ piece) ≡ taken ++ take (min (most - length taken) (length piece)) piece
held_within most taken piece within =
    let on : most ≡ length taken + (most - length taken) = omega arith in
    ap (λ n. take n (taken ++ piece)) on
    ∙ take-append-add taken piece (most - length taken)
    ∙ ap (λ xs. taken ++ xs) (sym (take_min (most - length taken) piece))

-- once there is no room, none of the next bytes is held
held_past : (most : ℕ) (taken piece : List ℕ) → most ≤ length taken → take most (taken ++ piece) ≡ take most taken ++ take (min (most - most) (length piece)) piece
held_past most taken piece past =
    let none : min (most - most) (length piece) ≡ 0 = omega arith in
    take-append-le most taken piece past
    ∙ sym (append-nil (take most taken))
    ∙ ap (λ n. take most taken ++ take n piece) (sym none)

-- of at most `most` bytes, as many of the next ones are held as there is room for
held_most : (most : ℕ) (taken piece : List ℕ) → (length taken ≤ most) ⊎ (most ≤ length taken) →
    take most (taken ++ piece) ≡ take most taken ++ take (min (most - length (take most taken)) (length piece)) piece
held_most most taken piece (inl within) =
    held_within most taken piece within
    ∙ ap (λ xs. xs ++ take (min (most - length xs) (length piece)) piece) (sym (take_all most taken within))
held_most most taken piece (inr past) =
    held_past most taken piece past
    ∙ ap (λ n. take most taken ++ take (min (most - n) (length piece)) piece) (sym (length-take-le most taken past))

within_or_past : (m n : ℕ) → (m ≤ n) ⊎ (n ≤ m)
within_or_past m n = grind arith

-- of more bytes that were read, as many are held as there is room for
held_more : (most : Option ℕ) (taken piece : List ℕ) →
    kept_bytes most (taken ++ piece) ≡ kept_bytes most taken ++ take (held_len most (length (kept_bytes most taken)) (length piece)) piece
held_more None taken piece = ap (λ xs. taken ++ xs) (sym (take-length piece))
held_more (Some most) taken piece = held_most most taken piece (within_or_past (length taken) most)

-- ---- what was read

-- some bytes of the stream were read, and these of them are held
pub record Reading (most : Option ℕ) (stream : List ℕ) (left : Option (List ℕ)) (bytes : List ℕ) : Type 0 where
  pub taken : List ℕ
  pub rest : List ℕ
  pub left_is : left ≡ Some rest
  pub split : stream ≡ taken ++ rest
  pub held : bytes ≡ kept_bytes most taken

-- of no bytes none is held
held_of_none : (most : Option ℕ) → [] ≡ kept_bytes most []
held_of_none None = refl
held_of_none (Some most) = sym (take_all most [] (omega arith))

-- before anything is read, nothing is held
pub reading_none : (most : Option ℕ) (stream bytes : List ℕ) (left : Option (List ℕ)) → left ≡ Some stream → bytes ≡ [] → Reading most stream left bytes
reading_none most stream bytes left is none = record { taken = []; rest = stream; left_is = is; split = refl; held = none ∙ held_of_none most }

-- a read that returned a piece of a known rest leaves a known rest
more_known : (most : Option ℕ) (stream rest taken bytes piece : List ℕ) (old new : Option (List ℕ)) → old ≡ Some rest → Consumes old new piece → stream ≡ taken ++ rest →
    bytes ≡ kept_bytes most (taken ++ piece) → Reading most stream new bytes
more_known most stream rest taken bytes piece None new is gave split held = cc
more_known most stream rest taken bytes piece (Some xs) None is gave split held = absurd gave
more_known most stream rest taken bytes piece (Some xs) (Some ys) is gave split held =
    let same : xs ≡ rest = cc in
    record {
      taken = taken ++ piece;
      rest = ys;
      left_is = refl;
      split = split ∙ ap (λ zs. taken ++ zs) (sym same ∙ gave) ∙ sym (append_assoc taken piece ys);
      held = held;
    }

-- a read that returned a piece, whose first n bytes there was room for, holds these after the bytes before
pub reading_more : (most : Option ℕ) (stream bytes piece : List ℕ) (n : ℕ) (old new : Option (List ℕ)) → Reading most stream old bytes → Consumes old new piece →
    n ≡ held_len most (length bytes) (length piece) → Reading most stream new (bytes ++ take n piece)
reading_more most stream bytes piece n old new h gave is =
    let here : bytes ++ take n piece ≡ kept_bytes most (h.taken ++ piece) =
    ap (λ k. bytes ++ take k piece) is ∙ ap (λ xs. xs ++ take (held_len most (length xs) (length piece)) piece) h.held ∙ sym (held_more most h.taken piece) in
    more_known most stream h.rest h.taken (bytes ++ take n piece) piece old new h.left_is gave h.split here

-- a failed read leaves a known rest as it was
kept_known : (xs : List ℕ) (old new : Option (List ℕ)) → old ≡ Some xs → Keeps old new → new ≡ Some xs
kept_known xs None new is keeps = cc
kept_known xs (Some ys) None is keeps = absurd keeps
kept_known xs (Some ys) (Some zs) is keeps = cc

-- a read of no bytes at the end of a known rest means that nothing is left
at_end : (xs : List ℕ) (old new : Option (List ℕ)) → old ≡ Some xs → Consumes old new [] → IsAtEnd new → (new ≡ Some []) × (xs ≡ [])
at_end xs None new is gave end = cc
at_end xs (Some ys) None is gave end = absurd gave
at_end xs (Some ys) (Some zs) is gave end = let same : xs ≡ ys = cc in (ap Some end, same ∙ gave ∙ end)

-- a failed read ends the reading with ReadFailed, and leaves the rest of the stream
pub reads_failed : (most : Option ℕ) (stream bytes : List ℕ) (old new : Option (List ℕ)) → Reading most stream old bytes → Keeps old new → Reads most stream new (Err unread.ReadFailed)
reads_failed most stream bytes old new h keeps = record { taken = h.taken; rest = h.rest; left_is = kept_known h.rest old new h.left_is keeps; split = h.split; yields = tt }

-- an allocation failure after a piece of a known rest was read ends the reading with Memory, and leaves a known rest
unkept_known : (most : Option ℕ) (stream rest taken piece : List ℕ) (old new : Option (List ℕ)) → old ≡ Some rest → Consumes old new piece → stream ≡ taken ++ rest →
    Reads most stream new (Err unread.Memory)
unkept_known most stream rest taken piece old new is gave split =
    let more = more_known most stream rest taken (kept_bytes most (taken ++ piece)) piece old new is gave split refl in
    record { taken = more.taken; rest = more.rest; left_is = more.left_is; split = more.split; yields = tt }

-- a piece that was read and couldn't be held ends the reading with Memory, and leaves the rest of the stream
pub reads_unkept : (most : Option ℕ) (stream bytes piece : List ℕ) (old new : Option (List ℕ)) → Reading most stream old bytes → Consumes old new piece →
    Reads most stream new (Err unread.Memory)
reads_unkept most stream bytes piece old new h gave = unkept_known most stream h.rest h.taken piece old new h.left_is gave h.split

-- an allocation failure before anything is read ends the reading with Memory
pub reads_none : (most : Option ℕ) (stream : List ℕ) (left : Option (List ℕ)) → left ≡ Some stream → Reads most stream left (Err unread.Memory)
reads_none most stream left is = record { taken = []; rest = stream; left_is = is; split = refl; yields = tt }

-- at the end of the stream the text was read completely
pub reads_whole : (most : Option ℕ) (stream : List ℕ) (bytes : Vec ℕ Global) (old new : Option (List ℕ)) → Reading most stream old bytes.items → Consumes old new [] →
    IsAtEnd new → Reads most stream new (Ok bytes)
reads_whole most stream bytes old new h gave end =
    let left = at_end h.rest old new h.left_is gave end in
    record { taken = h.taken; rest = []; left_is = left.0; split = h.split ∙ ap (λ xs. h.taken ++ xs) left.1; yields = (refl, h.held) }
