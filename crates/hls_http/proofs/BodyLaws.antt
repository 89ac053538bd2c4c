-- Bodies by steps of the machine and by the grammar agree.
use Rattle.std.proofs.Common.{◌≡◌, ◌∙◌, ℕ, zero, suc, ◌+◌, ◌<◌, ◌≤◌, inl, inr, List, [], ◌∷◌, ◌++◌, length, refl, sym, ap, subst, append_assoc, append-nil, arith, length-append}
use Rattle.std.{specs.List.flat_map, proofs.lemmas.List.nil_from_length}
use Rattle.httparse.specs.Grammar.{ChunkLine, Field, LineEnd, crlf, lf, print_chunk_line, print_field, print_section, chunk_size}
use Rattle.httparse.proofs.{GrammarLemmas.section_unique, ChunkLemmas.chunk_line_unique}
use Rattle.hls_http.specs.Bodies.{ReadsLine, ReadsTrailers, framing_after_size, Steps, StepsThrough, NoStep, StepThen, IsBroken, IsOpen}
use Rattle.hls_http.specs.declared.framing.BodyFraming.{BodyFraming, TheVariants.{Length, Size, Data, Trailers}}
use Rattle.hls_http.specs.Laws.{BodiesMatchGrammar, BodiesAreUnique}
use Rattle.hls_http.specs.Grammar.{Chunk, chunk_bytes, print_chunk, IsLine, AreChunks, ReadsChunked, IsBody}

-- of two ways to cut a text, the longer front begins with the shorter
pub cut : (a b c d : List ℕ) → a ++ b ≡ c ++ d → length a ≤ length c → (m : List ℕ) × (c ≡ a ++ m) × (b ≡ m ++ d)
cut [] b c d e h = (c, refl, e)
cut (x ∷ a) b [] d e h = absurd (omega arith)
cut (x ∷ a) b (y ∷ c) d e h =
    let rest : a ++ b ≡ c ++ d = cc in
    let w = cut a b c d rest (omega arith) in
    (w.0, cc (w.1), w.2)

-- one step is a sequence of steps
pub run_one : (b next : BodyFraming) (input piece rest : List ℕ) → Steps b input piece next rest → StepsThrough b input piece next rest
run_one b next input piece rest s = subst (λ (t : List ℕ). StepsThrough b input t next rest) (append-nil piece) (StepThen piece s NoStep)

-- ---- what is taken is a body

-- five joined texts, regrouped: the first three, then the fourth, then the fifth
regroup : (a b c d e : List ℕ) → a ++ (b ++ (c ++ (d ++ e))) ≡ ((a ++ (b ++ c)) ++ d) ++ e
regroup a b c d e = simp append_assoc

-- a size line, and then the trailers or the rest of a chunked body, are a chunked body
line_body : (size : ℕ) (input rest content end : List ℕ) → ReadsLine input size rest → IsBody (framing_after_size size) rest content end → ReadsChunked input content end
line_body zero input rest content end l body = record {
  chunks = [];
  each = tt;
  last = l.line;
  last_line = record { good = l.reads.0; small = l.small };
  last_size = sym l.size_is;
  after = rest;
  whole = l.reads.1;
  trailers = body.1;
  content_is = body.0;
}
line_body (suc n) input rest content end l body = record {
  chunks = record { line = l.line; bytes = body.bytes } ∷ body.chunks.chunks;
  each = (record { line = record { good = l.reads.0; small = l.small }; some = omega (arith, body.count); size = body.count ∙ l.size_is }, body.chunks.each);
  last = body.chunks.last;
  last_line = body.chunks.last_line;
  last_size = body.chunks.last_size;
  after = body.chunks.after;
  whole = l.reads.1 ∙ ap (λ xs. print_chunk_line l.line ++ xs) (body.whole ∙ ap (λ xs. body.bytes ++ 13 ∷ 10 ∷ xs) body.chunks.whole)
      ∙ regroup (print_chunk_line l.line) body.bytes (13 ∷ 10 ∷ []) (flat_map print_chunk body.chunks.chunks) (print_chunk_line body.chunks.last ++ body.chunks.after);
  trailers = body.chunks.trailers;
  content_is = body.content_is ∙ ap (λ xs. body.bytes ++ xs) body.chunks.content_is;
}

-- a step before the rest of a body gives a body whose content begins with the step's piece
step_body : (b next : BodyFraming) (input piece rest content end : List ℕ) → Steps b input piece next rest → IsBody next rest content end → IsBody b input (piece ++ content) end
step_body (Length n) next input piece rest content end s body =
    let h = subst (λ (b : BodyFraming). IsBody b rest content end) s.2 body in
    (s.1.whole ∙ ap (λ xs. piece ++ xs) h.0 ∙ sym (append_assoc piece content end), omega (arith, length-append piece content, h.1, s.1.count))
step_body Size next input piece rest content end s body =
    let chunked = line_body s.0 input rest content end s.1 (subst (λ (b : BodyFraming). IsBody b rest content end) s.3 body) in
    subst (λ (p : List ℕ). ReadsChunked input (p ++ content) end) (sym s.2) chunked
step_body (Data n) next input piece rest content end (inl s) body =
    let r = subst (λ (b : BodyFraming). IsBody b rest content end) s.2 body in record {
      bytes = piece ++ r.bytes;
      more = r.more;
      middle = r.middle;
      count = omega (arith, length-append piece r.bytes, r.count, s.1.count);
      whole = s.1.whole ∙ ap (λ xs. piece ++ xs) r.whole ∙ sym (append_assoc piece r.bytes (13 ∷ 10 ∷ r.middle));
      chunks = r.chunks;
      content_is = ap (λ xs. piece ++ xs) r.content_is ∙ sym (append_assoc piece r.bytes r.more);
    }
step_body (Data n) next input piece rest content end (inr s) body = record {
  bytes = [];
  more = content;
  middle = rest;
  count = sym s.0;
  whole = s.1;
  chunks = subst (λ (b : BodyFraming). IsBody b rest content end) s.3 body;
  content_is = ap (λ xs. xs ++ content) s.2;
}
step_body Trailers next input piece rest content end s body =
    let h = subst (λ (b : BodyFraming). IsBody b rest content end) s.2 body in
    let empty = nil_from_length content h.1 in
    (ap (λ xs. xs ++ content) s.1 ∙ empty, subst (λ (xs : List ℕ). ReadsTrailers input xs) (h.0 ∙ ap (λ xs. xs ++ end) empty) s.0)

-- steps to the end of a body take a body of the grammar
pub body_taken : (b : BodyFraming) (input content rest : List ℕ) → StepsThrough b input content (Length 0) rest → IsBody b input content rest
body_taken b input content rest NoStep = (refl, refl)
body_taken b input content rest (StepThen {next = next} {middle = middle} {more = more} piece s r) =
    step_body b next input piece middle more rest s (body_taken next middle more rest r)

-- ---- a body can be taken in steps

-- a size above 0 announces this number of bytes of data
sized : (n : ℕ) → 0 < n → Data n ≡ framing_after_size n
sized zero h = absurd (omega arith)
sized (suc n) h = refl

-- a chunk's bytes and the CR LF after them can be taken before the steps of what follows
data_taken : (bytes middle more rest : List ℕ) → StepsThrough Size middle more (Length 0) rest → StepsThrough (Data (length bytes)) (bytes ++ 13 ∷ 10 ∷ middle) (bytes ++ more) (Length 0) rest
data_taken [] middle more rest r = StepThen [] (inr (refl, refl, refl, refl)) r
data_taken (x ∷ bytes) middle more rest r =
    StepThen (x ∷ bytes) (inl (0, record { whole = refl; some = omega arith; count = omega arith }, refl)) (StepThen [] (inr (refl, refl, refl, refl)) r)

-- chunks, the last chunk's size line and the trailers can be taken in steps to the body's end
chunks_taken : (chunks : List Chunk) (last : ChunkLine) (after rest : List ℕ) → AreChunks chunks → IsLine last → 0 ≡ chunk_size last → ReadsTrailers after rest
    → StepsThrough Size (flat_map print_chunk chunks ++ (print_chunk_line last ++ after)) (flat_map chunk_bytes chunks) (Length 0) rest
chunks_taken [] last after rest each good size trailers =
    let line : ReadsLine (print_chunk_line last ++ after) 0 after = record { line = last; reads = (good.good, refl); small = good.small; size_is = size } in
    StepThen [] (0, line, refl, refl) (StepThen [] (trailers, refl, refl) NoStep)
chunks_taken (chunk ∷ chunks) last after rest (is, each) good size trailers =
    let following : List ℕ = flat_map print_chunk chunks ++ (print_chunk_line last ++ after) in
    let split = sym (regroup (print_chunk_line chunk.line) chunk.bytes (13 ∷ 10 ∷ []) (flat_map print_chunk chunks) (print_chunk_line last ++ after)) in
    let line : ReadsLine (flat_map print_chunk (chunk ∷ chunks) ++ (print_chunk_line last ++ after)) (length chunk.bytes) (chunk.bytes ++ 13 ∷ 10 ∷ following) =
    record { line = chunk.line; reads = (is.line.good, split); small = is.line.small; size_is = is.size } in
    let others = chunks_taken chunks last after rest each good size trailers in
    StepThen [] (length chunk.bytes, line, refl, sized (length chunk.bytes) is.some) (data_taken chunk.bytes following (flat_map chunk_bytes chunks) rest others)

-- a chunked body can be taken in steps to its end
chunked_taken : (input content rest : List ℕ) → ReadsChunked input content rest → StepsThrough Size input content (Length 0) rest
chunked_taken input content rest h = rw (h.whole, h.content_is) (chunks_taken h.chunks h.last h.after rest h.each h.last_line (sym h.last_size) h.trailers)

-- a body by length can be taken in one step, or in none if it is empty
length_taken : (n : ℕ) (content rest : List ℕ) → length content ≡ n → StepsThrough (Length n) (content ++ rest) content (Length 0) rest
length_taken n [] rest count = subst (λ (m : ℕ). StepsThrough (Length m) rest [] (Length 0) rest) count NoStep
length_taken n (x ∷ content) rest count =
    run_one (Length n) (Length 0) (x ∷ content ++ rest) (x ∷ content) rest (0, record { whole = refl; some = omega arith; count = omega (arith, count) }, refl)

-- each body of the grammar can be taken in steps to its end
pub taken_body : (b : BodyFraming) (input content rest : List ℕ) → IsBody b input content rest → StepsThrough b input content (Length 0) rest
taken_body (Length n) input content rest h = rw h.0 (length_taken n content rest h.1)
taken_body Size input content rest h = chunked_taken input content rest h
taken_body (Data n) input content rest h = rw (h.whole, h.content_is, ← h.count) (data_taken h.bytes h.middle h.more rest (chunked_taken h.middle h.more rest h.chunks))
taken_body Trailers input content rest h = rw h.0 (run_one Trailers (Length 0) input [] rest (h.1, refl, refl))

-- the bodies that can be taken in steps to their end are exactly those of the grammar
pub body_by_steps : BodiesMatchGrammar
body_by_steps b input content rest = (body_taken b input content rest, taken_body b input content rest)

-- ---- a step of a text that begins with a body is a step of that body

-- a body's content begins with this piece, and the text after the piece begins with the rest of the body
pub record LeftOf (next : BodyFraming) (piece content middle rest : List ℕ) : Type 0 where
  pub more : List ℕ
  pub split : content ≡ piece ++ more
  pub body : IsBody next middle more rest

-- if a chunked body begins with a size line, the rest of the body follows that line
line_left : (next : BodyFraming) (input piece middle content rest : List ℕ) → Steps Size input piece next middle → StepsThrough Size input content (Length 0) rest → LeftOf next piece content middle rest
line_left next input piece middle content rest s (StepThen {next = first} {middle = following} {more = more} none t r) =
    let same = chunk_line_unique input s.1.line t.1.line middle following s.1.reads t.1.reads in
    let next_is : first ≡ next = t.3 ∙ ap framing_after_size (t.1.size_is ∙ ap chunk_size (sym same.0) ∙ sym s.1.size_is) ∙ sym s.3 in
    let body = subst (λ (b : BodyFraming). IsBody b following more rest) next_is (body_taken first following more rest r) in
    record { more = more; split = ap (λ xs. xs ++ more) (t.2 ∙ sym s.2); body = subst (λ (m : List ℕ). IsBody next m more rest) (sym same.1) body }

-- after a step of a text that begins with a body, the rest of that body follows
pub step_left : (b next : BodyFraming) (input piece middle content rest : List ℕ) → Steps b input piece next middle → IsBody b input content rest → LeftOf next piece content middle rest
step_left (Length n) next input piece middle content rest s h =
    let w = cut piece middle content rest (sym s.1.whole ∙ h.0) (omega (arith, s.1.count, h.1)) in
    let left : IsBody (Length s.0) middle w.0 rest = (w.2, omega (arith, s.1.count, h.1, ap length w.1, length-append piece w.0)) in
    record { more = w.0; split = w.1; body = subst (λ (b : BodyFraming). IsBody b middle w.0 rest) (sym s.2) left }
step_left Size next input piece middle content rest s h = line_left next input piece middle content rest s (chunked_taken input content rest h)
step_left (Data n) next input piece middle content rest (inl s) h =
    let w = cut piece middle h.bytes (13 ∷ 10 ∷ h.middle) (sym s.1.whole ∙ h.whole) (omega (arith, s.1.count, h.count)) in
    let left : IsBody (Data s.0) middle (w.0 ++ h.more) rest = record {
      bytes = w.0;
      more = h.more;
      middle = h.middle;
      count = omega (arith, s.1.count, h.count, ap length w.1, length-append piece w.0);
      whole = w.2;
      chunks = h.chunks;
      content_is = refl;
    } in
    record {
      more = w.0 ++ h.more;
      split = h.content_is ∙ ap (λ xs. xs ++ h.more) w.1 ∙ append_assoc piece w.0 h.more;
      body = subst (λ (b : BodyFraming). IsBody b middle (w.0 ++ h.more) rest) (sym s.2) left;
    }
step_left (Data n) next input piece middle content rest (inr s) h =
    let empty = nil_from_length h.bytes (h.count ∙ s.0) in
    let texts : 13 ∷ 10 ∷ middle ≡ 13 ∷ 10 ∷ h.middle = sym s.1 ∙ h.whole ∙ ap (λ xs. xs ++ 13 ∷ 10 ∷ h.middle) empty in
    let same : h.middle ≡ middle = cc in
    let chunks = subst (λ (xs : List ℕ). ReadsChunked xs h.more rest) same h.chunks in
    let split = h.content_is ∙ ap (λ xs. xs ++ h.more) (empty ∙ sym s.2) in
    record { more = h.more; split = split; body = subst (λ (b : BodyFraming). IsBody b middle h.more rest) (sym s.3) chunks }
step_left Trailers next input piece middle content rest s h =
    let same = section_unique input s.0.fields h.1.fields s.0.last h.1.last middle rest s.0.reads h.1.reads in
    let body : IsBody (Length 0) middle [] rest = (same.2, refl) in
    record { more = []; split = h.0 ∙ sym (ap (λ xs. xs ++ []) s.1); body = subst (λ (b : BodyFraming). IsBody b middle [] rest) (sym s.2) body }

-- after steps of a text that begins with a body, the rest of that body follows
pub run_left : (b last : BodyFraming) (input got middle content rest : List ℕ) → StepsThrough b input got last middle → IsBody b input content rest → LeftOf last got content middle rest
run_left b last input got middle content rest NoStep h = record { more = content; split = refl; body = h }
run_left b last input got middle content rest (StepThen {next = next} {middle = following} {more = more} piece s r) h =
    let one = step_left b next input piece following content rest s h in
    let all = run_left next last following more middle one.more rest r one.body in
    record { more = all.more; split = one.split ∙ ap (λ xs. piece ++ xs) all.split ∙ sym (append_assoc piece more all.more); body = all.body }

-- a text begins with at most one body
pub body_one : BodiesAreUnique
body_one b input content rest other after x y =
    let w = run_left b (Length 0) input content rest other after (taken_body b input content rest x) y in
    let none = nil_from_length w.more w.body.1 in
    (sym (w.split ∙ ap (λ xs. content ++ xs) none ∙ append-nil content), w.body.0 ∙ ap (λ xs. xs ++ after) none)

-- ---- where no step is possible there is no body

-- if no step is possible, a sequence of steps is empty
no_first : (b last : BodyFraming) (input content rest : List ℕ) → ((piece : List ℕ) (next : BodyFraming) (middle : List ℕ) → Steps b input piece next middle → ⊥)
    → StepsThrough b input content last rest → b ≡ last
no_first b last input content rest never NoStep = refl
no_first b last input content rest never (StepThen {next = next} {middle = middle} piece s r) = absurd (never piece next middle s)

-- a text that breaks the grammar begins with no body, whatever follows
pub broken_body : (b : BodyFraming) (held more content rest : List ℕ) → IsBroken b held → IsBody b (held ++ more) content rest → ⊥
broken_body (Length n) held more content rest broken h = broken
broken_body b held more content rest broken h =
    let over = no_first b (Length 0) (held ++ more) content rest (broken more) (taken_body b (held ++ more) content rest h) in cc over

-- a text that ends before a step begins with no body
pub open_body : (b : BodyFraming) (later content rest : List ℕ) → IsOpen b later → IsBody b later content rest → ⊥
open_body (Length n) later content rest s h = absurd (omega (arith, ap length h.0, s.0, h.1, ap length s.1, length-append content rest))
open_body Size later content rest s h =
    let over = no_first Size (Length 0) later content rest (λ piece next middle t. s.1 t.1.line middle t.1.reads) (chunked_taken later content rest h) in cc over
open_body (Data zero) later content rest (inl s) h = absurd (omega (arith, ap length h.whole, ap length s, length-append h.bytes (13 ∷ 10 ∷ h.middle)))
open_body (Data zero) later content rest (inr s) h = absurd (omega (arith, ap length h.whole, ap length s, length-append h.bytes (13 ∷ 10 ∷ h.middle)))
open_body (Data (suc n)) later content rest s h = absurd (omega (arith, ap length h.whole, ap length s, length-append h.bytes (13 ∷ 10 ∷ h.middle)))
open_body Trailers later content rest s h = s.1 h.1.fields h.1.last rest h.1.reads

-- ---- what a run leaves of a body

-- a printed size line isn't empty
pub some_line : (line : ChunkLine) → 0 < length (print_chunk_line line)
unfolding print_chunk_line
some_line line = omega (arith, length-append {A = ℕ})

-- printed trailers aren't empty
pub some_section : (fields : List Field) (last : LineEnd) → 0 < length (print_section fields last)
some_section fields crlf = omega (arith, length-append (flat_map print_field fields) (13 ∷ 10 ∷ []))
some_section fields lf = omega (arith, length-append (flat_map print_field fields) (10 ∷ []))

-- the framing isn't that of one or more bytes by length
abbrev IsOfChunks : BodyFraming → Type 0
IsOfChunks last = (n : ℕ) → last ≡ Length (suc n) → ⊥

-- after `taken` bytes of a body by length, the other bytes are left by length; a chunked body never leaves bytes by length
abbrev pub Leaves : BodyFraming → ℕ → BodyFraming → Type 0
Leaves (Length n) taken last = (left : ℕ) × (last ≡ Length left) × (taken + left ≡ n)
Leaves _ taken last = IsOfChunks last

-- if nothing is taken, the whole body is left
leaves_none : (b : BodyFraming) → Leaves b 0 b
leaves_none (Length n) = (n, refl, omega arith)
leaves_none Size = λ n is. cc
leaves_none (Data m) = λ n is. cc
leaves_none Trailers = λ n is. cc

-- after a chunk's size line, no bytes are left by length
behind_line : (size taken : ℕ) (last : BodyFraming) → Leaves (framing_after_size size) taken last → IsOfChunks last
behind_line zero taken last l = l
behind_line (suc n) taken last l = l

-- if the body after a step leaves something, the body before the step leaves the same, with the step's bytes counted as taken
step_leaves : (b next last : BodyFraming) (input piece rest : List ℕ) (taken : ℕ) → Steps b input piece next rest → Leaves next taken last → Leaves b (length piece + taken) last
step_leaves (Length n) next last input piece rest taken s l =
    let there = subst (λ (x : BodyFraming). Leaves x taken last) s.2 l in (there.0, there.1, omega (arith, s.1.count, there.2))
step_leaves Size next last input piece rest taken s l = behind_line s.0 taken last (subst (λ (x : BodyFraming). Leaves x taken last) s.3 l)
step_leaves (Data n) next last input piece rest taken (inl s) l = subst (λ (x : BodyFraming). Leaves x taken last) s.2 l
step_leaves (Data n) next last input piece rest taken (inr s) l = subst (λ (x : BodyFraming). Leaves x taken last) s.3 l
step_leaves Trailers next last input piece rest taken s l = λ n is.
    let there = subst (λ (x : BodyFraming). Leaves x taken last) s.2 l in
    let left : there.0 ≡ suc n = cc (there.1, is) in absurd (omega (arith, left, there.2))

-- what steps leave of a body fits the number of bytes that they took
pub runs_leave : (b last : BodyFraming) (input content rest : List ℕ) → StepsThrough b input content last rest → Leaves b (length content) last
runs_leave b last input content rest NoStep = leaves_none b
runs_leave b last input content rest (StepThen {next = next} {middle = middle} {more = more} piece s r) =
    subst (λ (n : ℕ). Leaves b n last) (sym (length-append piece more)) (step_leaves b next last input piece middle (length more) s (runs_leave next last middle more rest r))
