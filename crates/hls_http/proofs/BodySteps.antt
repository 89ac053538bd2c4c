-- Steps of a body, within the held bytes and within the rest of the input.
use Rattle.std.proofs.Common.{◌≡◌, ◌∙◌, ℕ, ◌≤◌, ◌<◌, List, [], ◌++◌, Option, Some, None, length, take, drop, refl, sym, ap, subst, arith, length-append, length-take}
use Rattle.std.{specs.Io.KnownBytes.prepend_known, proofs.lemmas.List.length-map}
use Rattle.httparse.specs.Grammar.{ChunkLine, Field, LineEnd, HasNoChunkLine, HasNoSection, print_chunk_line, print_section}
use Rattle.httparse.specs.{declared.spans.HeaderSpan.HeaderSpan, Spans.{IsChunkLineAt, IsSectionAt, header_bytes, name_and_value}}
use Rattle.httparse.proofs.{GrammarLemmas.{ReadsSection-append, section_unique}, ChunkLemmas.{ReadsChunkLine-append, chunk_line_unique}}
use Rattle.hls_http.proofs.Callers.{Leaves, cut, run_one, runs_join, runs_leave, runs_stay, some_line, some_section}
use Rattle.hls_http.specs.{declared.framing.BodyFraming.{BodyFraming, TheVariants.{Length, Size, Data, Trailers}}, ReadBodies.IsLastAlone}
use Rattle.hls_http.specs.{Bodies.{framing_after_size, Steps, StepsThrough, NoStep, HasNoStep, RunsOnReader}, Input.ReadsMore}
use Rattle.hls_http.{specs.declared.input_buffer.ReadOutcome.ReadOutcome, proofs.HeadLaws.reads_known}

-- if a chunk's size line exceeds the limit, no step is possible
pub long_line : (held : List ℕ) (len size : ℕ) (l : ChunkLine) → IsChunkLineAt held len size l → 16384 < len → HasNoStep Size held
long_line held len size l at past = λ more piece next rest s.
    let same = chunk_line_unique (held ++ more) l s.1.line (drop len held ++ more) rest (ReadsChunkLine-append held l (drop len held) more at.reads) s.1.reads in
    absurd (omega (arith, at.len_is, ap (λ x. length (print_chunk_line x)) same.0, s.1.small))

-- a chunk's size line within the limit is a step without content
pub line_frame : (held : List ℕ) (len size : ℕ) (l : ChunkLine) (next : BodyFraming) → IsChunkLineAt held len size l → len ≤ 16384 → next ≡ framing_after_size size
    → (0 < len) × (len ≤ length held) × Steps Size held [] next (drop len held)
line_frame held len size l next at small is = (
  omega (arith, at.len_is, some_line l),
  omega (arith, at.len_is, ap length at.reads.1, length-append (print_chunk_line l) (drop len held)),
  (size, record { line = l; reads = at.reads; small = omega (arith, at.len_is); size_is = at.size_is }, refl, is),
)

-- if the held bytes reach the limit without a complete size line, no step is possible
pub no_line : (held : List ℕ) → HasNoChunkLine held → 16384 ≤ length held → HasNoStep Size held
no_line held never past = λ more piece next rest s.
    let w = cut (print_chunk_line s.1.line) rest held more (sym s.1.reads.1) (omega (arith, s.1.small)) in never s.1.line w.0 (s.1.reads.0, w.1)

-- if the trailers exceed the limit, no step is possible
pub long_trailers : (held : List ℕ) (headers : List HeaderSpan) (len count : ℕ) (fields : List Field) (last : LineEnd) → IsSectionAt held 0 headers len count fields last → 16384 < len → HasNoStep Trailers held
long_trailers held headers len count fields last at past = λ more piece next rest s.
    let same = section_unique (held ++ more) fields s.0.fields last s.0.last (drop len held ++ more) rest (ReadsSection-append held fields last (drop len held) more at.reads) s.0.reads in
    absurd (omega (arith, at.len_is, ap length (sections_same fields s.0.fields last s.0.last same.0 same.1), s.0.small))
  where
    sections_same : (fs gs : List Field) (a b : LineEnd) → fs ≡ gs → a ≡ b → print_section fs a ≡ print_section gs b
    sections_same fs gs a b p q = cc

-- trailers within the limits are a step without content, and the body is over
pub trailers_frame : (held : List ℕ) (headers : List HeaderSpan) (len count : ℕ) (fields : List Field) (last : LineEnd) → IsSectionAt held 0 headers len count fields last → length headers ≤ 64 → len ≤ 16384 → len ≤ length held
    → (0 < len) × (len ≤ length held) × Steps Trailers held [] (Length 0) (drop len held)
trailers_frame held headers len count fields last at room small within = (
  omega (arith, at.len_is, some_section fields last),
  within,
  (
    record {
      fields = fields;
      last = last;
      reads = at.reads;
      small = omega (arith, at.len_is);
      few = omega (arith, ap length at.fields_are, length-map (take count headers) (header_bytes held), length-map fields name_and_value, length-take count headers);
    },
    refl,
    refl,
  ),
)

-- if the held bytes reach the limit without complete trailers, no step is possible
pub no_trailers : (held : List ℕ) → HasNoSection held → 16384 ≤ length held → HasNoStep Trailers held
no_trailers held never past = λ more piece next rest s.
    let w = cut (print_section s.0.fields s.0.last) rest held more (sym s.0.reads.1) (omega (arith, s.0.small)) in
    never s.0.fields s.0.last w.0 (s.0.reads.0, w.1)

-- ---- steps of the held bytes are steps of the input

-- before the first step, nothing is taken and the whole input is still to come
pub goes_none : (b : BodyFraming) (held rest : List ℕ) (left : Option (List ℕ)) → left ≡ Some rest → RunsOnReader b (held ++ rest) [] b held left
goes_none b held rest left is = record { later = held ++ rest; runs = NoStep; known = ap (λ o. prepend_known held o) is }

-- a step within the held bytes is one more step of the whole input
pub goes_then : (b middle last : BodyFraming) (input got held now piece rest : List ℕ) (old left : Option (List ℕ)) → RunsOnReader b input got middle held old → Steps middle held piece last rest
    → now ≡ rest → left ≡ old → RunsOnReader b input (got ++ piece) last now left
goes_then b middle last input got held now piece rest None left g s now_is left_is = absurd (cc (g.known))
goes_then b middle last input got held now piece rest (Some more) left g s now_is left_is =
    let whole : held ++ more ≡ g.later = cc (g.known) in
    let step = runs_stay middle held piece last rest more (run_one middle last held piece rest s) in
    record {
      later = rest ++ more;
      runs = runs_join b middle last input got g.later piece (rest ++ more) g.runs (subst (λ (xs : List ℕ). StepsThrough middle xs piece last (rest ++ more)) whole step);
      known = ap (λ o. prepend_known now o) left_is ∙ ap (λ xs. Some (xs ++ more)) now_is;
    }

-- bytes that were read after the held ones don't change the bytes still to come
pub goes_filled : (b middle : BodyFraming) (input got held now : List ℕ) (old left : Option (List ℕ)) (filled : ReadOutcome) → RunsOnReader b input got middle held old
    → ReadsMore held now old left filled → RunsOnReader b input got middle now left
goes_filled b middle input got held now old left filled g r = record { later = g.later; runs = g.runs; known = reads_known g.later held now old left filled g.known r }

-- if no content was taken yet and the next byte ends the body, that byte is the whole body
pub last_alone : (b middle next : BodyFraming) (input rest : List ℕ) → StepsThrough b input [] middle rest → IsLastAlone middle next → IsLastAlone b next
last_alone b middle next input rest r alone = λ over. all b (runs_leave b middle input [] rest r) (alone over)
  where
    all : (b : BodyFraming) → Leaves b 0 middle → middle ≡ Length 1 → b ≡ Length 1
    all (Length n) l is = let left : l.0 ≡ 1 = cc (l.1, is) in ap Length (omega (arith, left, l.2))
    all Size l is = absurd (l 0 is)
    all (Data n) l is = absurd (l 0 is)
    all Trailers l is = absurd (l 0 is)
