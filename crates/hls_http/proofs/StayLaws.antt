-- What is at the front of a text stays there when more follows; step by step.
use Rattle.std.proofs.Common.{◌≡◌, ◌∙◌, ℕ, zero, suc, ◌+◌, ◌≤◌, ◌<◌, inl, inr, List, [], ◌∷◌, ◌++◌, length, refl, sym, ap, subst, append_assoc, arith, length-append}
use Rattle.std.proofs.lemmas.Bool.{cases_lt}
use Rattle.httparse.{specs.Grammar.ReadsRequest, proofs.{ChunkLemmas.ReadsChunkLine-append, PieceLemmas.front-append}}
use Rattle.httparse.proofs.GrammarLemmas.{ReadsSection-append, ReadsRequest-append, request_unique}
use Rattle.hls_http.specs.{declared.framing.BodyFraming.BodyFraming, Grammar.IsBody, Heads.ReadsLimitedHead, Requests.AreRequestsThenRest}
use Rattle.hls_http.specs.Laws.{HeadsStay, RunsStay, BodiesStay, RequestsStay, StreamsStay, BadHeadsStay, LargeHeadsStay, BadFieldsStay, BrokenBodiesStay, RunsJoin, SplitsAt, RunsSplit, StreamsJoin, HeadsAreUnique, RequestsAreUnique, BrokenBodiesNeverEnd, OpenBodiesNeverEnd, ContentCoversSize}
use Rattle.hls_http.proofs.BodyLaws.{body_taken, broken_body, cut, open_body, run_left, run_one, step_left, taken_body}
use Rattle.hls_http.{specs.declared.framing.BodyFraming.TheVariants.{Length, Size, Data, Trailers}, proofs.RequestLaws.one_left}
use Rattle.hls_http.specs.Bodies.{IsPiece, ReadsLine, Steps, StepsThrough, NoStep, StepThen, framing_after_size}

-- ---- what was read

-- a piece of the next n bytes is the same if more follows; the same for a size line, and then for any step
piece_stays : (n : ℕ) (input piece : List ℕ) (left : ℕ) (rest more : List ℕ) → IsPiece n input piece left rest → IsPiece n (input ++ more) piece left (rest ++ more)
piece_stays n input piece left rest more x = record { whole = front-append input piece rest more x.whole; some = x.some; count = x.count }

pub line_stays : (input : List ℕ) (size : ℕ) (rest more : List ℕ) → ReadsLine input size rest → ReadsLine (input ++ more) size (rest ++ more)
line_stays input size rest more x = record { line = x.line; reads = ReadsChunkLine-append input x.line rest more x.reads; small = x.small; size_is = x.size_is }

pub step_stays : (b next : BodyFraming) (input piece rest more : List ℕ) → Steps b input piece next rest → Steps b (input ++ more) piece next (rest ++ more)
step_stays (Length n) next input piece rest more s = (s.0, piece_stays n input piece s.0 rest more s.1, s.2)
step_stays Size next input piece rest more s = (s.0, line_stays input s.0 rest more s.1, s.2, s.3)
step_stays (Data n) next input piece rest more (inl s) = inl (s.0, piece_stays n input piece s.0 rest more s.1, s.2)
step_stays (Data n) next input piece rest more (inr s) = inr (s.0, ap (λ (t : List ℕ). t ++ more) s.1, s.2, s.3)
step_stays Trailers next input piece rest more (x, none, next_is) = (
  record { fields = x.fields; last = x.last; reads = ReadsSection-append input x.fields x.last rest more x.reads; small = x.small; few = x.few },
  none,
  next_is,
)

-- a head, a part of a body, a whole body, a request, and a list of requests stay the same if more follows
pub heads_stay : HeadsStay
heads_stay text h rest more x = record { reads = ReadsRequest-append text h rest more x.reads; small = x.small }

pub runs_stay : RunsStay
runs_stay b input content last rest more NoStep = NoStep
runs_stay b input content last rest more (StepThen {next = next} {middle = middle} {more = others} piece s r) =
    StepThen piece (step_stays b next input piece middle more s) (runs_stay next middle others last rest more r)

pub bodies_stay : BodiesStay
bodies_stay b input content rest more x =
    body_taken b (input ++ more) content (rest ++ more) (runs_stay b input content (Length 0) rest more (taken_body b input content rest x))

pub requests_stay : RequestsStay
requests_stay text r rest more x = record {
  body = x.body;
  middle = x.middle ++ more;
  head = heads_stay text r.head x.middle more x.head;
  framing_is = x.framing_is;
  content = bodies_stay x.body x.middle r.content rest more x.content;
}

pub streams_stay : StreamsStay
streams_stay text [] rest more x = ap (λ (t : List ℕ). t ++ more) x
streams_stay text (r ∷ rs) rest more x = (x.0 ++ more, requests_stay text r x.0 more x.1, streams_stay x.0 rs rest more x.2)

pub ruleset fronts_stay = (heads_stay, runs_stay, bodies_stay, requests_stay, streams_stay)

-- ---- what is refused

-- what is refused of a text is still refused if more follows: a bad head, one above the limits, bad fields, a broken body
pub bad_heads_stay : BadHeadsStay
bad_heads_stay text more never = λ later h rest r. never (more ++ later) h rest (subst (λ (t : List ℕ). ReadsRequest t h rest) (append_assoc text more later) r)

pub large_heads_stay : LargeHeadsStay
large_heads_stay text more x = record {
  none = λ later h rest r. x.none (more ++ later) h rest (subst (λ (t : List ℕ). ReadsLimitedHead t h rest) (append_assoc text more later) r);
  past = elim x.past [
    | inl many ↦ inl (omega (arith, many, length-append text more))
    | inr fields ↦ inr (fields.0, fields.1 ++ more, front-append text fields.0 fields.1 more fields.2, fields.3, fields.4, fields.5)
  ];
}

pub bad_fields_stay : BadFieldsStay
bad_fields_stay text more x = record { head = x.head; fault = x.fault; rest = x.rest ++ more; reads = heads_stay text x.head x.rest more x.reads; framing_is = x.framing_is }

pub broken_bodies_stay : BrokenBodiesStay
broken_bodies_stay (Length n) held more broken = broken
broken_bodies_stay b held more broken = λ later piece next rest s.
    broken (more ++ later) piece next rest (subst (λ (t : List ℕ). Steps b t piece next rest) (append_assoc held more later) s)

-- ---- what follows

-- two consecutive parts of a body are one part
pub runs_join : RunsJoin
runs_join a b c input first middle second rest NoStep y = y
runs_join a b c input first middle second rest (StepThen {next = next} {middle = following} {more = more} piece s r) y =
    subst (λ (t : List ℕ). StepsThrough a input t c rest) (sym (append_assoc piece more second))
    (StepThen piece s (runs_join next b c following more middle second rest r y))

-- a step whose piece is cut in two is two steps
pub record StepsTwice (b next : BodyFraming) (input first m rest : List ℕ) : Type 0 where
  pub middle : BodyFraming
  pub front : Steps b input first middle (m ++ rest)
  pub following : Steps middle (m ++ rest) m next rest

-- an empty text doesn't begin with a text that isn't empty
no_piece : (first m : List ℕ) → first ++ m ≡ [] → 0 < length first → ⊥
no_piece first m none some = absurd (omega (arith, ap length none, some, length-append first m))

-- a non-empty front of a piece is a piece itself, which leaves as many more bytes as the piece is longer
piece_front : (n : ℕ) (input first m : List ℕ) (left : ℕ) (rest : List ℕ) → 0 < length first → IsPiece n input (first ++ m) left rest → IsPiece n input first (length m + left) (m ++ rest)
piece_front n input first m left rest some x =
    record { whole = x.whole ∙ append_assoc first m rest; some = some; count = omega (arith, x.count, length-append first m) }

-- a step whose content is two non-empty texts can be taken as two steps, one for each text
step_twice : (b next : BodyFraming) (input first m rest : List ℕ) → 0 < length first → 0 < length m → Steps b input (first ++ m) next rest → StepsTwice b next input first m rest
step_twice (Length n) next input first m rest some more s = record {
  middle = Length (length m + s.0);
  front = (length m + s.0, piece_front n input first m s.0 rest some s.1, refl);
  following = (s.0, record { whole = refl; some = more; count = refl }, s.2);
}
step_twice Size next input first m rest some more s = absurd (no_piece first m s.2 some)
step_twice (Data n) next input first m rest some more (inl s) = record {
  middle = Data (length m + s.0);
  front = inl (length m + s.0, piece_front n input first m s.0 rest some s.1, refl);
  following = inl (s.0, record { whole = refl; some = more; count = refl }, s.2);
}
step_twice (Data n) next input first m rest some more (inr s) = absurd (no_piece first m s.2 some)
step_twice Trailers next input first m rest some more s = absurd (no_piece first m s.1 some)

-- the steps of a content that is two texts can be taken as steps for the first text, then for the second
split_at : (b last : BodyFraming) (input content first second rest : List ℕ) → content ≡ first ++ second → StepsThrough b input content last rest → SplitsAt b last input first second rest
split_at b last input content [] second rest is r = record { middle = b; later = input; front = NoStep; following = subst (λ (t : List ℕ). StepsThrough b input t last rest) is r }
split_at b last input content (x ∷ first) second rest is NoStep = absurd (cc is)
split_at b last input content (x ∷ first) second rest is (StepThen {next = next} {middle = following} {more = more} piece s r) =
    elim (cases_lt (length (x ∷ first)) (length piece)) [
      | inl short ↦
          let w = cut (x ∷ first) second piece more (sym is) (omega (arith, short)) in
          let some : 0 < length w.0 = omega (arith, short, ap length w.1, length-append (x ∷ first) w.0) in
          let twice = step_twice b next input (x ∷ first) w.0 following (omega arith) some (subst (λ (t : List ℕ). Steps b input t next following) w.1 s) in
          let others = subst (λ (t : List ℕ). StepsThrough twice.middle (w.0 ++ following) t last rest) (sym w.2) (StepThen w.0 twice.following r) in
          record { middle = twice.middle; later = w.0 ++ following; front = run_one b twice.middle input (x ∷ first) (w.0 ++ following) twice.front; following = others }
      | inr long ↦
          let w = cut piece more (x ∷ first) second is long in
          let v = split_at next last following more w.0 second rest w.2 r in
          let front = subst (λ (t : List ℕ). StepsThrough b input t v.middle v.later) (sym w.1) (StepThen piece s v.front) in
          record { middle = v.middle; later = v.later; front = front; following = v.following }
    ]

-- a part of a body whose content is two texts is a part with the first text, then one with the second
pub runs_split : RunsSplit
runs_split b last input first second rest r = split_at b last input (first ++ second) first second rest refl r

-- requests followed by further requests are one list of requests
pub streams_join : StreamsJoin
streams_join text middle rest [] qs x y = subst (λ (t : List ℕ). AreRequestsThenRest t qs rest) x y
streams_join text middle rest (r ∷ rs) qs x y = (x.0, x.1, streams_join x.0 middle rest rs qs x.2 y)

pub ruleset fronts_join = (runs_join, runs_split, streams_join)

-- ---- what can't be there

-- a text begins with at most one head, and with at most one request
pub heads_one : HeadsAreUnique
heads_one text h k rest after x y = request_unique text h k rest after x.reads y.reads

pub requests_one : RequestsAreUnique
requests_one text r q rest after x y = one_left text rest after r q x y

-- if the grammar is broken after a part of a body, there is no whole body, whatever follows
pub broken_bodies : BrokenBodiesNeverEnd
broken_bodies b last input got held more content rest r broken x =
    let w = run_left b last (input ++ more) got (held ++ more) content rest (runs_stay b input got last held more r) x in
    broken_body last held more w.more rest broken w.body

-- if the text ends within a body, it begins with no whole body
pub open_bodies : OpenBodiesNeverEnd
open_bodies b last input got held content rest r ended x =
    let w = run_left b last input got held content rest r x in open_body last held w.more rest ended w.body

-- the content after a size line has at least the bytes that the line announces
behind_size : (size : ℕ) (input content rest : List ℕ) → IsBody (framing_after_size size) input content rest → size ≤ length content
behind_size zero input content rest x = omega arith
behind_size (suc n) input content rest x = omega (arith, x.count, ap length x.content_is, length-append x.bytes x.more)

-- a body's content has at least the bytes taken so far and those that the next size line announces
pub sizes_count : ContentCoversSize
sizes_count b input got held following more content rest size r line x =
    let w = run_left b Size (input ++ more) got (held ++ more) content rest (runs_stay b input got Size held more r) x in
    let step : Steps Size (held ++ more) [] (framing_after_size size) (following ++ more) = (size, line_stays held size following more line, refl, refl) in
    let v = step_left Size (framing_after_size size) (held ++ more) [] (following ++ more) w.more rest step w.body in
    let few = behind_size size (following ++ more) v.more rest v.body in
    omega (arith, few, ap length w.split, ap length v.split, length-append got w.more)
