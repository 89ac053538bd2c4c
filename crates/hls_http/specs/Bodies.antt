-- Bodies step by step: a machine that may take them in any pieces.
use Rattle.std.specs.Prelude.{◌≡◌, ℕ, zero, suc, ◌+◌, ◌<◌, ◌≤◌, ◌⊎◌, List, [], ◌∷◌, ◌++◌, length, Option, Some}
use Rattle.std.specs.Io.KnownBytes.{prepend_known}
use Rattle.httparse.specs.Grammar.{ChunkLine, Field, LineEnd, ReadsChunkLine, HasNoChunkLine, MayBecomeChunkLine, ReadsSection, HasNoSection, MayBecomeSection, print_chunk_line, print_section, chunk_size}
use Rattle.hls_http.specs.declared.framing.BodyFraming.{BodyFraming, TheVariants.{Length, Size, Data, Trailers}}
use Rattle.hls_http.specs.Limits.{head_limit, field_limit}

-- the input begins with some of the next n bytes, and `left` of the n come after them
pub record IsPiece (n : ℕ) (input piece : List ℕ) (left : ℕ) (rest : List ℕ) : Type 0 where
  pub whole : input ≡ piece ++ rest
  pub some : 0 < length piece
  pub count : length piece + left ≡ n

-- the input begins with a chunk's size line, within the limit
pub record ReadsLine (input : List ℕ) (size : ℕ) (rest : List ℕ) : Type 0 where
  pub line : ChunkLine
  pub reads : ReadsChunkLine input line rest
  pub small : length (print_chunk_line line) ≤ head_limit
  pub size_is : size ≡ chunk_size line

-- the input begins with trailers within the limits
pub record ReadsTrailers (input rest : List ℕ) : Type 0 where
  pub fields : List Field
  pub last : LineEnd
  pub reads : ReadsSection input fields last rest
  pub small : length (print_section fields last) ≤ head_limit
  pub few : length fields ≤ field_limit

-- the framing after a size line: a size of 0 announces the trailers
abbrev pub framing_after_size : ℕ → BodyFraming
framing_after_size zero = Trailers
framing_after_size (suc n) = Data (suc n)

-- a step takes some of the n bytes that are left of a chunk
abbrev pub TakesData : ℕ → List ℕ → List ℕ → BodyFraming → List ℕ → Type 0
TakesData n input piece next rest = (left : ℕ) × IsPiece n input piece left rest × (next ≡ Data left)

-- a step takes the CR LF after a chunk's bytes
abbrev pub EndsData : ℕ → List ℕ → List ℕ → BodyFraming → List ℕ → Type 0
EndsData n input piece next rest = (n ≡ 0) × (input ≡ 13 ∷ 10 ∷ rest) × (piece ≡ []) × (next ≡ Size)

-- one step: a piece of content is taken from the input, and the framing of the rest follows
abbrev pub Steps : BodyFraming → List ℕ → List ℕ → BodyFraming → List ℕ → Type 0
Steps (Length n) input piece next rest = (left : ℕ) × IsPiece n input piece left rest × (next ≡ Length left)
Steps Size input piece next rest = (size : ℕ) × ReadsLine input size rest × (piece ≡ []) × (next ≡ framing_after_size size)
Steps (Data n) input piece next rest = TakesData n input piece next rest ⊎ EndsData n input piece next rest
Steps Trailers input piece next rest = ReadsTrailers input rest × (piece ≡ []) × (next ≡ Length 0)

-- a sequence of steps, and all the content that they yield
pub data StepsThrough : BodyFraming → List ℕ → List ℕ → BodyFraming → List ℕ → Type 0 where
  NoStep : {b : BodyFraming} {input : List ℕ} → StepsThrough b input [] b input
  StepThen : {b next last : BodyFraming} {input middle more rest : List ℕ} (piece : List ℕ) → Steps b input piece next middle → StepsThrough next middle more last rest
      → StepsThrough b input (piece ++ more) last rest

-- no step is possible, whatever follows
abbrev pub HasNoStep : BodyFraming → List ℕ → Type 0
HasNoStep b held = (more : List ℕ) (piece : List ℕ) (next : BodyFraming) (rest : List ℕ) → Steps b (held ++ more) piece next rest → ⊥

-- the held bytes break a chunked body's grammar: no step is possible, whatever follows; a body by length is never broken
abbrev pub IsBroken : BodyFraming → List ℕ → Type 0
IsBroken (Length n) held = ⊥
IsBroken b held = HasNoStep b held

-- the held text ends before a step can be taken
abbrev pub IsOpen : BodyFraming → List ℕ → Type 0
IsOpen (Length n) held = (0 < n) × (held ≡ [])
IsOpen Size held = (length held < head_limit) × HasNoChunkLine held × MayBecomeChunkLine held
IsOpen (Data zero) held = (held ≡ []) ⊎ (held ≡ 13 ∷ [])
IsOpen (Data (suc n)) held = held ≡ []
IsOpen Trailers held = (length held < head_limit) × HasNoSection held × MayBecomeSection held

-- steps of a reader: its held bytes and the bytes left to read are the rest of its input
pub record RunsOnReader (b : BodyFraming) (input content : List ℕ) (last : BodyFraming) (held : List ℕ) (left : Option (List ℕ)) : Type 0 where
  pub later : List ℕ
  pub runs : StepsThrough b input content last later
  pub known : prepend_known held left ≡ Some later
