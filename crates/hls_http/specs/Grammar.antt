-- Bodies by the standard's grammar (RFC 9112, sections 6.2 and 7.1): chunks as a tree with its text.
use Rattle.std.specs.{Prelude.{◌≡◌, ℕ, List, [], ◌∷◌, ◌++◌, length, ◌<◌, ◌≤◌}, List.flat_map}
use Rattle.httparse.specs.Grammar.{ChunkLine, IsChunkLine, print_chunk_line, chunk_size}
use Rattle.hls_http.specs.{declared.framing.BodyFraming.BodyFraming, Limits.head_limit, Bodies.ReadsTrailers}
use Rattle.hls_http.specs.declared.framing.BodyFraming.TheVariants.{Length, Size, Data, Trailers}

-- a chunk: its size line, and as many bytes
pub record Chunk : Type 0 where
  pub line : ChunkLine
  pub bytes : List ℕ

-- the content of a chunk
abbrev pub chunk_bytes : Chunk → List ℕ
chunk_bytes chunk = chunk.bytes

-- chunk = chunk-size [ chunk-ext ] CRLF chunk-data CRLF
abbrev pub print_chunk : Chunk → List ℕ
print_chunk chunk = print_chunk_line chunk.line ++ (chunk.bytes ++ 13 ∷ 10 ∷ [])

-- a size line of the grammar, within the limit
pub record IsLine (line : ChunkLine) : Type 0 where
  pub good : IsChunkLine line
  pub small : length (print_chunk_line line) ≤ head_limit

-- a chunk other than the last
pub record IsChunk (chunk : Chunk) : Type 0 where
  pub line : IsLine chunk.line
  pub some : 0 < length chunk.bytes
  pub size : length chunk.bytes ≡ chunk_size chunk.line

-- each of them is a chunk other than the last
abbrev pub AreChunks : List Chunk → Type 0
AreChunks [] = Unit {0}
AreChunks (chunk ∷ chunks) = IsChunk chunk × AreChunks chunks

-- chunked-body = *chunk last-chunk trailer-section CRLF, and what follows it
pub record ReadsChunked (input content rest : List ℕ) : Type 0 where
  pub chunks : List Chunk
  pub each : AreChunks chunks
  pub last : ChunkLine
  pub last_line : IsLine last
  pub last_size : chunk_size last ≡ 0
  pub after : List ℕ
  pub whole : input ≡ flat_map print_chunk chunks ++ (print_chunk_line last ++ after)
  pub trailers : ReadsTrailers after rest
  pub content_is : content ≡ flat_map chunk_bytes chunks

-- the text begins with n bytes, the rest of a chunk, and then CR LF and chunks
pub record ReadsRestOfChunk (n : ℕ) (input content rest : List ℕ) : Type 0 where
  pub bytes : List ℕ
  pub more : List ℕ
  pub middle : List ℕ
  pub count : length bytes ≡ n
  pub whole : input ≡ bytes ++ 13 ∷ 10 ∷ middle
  pub chunks : ReadsChunked middle more rest
  pub content_is : content ≡ bytes ++ more

-- the text begins with the rest of a body in this framing, with this content
abbrev pub IsBody : BodyFraming → List ℕ → List ℕ → List ℕ → Type 0
IsBody (Length n) input content rest = (input ≡ content ++ rest) × (length content ≡ n)
IsBody Size input content rest = ReadsChunked input content rest
IsBody (Data n) input content rest = ReadsRestOfChunk n input content rest
IsBody Trailers input content rest = (content ≡ []) × ReadsTrailers input rest
