-- What clauses see of a source: its held bytes, the bytes taken last, and the reader inside; and a new session.
use Rattle.std.specs.Prelude.{◌≡◌, ℕ, List, [], ◌++◌, Option, Some}
use Rattle.hls_io.specs.Counted.{calls_left, failures_of, inner_of}
use Rattle.hls_http.specs.{declared.session.Session.Session, declared.buffered_reader.BufferedReader.BufferedReader}

-- bytes that were read and not yet taken
abbrev pub unread_of : {R : Type 0} → BufferedReader R → List ℕ
unread_of source = source.input.unread

-- bytes that were taken last
abbrev pub taken_of : {R : Type 0} → BufferedReader R → List ℕ
taken_of source = source.input.taken

-- the reader inside a source
abbrev pub reader_of : {R : Type 0} → BufferedReader R → R
reader_of source = inner_of source.reader

-- how many reads of a source have failed so far
abbrev pub read_failures : {R : Type 0} → BufferedReader R → ℕ
read_failures source = failures_of source.reader

-- how many more reads a source may make
abbrev pub reads_left : {R : Type 0} → BufferedReader R → ℕ
reads_left source = calls_left source.reader

-- the relation holds of the source's remaining input before, where it is known, and of its held bytes and remaining input now
abbrev pub FromSource : {R E : Type 0} → (R → Option (List ℕ)) → BufferedReader R → BufferedReader R → (List ℕ → List ℕ → Option (List ℕ) → E → Type 0) → E
    → Type 0
FromSource remaining old new Is result =
    (rest : List ℕ) → remaining (reader_of old) ≡ Some rest → Is (unread_of old ++ rest) (unread_of new) (remaining (reader_of new)) result

-- a source over this reader with nothing read
pub record IsFresh {R : Type 0} (reader : R) (source : BufferedReader R) : Type 0 where
  pub held : unread_of source ≡ []
  pub inside : reader_of source ≡ reader
  pub quiet : read_failures source ≡ 0

-- a session with nothing read and nothing written
pub record IsNew {R W : Type 0} (reader : R) (writer : W) (session : Session R W) : Type 0 where
  pub source : IsFresh reader session.source
  pub inside : inner_of session.writer ≡ writer
  pub quiet : failures_of session.writer ≡ 0
