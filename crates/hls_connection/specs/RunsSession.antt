-- What a session reads and what it writes.
use Rattle.std.specs.Prelude.{◌≡◌, ℕ, List, ◌++◌, Option, Some}
use Rattle.hls_io.specs.Counted.{inner_of}
use Rattle.hls_http.specs.{declared.{end.SessionEnd.SessionEnd, session.Session.Session}, BufferedReader.{unread_of, reader_of}}
use Rattle.hls_api.specs.{Acts.Knowledge, OtherActors.OtherActors}
use Rattle.hls_api.specs.Sessions as spec

-- if the remaining input and the writer's contents are known, this is a session from what its keeper knew before to what it knows now
abbrev pub RunsSession : {R W : Type 0} → OtherActors → (R → Option (List ℕ)) → (W → Option (List ℕ)) → Session R W → Session R W → Knowledge → Knowledge → SessionEnd → Type 0
RunsSession m remaining contents old new a b end =
    (input out : List ℕ) → remaining (reader_of old.source) ≡ Some input → contents (inner_of old.writer) ≡ Some out
    → spec.Session m a (unread_of old.source ++ input) out (contents (inner_of new.writer)) b end
