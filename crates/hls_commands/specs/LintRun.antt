-- The contract of a run of `lint`: what it reads, writes and returns. (LintParts has what its parts pass to each other.)
use Rattle.std.specs.Prelude.{◌≡◌, ℕ, List, [], ◌++◌, Option, Some, Result, Ok, Err}
use Rattle.hls_io.specs.Failures.{FailuresRose}
use Rattle.hls_m3u8.specs.declared.fault.ListFault.{ListFault}
use Rattle.hls_m3u8.specs.declared.fault.ListFault.TheVariants.{Memory}
use Rattle.hls_m3u8.specs.Playlist.{Playlist}
use Rattle.hls_m3u8.specs.ReadLines.{reading_of}
use Rattle.hls_commands.specs.declared.lint.run.LintEnd.{LintEnd}
use Rattle.hls_commands.specs.declared.lint.run.LintEnd.TheVariants.{Readable, Refused, ReadFailed, WriteFailed}
use Rattle.hls_commands.specs.Prefix.{IsPrefix}
use Rattle.hls_commands.specs.LintAnswer.{lint_line}

-- the reading of a whole stream, with nothing left to read; or an allocation failed
abbrev pub AnswersStream : List ℕ → List ℕ → Result Playlist ListFault → Type 0
AnswersStream stream rest (Err Memory) = Unit {0}
AnswersStream stream rest answer = (rest ≡ []) × (reading_of stream ≡ answer)

-- `rest` of the stream is left unread, and `text` is written, by how the run ended
abbrev pub AnswersLint : List ℕ → List ℕ → List ℕ → LintEnd → Type 0
AnswersLint stream rest text Readable = (list : Playlist) × AnswersStream stream rest (Ok list) × (text ≡ lint_line (Ok list))
AnswersLint stream rest text Refused = (f : ListFault) × AnswersStream stream rest (Err f) × (text ≡ lint_line (Err f))
AnswersLint stream rest text ReadFailed = text ≡ []
AnswersLint stream rest text WriteFailed = (answer : Result Playlist ListFault) × AnswersStream stream rest answer × IsPrefix text (lint_line answer)

-- a run of `lint`: the bytes read from the stream and those left, and the text that was written after what was held
pub record RunsLint (stream held : List ℕ) (left contents : Option (List ℕ)) (end : LintEnd) : Type 0 where
  pub taken : List ℕ
  pub rest : List ℕ
  pub text : List ℕ
  pub left_is : left ≡ Some rest
  pub split : stream ≡ taken ++ rest
  pub contents_are : contents ≡ Some (held ++ text)
  pub answers : AnswersLint stream rest text end

-- a failed read or write is reported, and only if one was counted; none is ignored
abbrev pub CountsFailures : LintEnd → ℕ → ℕ → ℕ → ℕ → Type 0
CountsFailures ReadFailed read_old read_new write_old write_new = FailuresRose read_old read_new × (write_new ≡ write_old)
CountsFailures WriteFailed read_old read_new write_old write_new = (read_new ≡ read_old) × FailuresRose write_old write_new
CountsFailures end read_old read_new write_old write_new = (read_new ≡ read_old) × (write_new ≡ write_old)
