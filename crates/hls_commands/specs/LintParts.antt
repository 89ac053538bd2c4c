-- For the proofs of this crate; no public clause cites it.
-- What the parts of a run of `lint` pass to each other.
use Rattle.std.specs.Prelude.{◌≡◌, ℕ, ◌+◌, List, [], ◌++◌, Option, Some, None, Result, Ok, Err, Vec, ◌⊎◌}
use Rattle.std.specs.Global.{Global}
use Rattle.hls_io.specs.Failures.{FailuresRose}
use Rattle.hls_m3u8.specs.declared.fault.ListFault.{ListFault}
use Rattle.hls_m3u8.specs.declared.fault.ListFault.TheVariants.{Memory}
use Rattle.hls_m3u8.specs.Limits.{text_limit}
use Rattle.hls_m3u8.specs.Playlist.{Playlist}
use Rattle.hls_m3u8.specs.ReadLines.{reading_of}
use Rattle.hls_commands.specs.declared.lint.run.LintEnd.{LintEnd}
use Rattle.hls_commands.specs.declared.lint.run.LintEnd.TheVariants.{Readable, Refused, WriteFailed}
use Rattle.hls_commands.specs.Prefix.{IsPrefix}
use Rattle.hls_commands.specs.LintAnswer.{lint_line}

-- how many bytes of a text are held: one more than a reader of playlists accepts
abbrev pub held_bytes : ℕ
held_bytes = text_limit + 1

-- the line about a text that is a playlist, or why the text is none
abbrev pub IsLine : List ℕ → Result (Vec ℕ Global) ListFault → Type 0
IsLine text (Ok line) = (list : Playlist) × (reading_of text ≡ Ok list) × (line.items ≡ lint_line (Ok list))
IsLine text (Err Memory) = Unit {0}
IsLine text (Err f) = reading_of text ≡ Err f

-- the line about a stream with nothing left to read; none if a read failed
abbrev pub IsStreamLine : List ℕ → List ℕ → Option (Result (Vec ℕ Global) ListFault) → Type 0
IsStreamLine stream rest None = Unit {0}
IsStreamLine stream rest (Some (Err Memory)) = Unit {0}
IsStreamLine stream rest (Some line) = (rest ≡ []) × IsLine stream line

-- some of the stream was read, and this is the line about the whole stream; none is reported if a read failed
pub record ReportsLine (stream : List ℕ) (left : Option (List ℕ)) (reported : Option (Result (Vec ℕ Global) ListFault)) : Type 0 where
  pub taken : List ℕ
  pub rest : List ℕ
  pub left_is : left ≡ Some rest
  pub split : stream ≡ taken ++ rest
  pub reports : IsStreamLine stream rest reported

-- a failed read was counted exactly if no line is reported
abbrev pub CountsReadFailures : Option (Result (Vec ℕ Global) ListFault) → ℕ → ℕ → Type 0
CountsReadFailures None old new = FailuresRose old new
CountsReadFailures (Some line) old new = new ≡ old

-- the bytes of a line, whether it is about a playlist or a refusal
abbrev pub line_bytes : Result (Vec ℕ Global) ListFault → List ℕ
line_bytes (Ok line) = line.items
line_bytes (Err f) = lint_line (Err f)

-- how a run ends after its line is written
abbrev pub lint_end_of : Result (Vec ℕ Global) ListFault → LintEnd
lint_end_of (Ok line) = Readable
lint_end_of (Err f) = Refused

-- the whole text is written, or a prefix of it up to a failed write
abbrev pub WritesText : List ℕ → LintEnd → List ℕ → LintEnd → Type 0
WritesText whole done text end = ((end ≡ done) × (text ≡ whole)) ⊎ ((end ≡ WriteFailed) × IsPrefix text whole)

-- the whole text, or a prefix of it up to a failed write, was written after what was held
pub record PrintsText (whole : List ℕ) (done : LintEnd) (held : List ℕ) (contents : Option (List ℕ)) (end : LintEnd) : Type 0 where
  pub text : List ℕ
  pub contents_are : contents ≡ Some (held ++ text)
  pub writes : WritesText whole done text end

-- a failed write was counted exactly if the end reports one
abbrev pub CountsText : LintEnd → LintEnd → ℕ → ℕ → Type 0
CountsText done end old new = ((end ≡ done) × (new ≡ old)) ⊎ ((end ≡ WriteFailed) × FailuresRose old new)
