-- From a playlist's text to the line about it.
use Rattle.std.proofs.Common.{◌≡◌, ◌∙◌, ℕ, ◌≤◌, ◌<◌, ◌⊎◌, inl, inr, List, [], ◌++◌, length, take, Option, Some, None, Result, Ok, Err, Vec, true, false, refl, sym, ap, subst, append-nil, arith}
use Rattle.std.specs.Global.{Global}
use Rattle.std.proofs.lemmas.Bool.{cond-true, lt-ltb}
use Rattle.std.proofs.lemmas.List.{take_all, length-take-le}
use Rattle.hls_io.specs.Writing.{Writes}
use Rattle.hls_m3u8.specs.declared.fault.ListFault.{ListFault}
use Rattle.hls_m3u8.specs.declared.fault.ListFault.TheVariants.{NotM3u, Utf8, BadTag, MissingTag, TooLong, Memory}
use Rattle.hls_m3u8.specs.ReadLines.{reading_of}
use Rattle.hls_m3u8.specs.Readable.{IsReadAnswer}
use Rattle.hls_commands.specs.declared.read_input.ReadFault.{ReadFault}
use Rattle.hls_commands.specs.declared.lint.run.LintEnd.{LintEnd}
use Rattle.hls_commands.specs.declared.lint.run.LintEnd.TheVariants.{Readable, Refused, ReadFailed, WriteFailed}
use Rattle.hls_commands.specs.Prefix.{IsPrefix}
use Rattle.hls_commands.specs.LintAnswer.{lint_line}
use Rattle.hls_commands.specs.LintRun.{AnswersLint, AnswersStream, CountsFailures, RunsLint}
use Rattle.hls_commands.specs.LintParts.{CountsText, IsLine, PrintsText, IsStreamLine, ReportsLine, WritesText, lint_end_of, held_bytes, line_bytes}
use Rattle.hls_commands.specs.ReadInput.{Reads}

-- ---- the bytes that are held of a text are enough

-- a text of more than 16 MiB is refused as TooLong
too_long : (text : List ℕ) → 16777216 < length text → reading_of text ≡ Err TooLong
too_long text long = cond-true _ _ _ (lt-ltb 16777216 (length text) long)

-- a text is within the limit of 16 MiB or longer
short_or_long : (n : ℕ) → (n ≤ 16777216) ⊎ (16777216 < n)
short_or_long n = grind arith

-- the bytes that are held of a text read as the whole text, whether it is within the limit or longer
held_enough : (text : List ℕ) → (length text ≤ 16777216) ⊎ (16777216 < length text) → reading_of (take held_bytes text) ≡ reading_of text
held_enough text (inl short) = ap reading_of (take_all held_bytes text (omega arith))
held_enough text (inr long) =
    let most = length-take-le held_bytes text (omega arith) in
    too_long (take held_bytes text) (omega (arith, most)) ∙ sym (too_long text long)

-- the bytes that are held of a text read as the whole text
pub held_is_read : (text : List ℕ) → reading_of (take held_bytes text) ≡ reading_of text
held_is_read text = held_enough text (short_or_long (length text))

-- ---- the line of a text

-- a reader's refusal of a text is the line about the text
pub refused_line : (text : List ℕ) (f : ListFault) → IsReadAnswer text (Err f) → IsLine text (Err f)
refused_line text NotM3u h = h
refused_line text Utf8 h = h
refused_line text (BadTag line) h = h
refused_line text MissingTag h = h
refused_line text TooLong h = h
refused_line text Memory h = tt

-- the line about a text is the line about another one that reads as the same
line_as : (text other : List ℕ) (line : Result (Vec ℕ Global) ListFault) → reading_of text ≡ reading_of other → IsLine text line → IsLine other line
line_as text other (Ok line) same h = (h.0, sym same ∙ h.1, h.2)
line_as text other (Err NotM3u) same h = sym same ∙ h
line_as text other (Err Utf8) same h = sym same ∙ h
line_as text other (Err (BadTag line)) same h = sym same ∙ h
line_as text other (Err MissingTag) same h = sym same ∙ h
line_as text other (Err TooLong) same h = sym same ∙ h
line_as text other (Err Memory) same h = tt

-- the line about a stream that was read completely is the stream's line
tells_some : (stream rest : List ℕ) (line : Result (Vec ℕ Global) ListFault) → rest ≡ [] → IsLine stream line → IsStreamLine stream rest (Some line)
tells_some stream rest (Ok line) none h = (none, h)
tells_some stream rest (Err NotM3u) none h = (none, h)
tells_some stream rest (Err Utf8) none h = (none, h)
tells_some stream rest (Err (BadTag line)) none h = (none, h)
tells_some stream rest (Err MissingTag) none h = (none, h)
tells_some stream rest (Err TooLong) none h = (none, h)
tells_some stream rest (Err Memory) none h = tt

-- if the stream was read completely, the line about the bytes that are held is reported
pub tells_line : (stream bytes : List ℕ) (text : Vec ℕ Global) (left : Option (List ℕ)) (line : Result (Vec ℕ Global) ListFault) →
    Reads (Some held_bytes) stream left (Ok text) → bytes ≡ text.items → IsLine bytes line → ReportsLine stream left (Some line)
tells_line stream bytes text left line h same is =
    let whole : stream ≡ h.taken = h.split ∙ ap (λ xs. h.taken ++ xs) h.yields.0 ∙ append-nil h.taken in
    let read : reading_of bytes ≡ reading_of stream =
    ap reading_of (same ∙ h.yields.1) ∙ held_is_read h.taken ∙ ap reading_of (sym whole) in
    record { taken = h.taken; rest = h.rest; left_is = h.left_is; split = h.split; reports = tells_some stream h.rest line h.yields.0 (line_as bytes stream line read is) }

-- if a read failed, no line is reported
pub tells_failed : (stream : List ℕ) (left : Option (List ℕ)) (f : ReadFault) → Reads (Some held_bytes) stream left (Err f) → ReportsLine stream left None
tells_failed stream left f h = record { taken = h.taken; rest = h.rest; left_is = h.left_is; split = h.split; reports = tt }

-- if memory ran out while the stream was read, that is reported instead of a line
pub tells_memory : (stream : List ℕ) (left : Option (List ℕ)) (f : ReadFault) → Reads (Some held_bytes) stream left (Err f) → ReportsLine stream left (Some (Err Memory))
tells_memory stream left f h = record { taken = h.taken; rest = h.rest; left_is = h.left_is; split = h.split; reports = tt }

-- ---- what is written

-- a text that was written completely ends the run as it was to end
pub prints_whole : (text : List ℕ) (done : LintEnd) (held : List ℕ) (contents : Option (List ℕ)) → Writes held text contents true → PrintsText text done held contents done
prints_whole text done held contents h =
    let all : h.written ≡ text = sym (append-nil h.written) ∙ ap (λ xs. h.written ++ xs) (sym (h.whole refl)) ∙ sym h.split in
    record { text = h.written; contents_are = h.contents_are; writes = inl (refl, all) }

-- a text that wasn't written completely ends the run with a failed write
pub prints_beginning : (text : List ℕ) (done : LintEnd) (held : List ℕ) (contents : Option (List ℕ)) → Writes held text contents false → PrintsText text done held contents WriteFailed
prints_beginning text done held contents h =
    record { text = h.written; contents_are = h.contents_are; writes = inr (refl, record { missing = h.left; is = h.split }) }

-- ---- both together

-- what a run of `lint` writes with one end it writes with an equal one
answers_as : (stream rest text : List ℕ) (done end : LintEnd) → end ≡ done → AnswersLint stream rest text done → AnswersLint stream rest text end
answers_as stream rest text done end is h = subst (λ (e : LintEnd). AnswersLint stream rest text e) (sym is) h

-- what was written of a playlist's line is what a run of `lint` writes
answers_list : (stream rest text : List ℕ) (line : Vec ℕ Global) (end : LintEnd) → IsStreamLine stream rest (Some (Ok line)) → WritesText line.items Readable text end → AnswersLint stream rest text end
answers_list stream rest text line end reports (inl w) =
    answers_as stream rest text Readable end w.0 (reports.1.0, (reports.0, reports.1.1), w.1 ∙ reports.1.2)
answers_list stream rest text line end reports (inr w) =
    answers_as stream rest text WriteFailed end w.0
    (Ok reports.1.0, (reports.0, reports.1.1), subst (λ (whole : List ℕ). IsPrefix text whole) reports.1.2 w.1)

-- what was written of a refusal's line is what a run of `lint` writes
answers_fault : (stream rest text : List ℕ) (f : ListFault) (end : LintEnd) → AnswersStream stream rest (Err f) → WritesText (lint_line (Err f)) Refused text end → AnswersLint stream rest text end
answers_fault stream rest text f end answers (inl w) = answers_as stream rest text Refused end w.0 (f, answers, w.1)
answers_fault stream rest text f end answers (inr w) = answers_as stream rest text WriteFailed end w.0 (Err f, answers, w.1)

-- what was written of a stream's line is what a run of `lint` writes
answers_line : (stream rest text : List ℕ) (line : Result (Vec ℕ Global) ListFault) (end : LintEnd) → IsStreamLine stream rest (Some line) → WritesText (line_bytes line) (lint_end_of line) text end →
    AnswersLint stream rest text end
answers_line stream rest text (Ok line) end reports w = answers_list stream rest text line end reports w
answers_line stream rest text (Err NotM3u) end reports w = answers_fault stream rest text NotM3u end reports w
answers_line stream rest text (Err Utf8) end reports w = answers_fault stream rest text Utf8 end reports w
answers_line stream rest text (Err (BadTag n)) end reports w = answers_fault stream rest text (BadTag n) end reports w
answers_line stream rest text (Err MissingTag) end reports w = answers_fault stream rest text MissingTag end reports w
answers_line stream rest text (Err TooLong) end reports w = answers_fault stream rest text TooLong end reports w
answers_line stream rest text (Err Memory) end reports w = answers_fault stream rest text Memory end reports w

-- if a stream's line was reported and then printed, whole or in part, that is a run of `lint`
pub runs_printed : (stream held : List ℕ) (left contents : Option (List ℕ)) (line : Result (Vec ℕ Global) ListFault) (end : LintEnd) → ReportsLine stream left (Some line) →
    PrintsText (line_bytes line) (lint_end_of line) held contents end → RunsLint stream held left contents end
runs_printed stream held left contents line end h prints =
    record {
      taken = h.taken;
      rest = h.rest;
      text = prints.text;
      left_is = h.left_is;
      split = h.split;
      contents_are = prints.contents_are;
      answers = answers_line stream h.rest prints.text line end h.reports prints.writes;
    }

-- if no line was reported and nothing was written, that is a run of `lint` with a failed read
pub runs_unread : (stream held : List ℕ) (left contents : Option (List ℕ)) → ReportsLine stream left None → contents ≡ Some held → RunsLint stream held left contents ReadFailed
runs_unread stream held left contents h same =
    record { taken = h.taken; rest = h.rest; text = []; left_is = h.left_is; split = h.split; contents_are = same ∙ ap Some (sym (append-nil held)); answers = refl }

-- the failures that a run of `lint` counts with one end it counts with an equal one
counts_as : (done end : LintEnd) (read_old read_new write_old write_new : ℕ) → end ≡ done → CountsFailures done read_old read_new write_old write_new → CountsFailures end read_old read_new write_old write_new
counts_as done end read_old read_new write_old write_new is h = subst (λ (e : LintEnd). CountsFailures e read_old read_new write_old write_new) (sym is) h

-- without failures, none is counted for a run that printed its line
counts_done : (line : Result (Vec ℕ Global) ListFault) (read_old read_new write_old write_new : ℕ) → read_new ≡ read_old → write_new ≡ write_old → CountsFailures (lint_end_of line) read_old read_new write_old write_new
counts_done (Ok line) read_old read_new write_old write_new quiet same = (quiet, same)
counts_done (Err f) read_old read_new write_old write_new quiet same = (quiet, same)

-- without a failed read, a run counts the failed writes of its printing
pub counts_printed : (line : Result (Vec ℕ Global) ListFault) (end : LintEnd) (read_old read_new write_old write_new : ℕ) → read_new ≡ read_old →
    CountsText (lint_end_of line) end write_old write_new → CountsFailures end read_old read_new write_old write_new
counts_printed line end read_old read_new write_old write_new quiet (inl w) =
    counts_as (lint_end_of line) end read_old read_new write_old write_new w.0 (counts_done line read_old read_new write_old write_new quiet w.1)
counts_printed line end read_old read_new write_old write_new quiet (inr w) = counts_as WriteFailed end read_old read_new write_old write_new w.0 (quiet, w.1)
