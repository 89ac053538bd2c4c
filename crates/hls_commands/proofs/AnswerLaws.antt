-- From what was read to the answer, and from the answer to what is written.
use Rattle.std.proofs.Common.{◌≡◌, ◌∙◌, ℕ, List, [], ◌++◌, inl, inr, Option, Some, None, Result, Ok, Err, Vec, true, false, refl, sym, ap, subst, append-nil}
use Rattle.std.specs.Global.{Global}
use Rattle.hls_check_tables.specs.declared.cert_fault.CertFault.{CertFault}
use Rattle.hls_check_tables.specs.declared.cert_fault.CertFault.TheVariants.{Form, Memory}
use Rattle.hls_check_tables.specs.declared.verdict.Verdict.{Verdict}
use Rattle.hls_check_tables.specs.Certificates.{CertificateData, ClaimData, CutClaim, NoneClaim, IsCertificate}
use Rattle.hls_check_tables.specs.Tables.{Table}
use Rattle.hls_check.specs.CheckResults.{CheckResultOver, IsCheckResult}
use Rattle.hls_check.proofs.OneAnswer as answers
use Rattle.hls_check.specs.Text.{text}
use Rattle.hls_check.proofs.Wrongs.{text_is_told, wrong_is_one}
use Rattle.hls_io.specs.Writing.{Writes}
use Rattle.hls_commands.specs.declared.read_input.ReadFault.{ReadFault}
use Rattle.hls_commands.specs.declared.check.run.CheckEnd.{CheckEnd}
use Rattle.hls_commands.specs.declared.check.run.CheckEnd.TheVariants.{Yes, Refused, ReadFailed, WriteFailed}
use Rattle.hls_commands.specs.Prefix.{IsPrefix}
use Rattle.hls_commands.specs.CheckAnswer.{AnswerOf, check_line}
use Rattle.hls_commands.specs.CheckRun.{AnswersCheck, AnswersStream, CountsFailures, RunsCheck}
use Rattle.hls_commands.specs.CheckParts.{AnswersText, CountsPrinting, Prints, PrintsAnswer, ReportsAnswer}
use Rattle.hls_commands.specs.ReadInput.{Reads}

-- ---- the answer

-- the answer to a text is the answer to a stream that is this text, with nothing left to read
answers_whole : (stream : List ℕ) (answer : Result Verdict CertFault) → AnswersText stream answer → AnswersStream stream [] answer
answers_whole stream (Ok verdict) h = (refl, h)
answers_whole stream (Err Memory) h = tt
answers_whole stream (Err f) h = (refl, h)

-- if the stream was read completely, the answer to its text is reported
pub tells_answer : (stream bytes : List ℕ) (text : Vec ℕ Global) (left : Option (List ℕ)) (answer : Result Verdict CertFault) → Reads None stream left (Ok text) → bytes ≡ text.items → AnswersText bytes answer → ReportsAnswer stream left (Some answer)
tells_answer stream bytes text left answer h same answers =
    let whole : stream ≡ bytes = h.split ∙ ap (λ xs. h.taken ++ xs) h.yields.0 ∙ append-nil h.taken ∙ sym h.yields.1 ∙ sym same in
    record {
      taken = stream;
      rest = [];
      left_is = h.left_is ∙ ap Some h.yields.0;
      split = sym (append-nil stream);
      reports = answers_whole stream answer (subst (λ (xs : List ℕ). AnswersText xs answer) (sym whole) answers);
    }

-- if a read failed, no answer is reported
pub tells_failed : (stream : List ℕ) (left : Option (List ℕ)) (f : ReadFault) → Reads None stream left (Err f) → ReportsAnswer stream left None
tells_failed stream left f h = record { taken = h.taken; rest = h.rest; left_is = h.left_is; split = h.split; reports = tt }

-- if memory ran out while the stream was read, that is the answer that is reported
pub tells_memory : (stream : List ℕ) (left : Option (List ℕ)) (f : ReadFault) → Reads None stream left (Err f) → ReportsAnswer stream left (Some (Err Memory))
tells_memory stream left f h = record { taken = h.taken; rest = h.rest; left_is = h.left_is; split = h.split; reports = tt }

-- ---- what is written

-- a verdict's line that was written completely ends the run with Yes
pub prints_yes : (answer : Result Verdict CertFault) (verdict : Verdict) (held line : List ℕ) (contents : Option (List ℕ)) → answer ≡ Ok verdict → line ≡ check_line answer → Writes held line contents true → PrintsAnswer answer held contents Yes
prints_yes (Ok v) verdict held line contents is line_is h =
    record { text = h.written; contents_are = h.contents_are; prints = sym (append-nil h.written) ∙ ap (λ xs. h.written ++ xs) (sym (h.whole refl)) ∙ sym h.split ∙ line_is }
prints_yes (Err f) verdict held line contents is line_is h = cc

-- a fault's line that was written completely ends the run with Refused
pub prints_refused : (answer : Result Verdict CertFault) (fault : CertFault) (held line : List ℕ) (contents : Option (List ℕ)) → answer ≡ Err fault → line ≡ check_line answer → Writes held line contents true → PrintsAnswer answer held contents Refused
prints_refused (Ok v) fault held line contents is line_is h = cc
prints_refused (Err f) fault held line contents is line_is h =
    record { text = h.written; contents_are = h.contents_are; prints = sym (append-nil h.written) ∙ ap (λ xs. h.written ++ xs) (sym (h.whole refl)) ∙ sym h.split ∙ line_is }

-- a line that wasn't written completely ends the run with a failed write
pub prints_beginning : (answer : Result Verdict CertFault) (held line : List ℕ) (contents : Option (List ℕ)) → line ≡ check_line answer → Writes held line contents false → PrintsAnswer answer held contents (WriteFailed answer)
prints_beginning (Ok v) held line contents line_is h =
    record { text = h.written; contents_are = h.contents_are; prints = (refl, record { missing = h.left; is = sym line_is ∙ h.split }) }
prints_beginning (Err f) held line contents line_is h =
    record { text = h.written; contents_are = h.contents_are; prints = (refl, record { missing = h.left; is = sym line_is ∙ h.split }) }

-- ---- both together

-- a failed write reports the answer whose line it was
whose : (stream rest text : List ℕ) (answer reported : Result Verdict CertFault) → AnswersStream stream rest answer → reported ≡ answer →
    IsPrefix text (check_line answer) → AnswersCheck stream rest text (WriteFailed reported)
whose stream rest text answer reported answers is beginning =
    subst (λ (a : Result Verdict CertFault). AnswersStream stream rest a × IsPrefix text (check_line a)) (sym is) (answers, beginning)

-- what was written for a stream's answer is what a run of `check` writes
answers_printed : (stream rest text : List ℕ) (answer : Result Verdict CertFault) (end : CheckEnd) → AnswersStream stream rest answer → Prints answer text end → AnswersCheck stream rest text end
answers_printed stream rest text (Ok v) Yes answers prints = (v, answers, prints)
answers_printed stream rest text (Err f) Yes answers prints = absurd prints
answers_printed stream rest text (Ok v) Refused answers prints = absurd prints
answers_printed stream rest text (Err f) Refused answers prints = (f, answers, prints)
answers_printed stream rest text (Ok v) ReadFailed answers prints = absurd prints
answers_printed stream rest text (Err f) ReadFailed answers prints = absurd prints
answers_printed stream rest text (Ok v) (WriteFailed reported) answers prints = whose stream rest text (Ok v) reported answers prints.0 prints.1
answers_printed stream rest text (Err f) (WriteFailed reported) answers prints = whose stream rest text (Err f) reported answers prints.0 prints.1

-- if a stream's answer was reported and then printed, whole or in part, that is a run of `check`
pub runs_printed : (stream held : List ℕ) (left contents : Option (List ℕ)) (answer : Result Verdict CertFault) (end : CheckEnd) → ReportsAnswer stream left (Some answer) → PrintsAnswer answer held contents end → RunsCheck stream held left contents end
runs_printed stream held left contents answer end h prints =
    record { taken = h.taken; rest = h.rest; text = prints.text; left_is = h.left_is; split = h.split; contents_are = prints.contents_are; answers = answers_printed stream h.rest prints.text answer end h.reports prints.prints }

-- if no answer was reported and nothing was written, that is a run of `check` with a failed read
pub runs_unread : (stream held : List ℕ) (left contents : Option (List ℕ)) → ReportsAnswer stream left None → contents ≡ Some held → RunsCheck stream held left contents ReadFailed
runs_unread stream held left contents h same =
    record { taken = h.taken; rest = h.rest; text = []; left_is = h.left_is; split = h.split; contents_are = same ∙ ap Some (sym (append-nil held)); answers = refl }

-- without a failed read, a run counts the failed writes of its printing
pub counts_printed : (end : CheckEnd) (read_old read_new write_old write_new : ℕ) → read_new ≡ read_old → CountsPrinting end write_old write_new → CountsFailures end read_old read_new write_old write_new
counts_printed Yes read_old read_new write_old write_new quiet counts = (quiet, counts)
counts_printed Refused read_old read_new write_old write_new quiet counts = (quiet, counts)
counts_printed (WriteFailed reported) read_old read_new write_old write_new quiet counts = (quiet, counts)
counts_printed ReadFailed read_old read_new write_old write_new quiet counts = absurd counts

-- ---- a text has one answer, and out of memory is none

-- a text that is two certificates' has the same answer to both
same_certificate : (c d : CertificateData) (bytes : List ℕ) (one other : Result Verdict CertFault) → IsCertificate c → IsCertificate d → bytes ≡ text c → bytes ≡ text d → IsCheckResult c one → IsCheckResult d other → one ≡ other
same_certificate c d bytes one other of_c of_d is_c is_d answers_c answers_d =
    let same : c ≡ d = text_is_told c d of_c of_d (sym is_c ∙ is_d) in
    answers.one_answer c one other of_c answers_c (subst (λ (p : CertificateData). IsCheckResult p other) (sym same) answers_d)

-- a text has at most one answer
pub one_answer : (bytes : List ℕ) (one other : Result Verdict CertFault) → AnswerOf bytes one → AnswerOf bytes other → one ≡ other
one_answer bytes one other (inl c) (inl d) = same_certificate c.certificate d.certificate bytes one other c.is_certificate d.is_certificate c.text_is d.text_is c.answer_is d.answer_is
one_answer bytes one other (inl c) (inr n) = absurd (n.first_wrong.no_text c.certificate c.is_certificate c.text_is)
one_answer bytes one other (inr m) (inl d) = absurd (m.first_wrong.no_text d.certificate d.is_certificate d.text_is)
one_answer bytes one other (inr m) (inr n) = m.answer_is ∙ ap (λ line. Err (Form line)) (wrong_is_one bytes m.line n.line m.first_wrong n.first_wrong) ∙ sym n.answer_is

-- out of memory is the answer to no certificate
no_memory_over : (t : Table) (shown : ClaimData) → CheckResultOver t shown (Err Memory) → ⊥
no_memory_over t (CutClaim total plan prices) h = h
no_memory_over t (NoneClaim closed) h = h

-- out of memory is no text's answer
pub no_memory : (bytes : List ℕ) → AnswerOf bytes (Err Memory) → ⊥
no_memory bytes (inl c) = no_memory_over c.certificate.table c.certificate.shown c.answer_is
no_memory bytes (inr n) = cc
