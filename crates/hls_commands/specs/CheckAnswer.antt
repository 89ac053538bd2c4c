-- The answer to the text of a certificate, and how it is printed.
use Rattle.std.specs.Prelude.{◌≡◌, ℕ, List, [], ◌∷◌, ◌++◌, codes, Result, Ok, Err, ◌⊎◌}
use Rattle.hls_text.specs.Numbers.{spaced_numbers}
use Rattle.hls_check_tables.specs.declared.cert_fault.CertFault.{CertFault}
use Rattle.hls_check_tables.specs.declared.cert_fault.CertFault.TheVariants.{Form, TableNotSorted, PlanEnds, PlanStep, PlanCost}
use Rattle.hls_check_tables.specs.declared.cert_fault.CertFault.TheVariants.{PriceStart, PriceStep, EndReached, Memory}
use Rattle.hls_check_tables.specs.declared.verdict.Verdict.{Verdict}
use Rattle.hls_check_tables.specs.declared.verdict.Verdict.TheVariants.{Cut, NoCut}
use Rattle.hls_check_tables.specs.Certificates.{CertificateData, IsCertificate}
use Rattle.hls_check_tables.specs.Faults.{fault_name}
use Rattle.hls_check.specs.CheckResults.{IsCheckResult}
use Rattle.hls_check.specs.Text.{text}
use Rattle.hls_check.specs.WrongLines.{IsFirstWrongLine}

-- the bytes are a certificate's text, and this is the answer to the certificate
pub record AnswersCertificate (bytes : List ℕ) (answer : Result Verdict CertFault) : Type 0 where
  pub certificate : CertificateData
  pub is_certificate : IsCertificate certificate
  pub text_is : bytes ≡ text certificate
  pub answer_is : IsCheckResult certificate answer

-- the bytes are no certificate's text, and the answer names their first wrong line
pub record NamesWrongLine (bytes : List ℕ) (answer : Result Verdict CertFault) : Type 0 where
  pub line : ℕ
  pub first_wrong : IsFirstWrongLine bytes line
  pub answer_is : answer ≡ Err (Form line)

-- the text's only answer: that to the certificate whose text it is, or its first wrong line
abbrev pub AnswerOf : List ℕ → Result Verdict CertFault → Type 0
AnswerOf bytes answer = AnswersCertificate bytes answer ⊎ NamesWrongLine bytes answer

-- the numbers that a fault names: a line, or one or two places
abbrev pub fault_numbers : CertFault → List ℕ
fault_numbers (Form line) = line ∷ []
fault_numbers (TableNotSorted place) = place ∷ []
fault_numbers PlanEnds = []
fault_numbers (PlanStep p q) = p ∷ q ∷ []
fault_numbers PlanCost = []
fault_numbers PriceStart = []
fault_numbers (PriceStep p q) = p ∷ q ∷ []
fault_numbers EndReached = []
fault_numbers Memory = []

-- the line of an answer, without its line feed
abbrev pub answer_words : Result Verdict CertFault → List ℕ
answer_words (Ok (Cut cost)) = codes "cut" ++ spaced_numbers (cost ∷ [])
answer_words (Ok NoCut) = codes "none"
answer_words (Err f) = codes "refused " ++ (fault_name f ++ spaced_numbers (fault_numbers f))

-- the line of an answer
abbrev pub check_line : Result Verdict CertFault → List ℕ
check_line answer = answer_words answer ++ (10 ∷ [])
