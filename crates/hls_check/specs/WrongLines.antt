-- The first wrong line of a text that isn't a certificate's.
use Rattle.std.specs.Prelude.{◌≡◌, ℕ, ◌+◌, List, [], ◌∷◌, ◌++◌, length, Result, Ok, Err}
use Rattle.hls_check_tables.specs.declared.cert_fault.CertFault.{CertFault}
use Rattle.hls_check_tables.specs.declared.cert_fault.CertFault.TheVariants.{Form, TableNotSorted, PlanEnds, PlanStep, PlanCost, PriceStart, PriceStep, EndReached, Memory}
use Rattle.hls_check_tables.specs.Certificates.{CertificateData, IsCertificate}
use Rattle.hls_text.specs.Lines.{cut_text}
use Rattle.hls_check.specs.Text.{lines, text}

-- some certificate's text begins with these lines
pub record BeginsCertificate (front : List (List ℕ)) : Type 0 where
  pub certificate : CertificateData
  pub is_certificate : IsCertificate certificate
  pub more : List (List ℕ)
  pub is : lines certificate ≡ front ++ more

-- Line n, from 1, is the first wrong line: the lines before it begin some certificate's text. If line n is there and ends with LF, then
-- with it they don't. Otherwise it is missing, or lacks its LF.
pub record IsFirstWrongLine (bytes : List ℕ) (n : ℕ) : Type 0 where
  pub before : List (List ℕ)
  pub rest : List (List ℕ)
  pub is : (cut_text bytes).lines ≡ before ++ rest
  pub number : n ≡ length before + 1
  pub begins : BeginsCertificate before
  pub wrong : (line : List ℕ) (after : List (List ℕ)) → rest ≡ line ∷ after → BeginsCertificate (before ++ (line ∷ [])) → ⊥
  pub no_text : (c : CertificateData) → IsCertificate c → bytes ≡ text c → ⊥

-- a text is that of some certificate
pub record IsCertificateText (bytes : List ℕ) : Type 0 where
  pub certificate : CertificateData
  pub is_certificate : IsCertificate certificate
  pub is : bytes ≡ text certificate

-- a fault of reading: a wrong line, for which the first holds, or an allocation failure, for which the second holds
abbrev pub IsReadFault : (ℕ → Type 0) → Type 0 → CertFault → Type 0
IsReadFault OfLine OfMemory (Form n) = OfLine n
IsReadFault OfLine OfMemory Memory = OfMemory
IsReadFault OfLine OfMemory (TableNotSorted place) = ⊥
IsReadFault OfLine OfMemory PlanEnds = ⊥
IsReadFault OfLine OfMemory (PlanStep p q) = ⊥
IsReadFault OfLine OfMemory PlanCost = ⊥
IsReadFault OfLine OfMemory PriceStart = ⊥
IsReadFault OfLine OfMemory (PriceStep p q) = ⊥
IsReadFault OfLine OfMemory EndReached = ⊥

-- the result of reading a text: its certificate, or its first wrong line. An allocation failure is possible only if the text is a
-- certificate's
abbrev pub IsReadResult : List ℕ → Result CertificateData CertFault → Type 0
IsReadResult bytes (Ok c) = IsCertificate c × (bytes ≡ text c)
IsReadResult bytes (Err fault) = IsReadFault (IsFirstWrongLine bytes) (IsCertificateText bytes) fault

-- the result is this certificate, or an allocation failure
abbrev pub IsCertificateOrMemory : CertificateData → Result CertificateData CertFault → Type 0
IsCertificateOrMemory c (Ok d) = d ≡ c
IsCertificateOrMemory c (Err fault) = IsReadFault (λ n. ⊥) (Unit {0}) fault
