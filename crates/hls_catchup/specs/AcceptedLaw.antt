-- A valid certificate, printed, is read back as itself, and the checker accepts it.
use Rattle.std.specs.Prelude.{◌≡◌, ℕ, Result, Ok, Err}
use Rattle.hls_check_tables.specs.declared.cert_fault.CertFault.{CertFault}
use Rattle.hls_check_tables.specs.declared.cert_fault.CertFault.TheVariants.{Form}
use Rattle.hls_check_tables.specs.declared.verdict.Verdict.{Verdict}
use Rattle.hls_check_tables.specs.declared.verdict.Verdict.TheVariants.{Cut, NoCut}
use Rattle.hls_check_tables.specs.Certificates.{ClaimData, CutClaim, NoneClaim, CertificateData, IsCertificate, IsGood}
use Rattle.hls_check.specs.Text.{text}
use Rattle.hls_check.specs.WrongLines.{IsReadResult}
use Rattle.hls_check.specs.CheckResults.{IsCheckResult}

-- the checker's acceptance of a claim: a plan with its cost, or that there is none
abbrev pub verdict_of : ClaimData → Verdict
verdict_of (CutClaim total plan prices) = Cut total
verdict_of (NoneClaim closed) = NoCut

-- reading the printed bytes yields the certificate itself and no wrong line, and the checker's only answer to it is acceptance
pub record IsAccepted (c : CertificateData) : Type 0 where
  pub form : IsCertificate c
  pub read : (found : CertificateData) → IsReadResult (text c) (Ok found) → found ≡ c
  pub well_formed : (line : ℕ) → IsReadResult (text c) (Err (Form line)) → ⊥
  pub answer : (answer : Result Verdict CertFault) → IsCheckResult c answer → answer ≡ Ok (verdict_of c.shown)

-- each valid certificate, printed, is read back as itself, and the checker accepts it
abbrev pub GoodCertificatesAreAccepted : Type 0
GoodCertificatesAreAccepted = (c : CertificateData) → IsCertificate c → IsGood c → IsAccepted c
