-- The law of the checker's results.
use Rattle.std.specs.Prelude.{◌≡◌, Result}
use Rattle.hls_check_tables.specs.declared.cert_fault.CertFault.{CertFault}
use Rattle.hls_check_tables.specs.declared.verdict.Verdict.{Verdict}
use Rattle.hls_check_tables.specs.Certificates.{CertificateData, IsCertificate}
use Rattle.hls_check.specs.CheckResults.{IsCheckResult}

-- a certificate has at most one result: of several faults only the first is reported
abbrev pub CheckResultIsUnique : Type 0
CheckResultIsUnique =
    (c : CertificateData) (one other : Result Verdict CertFault) →
    IsCertificate c → IsCheckResult c one → IsCheckResult c other → one ≡ other
