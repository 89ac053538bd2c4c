-- The laws of a certificate's text.
use Rattle.std.specs.Prelude.{◌≡◌, ℕ, List}
use Rattle.hls_check_tables.specs.Certificates.{CertificateData, IsCertificate}
use Rattle.hls_check.specs.Text.{text}
use Rattle.hls_check.specs.WrongLines.{IsFirstWrongLine}

-- a text has at most one first wrong line
abbrev pub WrongLineIsUnique : Type 0
WrongLineIsUnique = (bytes : List ℕ) (m n : ℕ) → IsFirstWrongLine bytes m → IsFirstWrongLine bytes n → m ≡ n

-- a certificate's text has no wrong line
abbrev pub TextHasNoWrongLine : Type 0
TextHasNoWrongLine = (c : CertificateData) (n : ℕ) → IsCertificate c → IsFirstWrongLine (text c) n → ⊥

-- a text is the text of at most one certificate
abbrev pub TextIsUnique : Type 0
TextIsUnique = (c d : CertificateData) → IsCertificate c → IsCertificate d → text c ≡ text d → c ≡ d
