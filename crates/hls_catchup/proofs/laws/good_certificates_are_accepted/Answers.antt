-- The text of a valid certificate has no wrong line and is read as that certificate alone, and the checker's only result for it is acceptance.
use Rattle.std.proofs.Common.{Ok, refl, sym}
use Rattle.hls_check_tables.specs.Certificates.{ClaimData, CutClaim, NoneClaim, IsGoodOver}
use Rattle.hls_check_tables.specs.Tables.{Table}
use Rattle.hls_check.specs.CheckResults.{CheckResultOver}
use Rattle.hls_catchup.specs.AcceptedLaw.{verdict_of}
use Rattle.hls_catchup.proofs.laws.good_certificates_are_accepted.Goals as goal

-- for a good claim over a table, its acceptance is a result of the checker
good_answer : (t : Table) (shown : ClaimData) → IsGoodOver t shown → CheckResultOver t shown (Ok (verdict_of shown))
good_answer t (CutClaim total plan prices) good = (refl, good)
good_answer t (NoneClaim closed) good = good

pub returns : goal.returns
returns c = λ cert form good. record {
  form = form;
  read = λ found reading. c.text_is_unique.ensures found cert reading.0 form (sym reading.1);
  well_formed = λ line wrong. c.text_has_no_wrong_line.ensures cert line form wrong;
  answer = λ answer is. c.check_result_is_unique.ensures cert answer (Ok (verdict_of cert.shown)) form is (good_answer cert.table cert.shown good);
}
