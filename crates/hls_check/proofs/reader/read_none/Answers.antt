-- A closed set completes a certificate if no text follows. Otherwise the line after its end is the first wrong one.
use Rattle.std.proofs.Common.{◌≡◌, ◌<◌, length, sym, arith}
use Rattle.std.proofs.lemmas.Bool.Decides.{nat_tests}
use Rattle.hls_check_tables.specs.Certificates.{NoneClaim}
use Rattle.hls_check.specs.Stages.{IsReadUpTo, AtEnd, certificate_with}
use Rattle.hls_check.proofs.Wrongs.{wrong_behind}
use Rattle.hls_check.proofs.Claims.{read_whole}
use Rattle.hls_check.proofs.reader.read_none.Goals as goal

pub returns-then-not-is_empty : goal.returns-then-not-is_empty
returns-then-not-is_empty c = λ bytes at.
    let read : IsReadUpTo (AtEnd (certificate_with c.args.table (NoneClaim c.in_ok-closed.closed.items))) bytes c.in_ok-closed.rest.now c.in_ok-closed.read =
    c.in_ok-closed.ensures.at bytes c.args.table (sym c.len.ensures.len) at in
    let some : 0 < length c.in_ok-closed.rest.now = grind (arith, nat_tests) in
    wrong_behind (certificate_with c.args.table (NoneClaim c.in_ok-closed.closed.items)) bytes c.in_ok-closed.rest.now c.in_ok-closed.read read some

pub returns : goal.returns
returns c = λ bytes at.
    let read : IsReadUpTo (AtEnd (certificate_with c.args.table (NoneClaim c.in_ok-closed.closed.items))) bytes c.in_ok-closed.rest.now c.in_ok-closed.read =
    c.in_ok-closed.ensures.at bytes c.args.table (sym c.len.ensures.len) at in
    let none : length c.in_ok-closed.rest.now ≡ 0 = grind (arith, nat_tests) in
    read_whole bytes c.in_ok-closed.rest.now (certificate_with c.args.table (NoneClaim c.in_ok-closed.closed.items)) c.new.result c.in_ok-closed.read
    c.new.ensures read none
