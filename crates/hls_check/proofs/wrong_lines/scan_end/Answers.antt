-- After the last line of a certificate, the text is the certificate's if nothing follows; otherwise the next line is the first wrong one.
use Rattle.std.proofs.Common.{◌≡◌, ◌<◌, length, arith}
use Rattle.std.proofs.lemmas.Bool.Decides.{nat_tests}
use Rattle.hls_check.proofs.Wrongs.{is_whole, wrong_behind}
use Rattle.hls_check.proofs.wrong_lines.scan_end.Goals as goal

pub returns-then-is_empty : goal.returns-then-is_empty
returns-then-is_empty g = λ bytes c at.
    let none : length g.args.rest.now ≡ 0 = grind (arith, nat_tests) in
    record { certificate = c; is_certificate = at.is_stage; is = is_whole c bytes g.args.rest.now g.args.lines_read at none }

pub returns-else-is_empty : goal.returns-else-is_empty
returns-else-is_empty g = λ bytes c at.
    let some : 0 < length g.args.rest.now = grind (arith, nat_tests) in
    wrong_behind c bytes g.args.rest.now g.args.lines_read at some
