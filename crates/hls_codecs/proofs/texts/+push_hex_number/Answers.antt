-- The digits before the last one are written first, if there are any (TextLaws).
use Rattle.std.proofs.Common.{append-nil, sym, arith}
use Rattle.hls_codecs.proofs.TextLaws.{hex-none, hex-pushed_last, hex-pushed_more}
use Rattle.hls_codecs.proofs.texts.+push_hex_number.Goals.{then-n-ge16+in_ok-push_hex_number, else-n-ge16}
use Rattle.hls_codecs.proofs.texts.+push_hex_number.Goals as goal

pub returns-then-most-eq0 : goal.returns-then-most-eq0
returns-then-most-eq0 t c = rw (hex-none c.args.most c.args.n c.if-most-eq0.true) (sym (append-nil c.args.out.now.items))

pub returns : goal.returns
returns t c =
    elim c.if-n-ge16.branch [
      | then-n-ge16+in_ok-push_hex_number w ↦ hex-pushed_more c.args.out.now.items c.if-n-ge16.out.items c.push.new.self.items c.hex_digit.result c.args.most c.args.n (omega arith) w.if-n-ge16.true
          (rw w.out-is w.in_ok-push_hex_number.ensures) c.in_ok-push.ensures.items c.hex_digit.ensures
      | else-n-ge16 w ↦ hex-pushed_last c.args.out.now.items c.push.new.self.items c.hex_digit.result c.args.most c.args.n (omega arith) w.if-n-ge16.false
          (rw w.out-is at c.in_ok-push.ensures.items) c.hex_digit.ensures
    ]
