-- Once the text is sent, the media without their sent bytes wait; an owned text then takes copies of the next small slices.
use Rattle.std.proofs.{Common.{◌∙◌, ◌++◌, ap}, Math.Seq.drop-length}
use Rattle.hls_io.{specs.HeadTexts.bytes_of, proofs.Handed.media_left}
use Rattle.hls_io.proofs.send_buffer.SendBuffer.advance.Goals as goal

pub returns-in-Fixed : goal.returns-in-Fixed
returns-in-Fixed g c =
    ap (λ xs. xs ++ c.advance.new.self) (drop-length c.in-Fixed.text.now)
    ∙ media_left (bytes_of c.self.inside.text) c.as_slice.result.now c.in-Some.media c.advance.new.self c.args.self.now c.self.inside.media c.self.inside.sent c.args.count c.as_slice.ensures c.in-Some.is c.self.view_is c.if-count-unsent.false c.advance.ensures

pub returns-in-Owned : goal.returns-in-Owned
returns-in-Owned g c =
    c.gather_slices.ensures ∙ ap (λ xs. xs ++ c.advance.new.self) c.clear.ensures.items
    ∙ media_left (bytes_of c.self.inside.text) c.as_slice.result.now c.in-Some.media c.advance.new.self c.args.self.now c.self.inside.media c.self.inside.sent c.args.count c.as_slice.ensures c.in-Some.is c.self.view_is c.if-count-unsent.false c.advance.ensures
