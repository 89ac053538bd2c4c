-- If the stream ends before a byte of the next head, none of its bytes is left unread.
use Rattle.std.proofs.{Common.{◌∙◌, ◌++◌, Some, sym, ap, arith}, lemmas.List.nil_from_length}
use Rattle.hls_http.{specs.BufferedReader.unread_of, proofs.HeadLaws.at_end}
use Rattle.hls_http.proofs.session.Session.next_head.Goals as goal

pub returns-in-Eof-clause-reads_head : goal.returns-in-Eof-clause-reads_head
returns-in-Eof-clause-reads_head g c = λ rest known.
    let e = at_end (unread_of c.args.self.now.source ++ rest) (unread_of c.loop-head.self.source) c.read_from.new.self.unread _ _ (c.loop-head.invariant.same rest known) c.in-Eof.ensures.reads in
    let none = sym e.1 ∙ nil_from_length c.read_from.new.self.unread (grind arith) in
    (none, e.2 ∙ ap Some none)
