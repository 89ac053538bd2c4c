-- A byte that isn't trimmed has a piece, and the part of it before `b` isn't empty.
use Rattle.std.proofs.Common.{◌≡◌, ◌∙◌, arith, sym, Some, None, length-take}
use Rattle.std.proofs.lemmas.List.{length-map}
use Rattle.hls_record.proofs.Pieces.{kept_piece, piece_bytes}
use Rattle.hls_record.proofs.recording.Recording.piece_up_to.Goals as goal

pub unreachable-requires : goal.unreachable-requires
unreachable-requires c =
    let piece = kept_piece c.args.self.now c.args.at c.requires.valid (omega arith) c.requires.kept in
    let wrong : None ≡ Some piece.0 = c.in-None.ensures ∙ piece.1 in cc

pub returns-clause-some : goal.returns-clause-some
returns-clause-some c =
    let bytes = piece_bytes c.args.self.now c.args.at c.in-Some.piece.now (sym c.in-Some.ensures) in
    simp length-take (omega (arith, simp length-map at bytes.some, c.min-few.ensures))
