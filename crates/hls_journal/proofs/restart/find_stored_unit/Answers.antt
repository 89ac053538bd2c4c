-- If the last piece that begins at the offset or before it has the unit, that is the stored one. If it hasn't, or no piece begins so early,
-- the media don't have the unit, provided that their pieces are in order.
use Rattle.std.proofs.Common.{ap, subst, List, ℕ}
use Rattle.std.specs.Option.{option_copied}
use Rattle.std.proofs.lemmas.Result.{IfOk-weaker, IfErr-weaker}
use Rattle.hls_journal_laws.specs.declared.stored_media.MediaPiece.{MediaPiece}
use Rattle.hls_journal.specs.declared.fault.RecallFault.{RecallFault}
use Rattle.hls_journal.specs.Pieces.{IsBeforePieces, IsPieceAt}
use Rattle.hls_journal.proofs.Pieces.{none_stored, stored_in_piece, piece_fault}
use Rattle.hls_journal.proofs.restart.find_stored_unit.Goals as goal

pub returns-in_default-find_piece-clause-fault : goal.returns-in_default-find_piece-clause-fault
returns-in_default-find_piece-clause-fault c = λ order bytes stored.
    none_stored (option_copied c.args.media) c.in-Some.stored.now c.args.at c.args.body.now bytes (ap (λ o. option_copied o) c.in-Some.is)
    (subst (λ (ps : List MediaPiece). IsBeforePieces ps c.args.at) c.deref.ensures.value c.in_default-find_piece.ensures) order stored

pub returns-clause-unit : goal.returns-clause-unit
returns-clause-unit c =
    let found = subst (λ (ps : List MediaPiece). IsPieceAt ps c.args.at c.in-Some-find_piece.piece.now) c.deref.ensures.value c.in-Some-find_piece.ensures in
    IfOk-weaker _ _ _
    (λ (bytes : List ℕ) has. stored_in_piece (option_copied c.args.media) c.in-Some.stored.now c.args.at c.in-Some-find_piece.piece.now c.args.body.now bytes (ap (λ o. option_copied o) c.in-Some.is) found has)
    c.read_piece.ensures.unit

pub returns-clause-fault : goal.returns-clause-fault
returns-clause-fault c =
    let found = subst (λ (ps : List MediaPiece). IsPieceAt ps c.args.at c.in-Some-find_piece.piece.now) c.deref.ensures.value c.in-Some-find_piece.ensures in
    IfErr-weaker _ _ _
    (λ (fault : RecallFault) is. piece_fault (option_copied c.args.media) c.in-Some.stored.now c.args.at c.in-Some-find_piece.piece.now c.args.body.now fault (ap (λ o. option_copied o) c.in-Some.is) found c.requires.some is)
    c.read_piece.ensures.fault
