-- Both reasons for the end of a row, a length and a gap, exclude every step to later places.
use Rattle.std.proofs.Common.{◌≡◌, true, false, inl, inr, refl}
use Rattle.hls_check_tables.proofs.RowEnds.{none_past_end}
use Rattle.hls_check_tables.proofs.place_table.PlaceTable.is_row_end.Goals as goal

pub returns-then-is_too_long : goal.returns-then-is_too_long
returns-then-is_too_long c =
    let t = c.args.self.now in
    let far = rw (c.target.ensures, c.get.ensures, c.get-2.ensures, c.place-from.ensures, c.place-to.ensures)
    at c.is_too_long.ensures in
    let end = inl (far.0 c.if-is_too_long.true) in
    record {
      exact = ((λ _. end), (λ _. refl));
      none_after = λ _. none_past_end t c.len.ensures.valid c.len.ensures.orderly c.args.p c.args.q c.requires.from_in end;
    }

pub returns : goal.returns
returns c =
    let t = c.args.self.now in
    let far = rw (c.target.ensures, c.get.ensures, c.get-2.ensures, c.place-from.ensures, c.place-to.ensures)
    at c.is_too_long.ensures in
    let gap = rw (c.place-from.ensures, c.place-to.ensures) at c.is_past_gap.ensures in
    let near : c.is_too_long.result ≡ false = c.if-is_too_long.false in
    record {
      exact = (
        (λ past. inr (gap.0 past)),
        (λ end.
            elim end [
              | inl long ↦ (let yes : c.is_too_long.result ≡ true = far.1 long in cc)
              | inr broken ↦ gap.1 broken
            ]),
      );
      none_after = λ past.
          none_past_end t c.len.ensures.valid c.len.ensures.orderly c.args.p c.args.q c.requires.from_in
          (inr (gap.0 past));
    }
