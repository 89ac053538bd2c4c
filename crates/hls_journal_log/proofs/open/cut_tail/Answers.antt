-- The disk is cut to `len` bytes if more follow, and else is left. So it has the first `len` bytes, and after the sync a crash leaves only these.
use Rattle.std.proofs.Common.{◌≡◌, ◌∙◌, take, ap, sym, arith}
use Rattle.std.proofs.lemmas.List.{take_all}
use Rattle.std.proofs.lemmas.Result.{on_ok_weaker}
use Rattle.hls_journal_log.proofs.Crashes.{file_after_cut}
use Rattle.hls_journal_log.proofs.open.cut_tail.Goals as goal
use Rattle.hls_journal_log.proofs.open.cut_tail.Goals.{then-dropped-gt0+in_ok-set_len, else-dropped-gt0}

pub returns-clause-cut : goal.returns-clause-cut
returns-clause-cut g c =
    on_ok_weaker c.sync.result
    (λ durable whole.
    let old = g.D.Disk.seen c.args.disk.now in
    let cut : g.D.Disk.seen c.if-dropped-gt0.disk ≡ take c.args.len (g.D.Disk.seen c.args.disk.now) =
    elim c.if-dropped-gt0.branch [
      | then-dropped-gt0+in_ok-set_len w ↦
          ap (λ d. g.D.Disk.seen d) w.disk-is
          ∙ file_after_cut old (g.D.Disk.seen w.set_len.new.self) c.args.len (omega (arith, whole, w.if-dropped-gt0.true)) w.in_ok-set_len.ensures.len w.in_ok-set_len.ensures.others
      | else-dropped-gt0 w ↦ ap (λ d. g.D.Disk.seen d) w.disk-is ∙ sym (take_all c.args.len old (omega (arith, whole, w.if-dropped-gt0.false)))
    ] in
    c.sync.ensures.seen ∙ cut)
    c.sync.ensures.durable
