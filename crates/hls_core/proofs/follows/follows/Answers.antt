-- The three tests, of configuration, log and kept bytes, decide whether b continues a, and between states that is whether b follows a.
use Rattle.std.proofs.Common.{◌≡◌, sym, ◌∙◌, length, take}
use Rattle.hls_core.proofs.Cited.{follows_of, continues_of}
use Rattle.hls_core.proofs.Compared.{continues_when}
use Rattle.hls_core.proofs.follows.follows.Goals as goal

pub returns-clause-continues : goal.returns-clause-continues
returns-clause-continues c =
    let config : c.args.a.now.config ≡ c.args.b.now.config =
    sym c.config.ensures.value ∙ c.same_config.ensures.0 c.if-not-same_config.false ∙ c.config-2.ensures.value in
    let front : take (length c.args.a.now.log) c.args.b.now.log ≡ c.args.a.now.log =
    rw (c.log.ensures.value, c.log-2.ensures.value) at c.is_prefix.ensures.0 c.if-not-is_prefix.false in (
      λ yes. continues_when c.args.a.now c.args.b.now config front (c.all_have_same_bytes.ensures.0 yes),
      λ continues. c.all_have_same_bytes.ensures.1 continues.same,
    )

pub returns-clause-follows : goal.returns-clause-follows
returns-clause-follows c =
    let same = returns-clause-continues c in (
      λ yes. follows_of c.args.a.now c.args.b.now c.config.ensures.valid c.config-2.ensures.valid (same.0 yes),
      λ follows. same.1 (continues_of c.args.a.now c.args.b.now follows),
    )
