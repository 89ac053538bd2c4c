-- The event is applied to the state itself, as nobody else acts on it.
use Rattle.std.proofs.Common.{inl, refl}
use Rattle.hls_core_laws.specs.Outcome.{Refused, Repeated}
use Rattle.hls_connection.proofs.alone.meet.Goals as goal

pub returns-in-Err-clause-submits : goal.returns-in-Err-clause-submits
returns-in-Err-clause-submits c = record {
  number = refl;
  met = c.args.snapshot.now.value;
  outcome = Refused c.in-Err.refusal;
  follows = inl refl;
  entries = refl;
  moves = rw c.deref-2.ensures at c.in-Err.ensures;
  answers = (refl, refl);
}

pub returns-in-Err-clause-met : goal.returns-in-Err-clause-met
returns-in-Err-clause-met c = record {
  met = c.args.snapshot.now.value;
  outcome = Refused c.in-Err.refusal;
  between = refl;
  moves = rw c.deref-2.ensures at c.in-Err.ensures;
}

pub returns-in-Ok-Repeat-clause-submits : goal.returns-in-Ok-Repeat-clause-submits
returns-in-Ok-Repeat-clause-submits c = record {
  number = refl;
  met = c.args.snapshot.now.value;
  outcome = Repeated;
  follows = inl refl;
  entries = refl;
  moves = rw (c.in-Ok-Repeat.field-0-is, c.deref-2.ensures) at c.in-Ok-Repeat.ensures;
  answers = (refl, refl);
}
