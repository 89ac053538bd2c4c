-- No fragment before the position is an entry, and the position is at one or after all fragments, so it is at the first entry.
use Rattle.std.proofs.Common.{arith}
use Rattle.hls_places.proofs.Cited.{first_entry-is}
use Rattle.hls_places.proofs.search.seek_entry.Goals as goal

pub returns-then-is_entry : goal.returns-then-is_entry
returns-then-is_entry c = record {
  run = c.loop-search_position.invariant.run;
  found = first_entry-is c.args.low c.args.recording.now.facts c.loop-search_position.search_position.at
      c.loop-search_position.invariant.run.within c.loop-search_position.invariant.early (λ within. rw (← c.get_facts.ensures, ← c.is_entry.ensures) c.if-is_entry.true);
}

pub returns : goal.returns
returns c = record {
  run = c.loop-search_position.invariant.run;
  found = first_entry-is c.args.low c.args.recording.now.facts c.loop-search_position.search_position.at
      c.loop-search_position.invariant.run.within c.loop-search_position.invariant.early (λ within. absurd (omega (arith, c.count-count.ensures.value)));
}
