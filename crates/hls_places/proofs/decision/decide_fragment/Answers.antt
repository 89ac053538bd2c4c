-- By the lemmas of Lookings: an unsettled rendition leaves the fragment undecided; else its spots, or the lack of them, decide it.
use Rattle.std.proofs.Common.{◌∙◌, sym, arith}
use Rattle.std.proofs.lemmas.Bool.{not-false}
use Rattle.hls_places.proofs.Lookings.{search_positions-early, left-at, told-some, told-none}
use Rattle.hls_places.proofs.decision.decide_fragment.Goals as goal

pub seek_entries-requires-clause-early : goal.seek_entries-requires-clause-early
seek_entries-requires-clause-early c =
    search_positions-early c.args.renditions.now c.args.done c.args.search_positions.now c.get_facts-facts.result (record {
      order = c.requires.order;
      more = c.requires.more;
      cursor = c.requires.cursor;
      facts_are = rw (← c.recording.ensures) c.get_facts-facts.ensures;
    })

pub returns-in-Some : goal.returns-in-Some
returns-in-Some c =
    left-at c.args.renditions.now c.args.done c.in-Some.field-0 c.args.search_positions.now c.seek_entries.new.search_positions c.get_facts-facts.result
    c.args.places.now.items (record {
      order = c.requires.order;
      more = c.requires.more;
      cursor = c.requires.cursor;
      facts_are = rw (← c.recording.ensures) c.get_facts-facts.ensures;
    })
    (omega (arith, c.seek_entries.auto.search_positions, c.requires.cursor.count)) c.seek_entries.ensures c.in-Some.ensures

pub returns-in_ok-push : goal.returns-in_ok-push
returns-in_ok-push c =
    told-some c.args.renditions.now c.args.done c.args.search_positions.now c.seek_entries.new.search_positions c.get_facts-facts.result c.in-Some-2.spots
    c.args.places.now.items c.push.new.self.items (record {
      order = c.requires.order;
      more = c.requires.more;
      cursor = c.requires.cursor;
      facts_are = rw (← c.recording.ensures) c.get_facts-facts.ensures;
    })
    (omega (arith, c.seek_entries.auto.search_positions, c.requires.cursor.count)) c.seek_entries.ensures c.in_default.ensures
    (not-false c.get_facts-facts.result.sync c.if-not-facts.false)
    (sym c.in_ok-spots.ensures ∙ c.in-Some-2.is) c.in_ok-push.ensures.items

pub returns-in_default-2 : goal.returns-in_default-2
returns-in_default-2 c =
    told-none c.args.renditions.now c.args.done c.args.search_positions.now c.seek_entries.new.search_positions c.get_facts-facts.result
    c.args.places.now.items (record {
      order = c.requires.order;
      more = c.requires.more;
      cursor = c.requires.cursor;
      facts_are = rw (← c.recording.ensures) c.get_facts-facts.ensures;
    })
    (omega (arith, c.seek_entries.auto.search_positions, c.requires.cursor.count)) c.seek_entries.ensures c.in_default.ensures
    (not-false c.get_facts-facts.result.sync c.if-not-facts.false) (sym c.in_ok-spots.ensures ∙ c.in_default-2.is)
