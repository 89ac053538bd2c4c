-- An output that was sent to its end has no bytes, like the new one that replaces it.
use Rattle.std.proofs.{Common.{◌∙◌, length, sym}, lemmas.{Bool.eqb-true, List.nil_from_length}}
use Rattle.hls_connection.proofs.machine.clear_sent.Goals as goal

pub returns-then-is_empty : goal.returns-then-is_empty
returns-then-is_empty c = c.replace.ensures ∙ c.new.ensures ∙ sym (nil_from_length c.args.output.now (eqb-true (length c.args.output.now) 0 (sym c.if-is_empty.ensures)))
