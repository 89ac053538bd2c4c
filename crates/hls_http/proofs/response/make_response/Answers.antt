-- The response to HEAD is the head alone, which gives the length of the content that isn't sent.
use Rattle.std.{proofs.Common.{◌∙◌, ◌++◌, ℕ, List, [], Bool, length, append-nil, ap, sym}, specs.Prelude.cond}
use Rattle.hls_http.specs.ResponseText.{head_text_of}
use Rattle.hls_http.proofs.response.make_response.Goals as goal

pub returns-then-to_head : goal.returns-then-to_head
returns-then-to_head g c =
    let head : List ℕ = head_text_of c.args.head.now (length c.args.content) in
    c.from_text.ensures ∙ c.in_ok-text.ensures ∙ ap (head_text_of c.args.head.now) c.len-len.ensures ∙ sym (append-nil head)
    ∙ ap (λ (b : Bool). head ++ cond b [] c.args.content) (sym c.if-to_head.true)
