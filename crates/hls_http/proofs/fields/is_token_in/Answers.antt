-- A piece is a token if it equals it in any case once the blanks around it are trimmed.
use Rattle.std.{proofs.{Common.{◌≡◌, ◌∙◌, ap, refl, rules}, lemmas.Str.Ascii.trim_ascii_is}, specs.Str.str_eq_ignore_ascii_case}
use Rattle.hls_http.proofs.fields.is_token_in.Goals as goal

pub returns : goal.returns
returns c =
    let same : c.eq_ignore_ascii_case.result ≡ str_eq_ignore_ascii_case c.trim_ascii.result.now c.args.word.now = search rules in
    same ∙ ap (λ piece. str_eq_ignore_ascii_case piece c.args.word.now) (trim_ascii_is c.args.piece.now c.trim_ascii.result.now _ refl c.trim_ascii.ensures.value)
