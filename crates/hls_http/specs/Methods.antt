-- Which method a name is (RFC 9110, section 9.1).
use Rattle.std.specs.Prelude.{ℕ, List, cond, bytes_eq, codes}
use Rattle.hls_http.specs.declared.method.Method.{Method}
use Rattle.hls_http.specs.declared.method.Method.TheVariants as methods

-- the method that a name is; case matters, and every other name is `Other`
abbrev pub method_of : List ℕ → Method
method_of name =
    cond (bytes_eq name (codes "GET")) methods.Get
    (cond (bytes_eq name (codes "HEAD")) methods.Head
    (cond (bytes_eq name (codes "POST")) methods.Post
    (cond (bytes_eq name (codes "PUT")) methods.Put
    (cond (bytes_eq name (codes "DELETE")) methods.Delete methods.Other))))
