-- The text of a reply's head (RFC 9112, section 4), and the out-of-memory reply.
use Rattle.std.specs.{Prelude.{ℕ, Bool, true, false, cond, List, [], ◌∷◌, ◌++◌, length, codes}, Fmt.decimal}
use Rattle.hls_http.specs.{declared.fault.HttpFault.HttpFault, declared.response_parts.Status.Status, declared.response_parts.ContentType.ContentType}
use Rattle.hls_http.specs.declared.response_parts.Status.TheVariants.{Done, Accepted, NoContent, PartialContent, BadRequest, NotFound, MethodNotAllowed, Conflict, Gone, ContentTooLarge, RangeNotSatisfiable, HeadTooLarge, Unavailable, InsufficientStorage}
use Rattle.hls_http.specs.declared.response_parts.ContentType.TheVariants.{Text, Media, Playlist}
use Rattle.hls_http.specs.{declared.response_parts.ExtraField.ExtraField, declared.response_parts.ResponseParts.ResponseParts}
use Rattle.hls_http.specs.declared.response_parts.CachePolicy.{CachePolicy}
use Rattle.hls_http.specs.declared.response_parts.CachePolicy.TheVariants.{Unstated, Immutable, Brief, Revalidate}
use Rattle.hls_http.specs.declared.response_parts.ExtraField.TheVariants.{Nothing, Range, NoRange, Job, Allow, Retry}
use Rattle.hls_http.specs.declared.fault.HttpFault.TheVariants as faults

-- the status of a fault, and its name as replies print it
abbrev pub fault_row : HttpFault → Status × List ℕ
fault_row faults.BadHead = (BadRequest, codes "BadHead")
fault_row faults.HeadTooLarge = (HeadTooLarge, codes "HeadTooLarge")
fault_row faults.BadFraming = (BadRequest, codes "BadFraming")
fault_row faults.TooLarge = (ContentTooLarge, codes "TooLarge")
fault_row faults.RangeOutside = (RangeNotSatisfiable, codes "RangeOutside")
fault_row faults.BadMethod = (MethodNotAllowed, codes "BadMethod")
fault_row faults.NotFound = (NotFound, codes "NotFound")
fault_row faults.Gone = (Gone, codes "Gone")
fault_row faults.Conflict = (Conflict, codes "Conflict")
fault_row faults.Memory = (Unavailable, codes "Memory")
fault_row faults.Full = (InsufficientStorage, codes "Full")

-- the status of the reply to a fault
abbrev pub fault_status : HttpFault → Status
fault_status fault = (fault_row fault).0

-- a fault's name as replies print it
abbrev pub fault_name : HttpFault → List ℕ
fault_name fault = (fault_row fault).1

-- CR LF, which ends a line of a head
abbrev pub crlf : List ℕ
crlf = 13 ∷ 10 ∷ []

-- the first line of a reply: the number and the phrase of a status (RFC 9110, section 15)
abbrev pub status_line : Status → List ℕ
status_line Done = codes "HTTP/1.1 200 OK" ++ crlf
status_line Accepted = codes "HTTP/1.1 202 Accepted" ++ crlf
status_line NoContent = codes "HTTP/1.1 204 No Content" ++ crlf
status_line PartialContent = codes "HTTP/1.1 206 Partial Content" ++ crlf
status_line BadRequest = codes "HTTP/1.1 400 Bad Request" ++ crlf
status_line NotFound = codes "HTTP/1.1 404 Not Found" ++ crlf
status_line MethodNotAllowed = codes "HTTP/1.1 405 Method Not Allowed" ++ crlf
status_line Conflict = codes "HTTP/1.1 409 Conflict" ++ crlf
status_line Gone = codes "HTTP/1.1 410 Gone" ++ crlf
status_line ContentTooLarge = codes "HTTP/1.1 413 Content Too Large" ++ crlf
status_line RangeNotSatisfiable = codes "HTTP/1.1 416 Range Not Satisfiable" ++ crlf
status_line HeadTooLarge = codes "HTTP/1.1 431 Request Header Fields Too Large" ++ crlf
status_line Unavailable = codes "HTTP/1.1 503 Service Unavailable" ++ crlf
status_line InsufficientStorage = codes "HTTP/1.1 507 Insufficient Storage" ++ crlf

-- the media type of a reply's body
abbrev pub kind_name : ContentType → List ℕ
kind_name Text = codes "text/plain"
kind_name Media = codes "video/mp4"
kind_name Playlist = codes "application/vnd.apple.mpegurl"

-- a 204 has neither Content-Type nor Content-Length (RFC 9110, section 8.6)
abbrev pub has_content : Status → Bool
has_content NoContent = false
has_content _ = true

-- what was asked for is returned or done (RFC 9110, section 15.3)
abbrev pub is_success : Status → Bool
is_success Done = true
is_success Accepted = true
is_success NoContent = true
is_success PartialContent = true
is_success _ = false

-- the Content-Type line
abbrev pub type_line : ContentType → List ℕ
type_line kind = codes "Content-Type: " ++ (kind_name kind ++ crlf)

-- Content-Type and Content-Length of a body of `len` bytes; a 204 has neither
abbrev pub content_lines : Status → ContentType → ℕ → List ℕ
content_lines status kind len =
    cond (has_content status) (type_line kind ++ (codes "Content-Length: " ++ (decimal len ++ crlf))) []

-- the line of a reply's extra field: at most one of Content-Range, Location, Allow and Retry-After
abbrev pub extra_line : ExtraField → List ℕ
extra_line Nothing = []
extra_line (Range first last total) =
    codes "Content-Range: bytes " ++ (decimal first ++ (codes "-" ++ (decimal last ++ (codes "/" ++ (decimal total ++ crlf)))))
extra_line (NoRange total) = codes "Content-Range: bytes */" ++ (decimal total ++ crlf)
extra_line (Job id) = codes "Location: /job/" ++ (decimal id ++ crlf)
extra_line (Allow methods) = codes "Allow: " ++ (methods.now ++ crlf)
extra_line (Retry seconds) = codes "Retry-After: " ++ (decimal seconds ++ crlf)

-- Cache-Control with these directives, and Access-Control-Allow-Origin for every origin
abbrev pub policy_line : List ℕ → List ℕ
policy_line directives = codes "Cache-Control: " ++ (directives ++ (crlf ++ (codes "Access-Control-Allow-Origin: *" ++ crlf)))

-- the lines of a cache policy: Cache-Control (RFC 9111, section 5.2.2), and that pages of any origin may read the reply
abbrev pub policy_lines : CachePolicy → List ℕ
policy_lines Unstated = []
policy_lines Immutable = policy_line (codes "public, max-age=86400, immutable")
policy_lines Brief = policy_line (codes "max-age=1")
policy_lines Revalidate = policy_line (codes "no-cache")

-- Connection: close, if the connection ends after the reply
abbrev pub close_line : Bool → List ℕ
close_line closing = cond closing (codes "Connection: close" ++ crlf) []

-- a reply's head, with a body of `len` bytes: status line, Content-Type, Content-Length, the extra field, Cache-Control,
-- Connection and the empty line
abbrev pub head_text_of : ResponseParts → ℕ → List ℕ
head_text_of head len =
    status_line head.status ++ (content_lines head.status head.kind len ++ (extra_line head.extra ++ (policy_lines head.policy ++ (close_line head.closing ++ crlf))))

-- the whole text of a reply whose body is a text; a reply to HEAD lacks the body
abbrev pub response_text : ResponseParts → List ℕ → Bool → List ℕ
response_text head body to_head = head_text_of head (length body) ++ cond to_head [] body

-- the body of a refusal
abbrev pub refusal_body : List ℕ → List ℕ
refusal_body name = codes "refused " ++ (name ++ 10 ∷ [])

-- the head of the out-of-memory reply: 503, closing, with a body of 15 bytes
unfoldable pub out_of_memory_head_text : List ℕ
out_of_memory_head_text = head_text_of (record { status = Unavailable; kind = Text; extra = Nothing; policy = Unstated; closing = true }) 15

-- the out-of-memory reply with its body, `refused Memory`
unfoldable pub out_of_memory_text : List ℕ
out_of_memory_text = out_of_memory_head_text ++ refusal_body (codes "Memory")

-- the out-of-memory reply; to HEAD without its body
abbrev pub out_of_memory_response : Bool → List ℕ
out_of_memory_response to_head = cond to_head out_of_memory_head_text out_of_memory_text

-- the text of 100 Continue (RFC 9110, section 15.2.1)
abbrev pub continue_text : List ℕ
continue_text = codes "HTTP/1.1 100 Continue" ++ (crlf ++ crlf)
