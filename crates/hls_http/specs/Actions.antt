-- The order in which a request is examined: its fields, its path, its body, and only then the rest.
use Rattle.std.specs.Prelude.{ℕ, nat_lt, nat_eq, Bool, true, false, not, ◌||◌, ◌&&◌, cond, Result, Ok, Err}
use Rattle.httparse.specs.Grammar.{RequestHead}
use Rattle.hls_http.specs.{declared.framing.BodyFraming.BodyFraming, declared.fault.HttpFault.HttpFault, declared.request_action.RequestAction.RequestAction, Limits.discard_limit}
use Rattle.hls_http.specs.declared.{framing.BodyFraming.TheVariants.{Length, Data}, fault.HttpFault.TheVariants.{TooLarge, NotFound}}
use Rattle.hls_http.specs.{declared.request_action.RequestAction.TheVariants.{Refuse, Ingest, Discard}, Fields.{closes_connection, expects}}
use Rattle.hls_http.specs.Requests.{fields_of}

-- nothing of the body is left to read: a length of 0
abbrev pub is_over : BodyFraming → Bool
is_over (Length n) = nat_eq n 0
is_over _ = false

-- the number of bytes of a body that are known to be still to come
abbrev pub announced_len : BodyFraming → ℕ
announced_len (Length n) = n
announced_len (Data n) = n
announced_len _ = 0

-- the announced bytes exceed the limit of discarded bodies
abbrev pub exceeds_discard_limit : BodyFraming → Bool
exceeds_discard_limit body = nat_lt discard_limit (announced_len body)

-- the action for a request, by its framing or its fields' fault, whether its path is known, and whether its body is ingested in parts
abbrev pub action_by : Result BodyFraming HttpFault → Bool → Bool → RequestAction
action_by (Err fault) known ingests = Refuse fault true
action_by (Ok body) false ingests = Refuse NotFound (not (is_over body))
action_by (Ok body) true true = Ingest body
action_by (Ok body) true false = cond (exceeds_discard_limit body) (Refuse TooLarge true) (Discard body)

-- the action reads a body that isn't empty
abbrev pub reads_body : RequestAction → Bool
reads_body (Refuse fault closing) = false
reads_body (Ingest body) = not (is_over body)
reads_body (Discard body) = not (is_over body)

-- 100 Continue is sent if the client expects it and the action reads a body that isn't empty
abbrev pub sends_continue : RequestHead → RequestAction → Bool
sends_continue head action = expects head.minor (fields_of head) && reads_body action

-- a reply says `Connection: close` if it is sent before the body was read to its end, or if the request asks for it
abbrev pub sends_close : RequestHead → Bool → Bool
sends_close head early = early || closes_connection head.minor (fields_of head)
