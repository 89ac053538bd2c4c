-- A text begins with at most one body, one head and one request, and a stream has one list of requests.
use Rattle.hls_http.proofs.{BodyLaws.body_one, RequestLaws.streams_one, StayLaws.{heads_one, requests_one}}
use Rattle.hls_http.proofs.laws.requests_are_unique.Goals as goal

pub returns : goal.returns
returns c = record { bodies = body_one; heads = heads_one; requests = requests_one; streams = streams_one }
