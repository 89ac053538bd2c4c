-- The lemmas that other crates cite, passed on from one place. Declares nothing.
pub use Rattle.hls_http.proofs.StayLaws.{broken_bodies_stay, heads_stay, line_stays, runs_join, runs_stay, step_stays}
pub use Rattle.hls_http.proofs.{SendLaws.writes_whole, BodyLaws.{Leaves, body_taken, cut, run_one, runs_leave, some_line, some_section}}
