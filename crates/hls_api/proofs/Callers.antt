-- The lemmas that other crates cite, passed on from one place. Declares nothing.
pub use Rattle.hls_api.proofs.Acting.{acted_none, acted_on, player_served}
pub use Rattle.hls_api.proofs.Linking.{acted_follows, later_itself, linked_acted, linked_follows, linked_later}
pub use Rattle.hls_api.proofs.Recents.{lists_looked, lists_submitted}
