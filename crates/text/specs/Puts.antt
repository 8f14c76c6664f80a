-- Bytes put into a lent slice (document 01, "A drill to prove", on what `watch` reads and prints). Assumes nothing.
use Rattle.std.specs.Prelude.{List, ◌≡◌, ℕ, ◌+◌, min, length}
use Rattle.std.proofs.lemmas.List.Edits.{sets}

-- these bytes put into a slice from a place on, as far as there is room, and the place behind them
pub record Puts (out : List ℕ) (at : ℕ) (text after : List ℕ) (next : ℕ) : Type 0 where
  pub places : after ≡ sets out at text
  pub behind : next ≡ min (at + length text) (length out)
