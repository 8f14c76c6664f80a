-- What a move list names (document 01, "The lent tables"): every tablet of two rings whose relay differs, once, and nobody else. Assumes nothing.
use Rattle.std.specs.Prelude.{true, List, [], ◌∷◌, ◌⊎◌, ◌≡◌, ℕ}
use Rattle.rule.specs.declared.Move.{Move}
use Rattle.rule.specs.Entry.{has, beside_of}
use Rattle.rule.specs.Rule.{Ring}
use Rattle.rule.specs.Stability.{Rising}

-- m is one of the moves
abbrev pub Listed : Move → List Move → Type 0
Listed m [] = ⊥
Listed m (x ∷ xs) = (m ≡ x) ⊎ Listed m xs

abbrev pub tablets_listed : List Move → List ℕ
tablets_listed [] = []
tablets_listed (m ∷ ms) = m.tablet.0 ∷ tablets_listed ms

-- m is of a tablet of both rings, from its relay on the one to another on the other
pub record Moved (g h : Ring) (m : Move) : Type 0 where
  pub before : has g.tablets m.tablet.0 ≡ true
  pub now_there : has h.tablets m.tablet.0 ≡ true
  pub old : m.old.0 ≡ beside_of g.tablets m.tablet.0
  pub new : m.new.0 ≡ beside_of h.tablets m.tablet.0
  pub other : m.old.0 ≡ m.new.0 → ⊥

-- the moves from the one ring to the other: all, none but these, and each once, by rising tablet number
pub record Names (g h : Ring) (ms : List Move) : Type 0 where
  pub all : (m : Move) → Moved g h m → Listed m ms
  pub only : (m : Move) → Listed m ms → Moved g h m
  pub once : Rising 0 (tablets_listed ms)
