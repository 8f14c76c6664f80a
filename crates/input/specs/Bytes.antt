-- What `watch` does for a byte (document 01, "A drill to prove"; docs/DECISIONS.md, reading 9): a newline (10) ends a line, of whose bytes as many
-- are kept as there is room for. Assumes nothing.
use Rattle.std.specs.Prelude.{true, false, cond, List, [], ◌≡◌, ℕ, ◌+◌, min, eqb, length, take, set}
use Rattle.call_start.specs.Promise.{Lists}
use Rattle.stage.specs.declared.Standing.{Standing}
use Rattle.stage.specs.Stage.{Said}
use Rattle.dialogue.specs.Lines.{Left, unchanged, answered, Shows}

-- a byte of a line is kept, and nothing is said to it
unfoldable pub keeping : Standing → List ℕ → Said
keeping at line = record { stage = at.stage; kept = min (at.kept + 1) (length line); text = [] }

-- a line ends: it is answered as the bytes that are kept of it
unfoldable pub taken : Standing → List ℕ → List ℕ → List ℕ → List ℕ → ℕ → Left
taken at rs ts ms line b =
    elim (eqb b 10) [
      | true ↦ answered at.stage rs ts ms (take at.kept line)
      | false ↦ unchanged rs ts ms (keeping at line)
    ]

-- what is kept stands at the start; a line that has ended is written over by the next
unfoldable pub line_then : Standing → List ℕ → ℕ → List ℕ
line_then at line b = cond (eqb b 10) line (set line at.kept b)

-- the answer and the lent lists are those, and so is what is kept
pub record Takes (at : Standing) (rs ts ms line out : List ℕ) (b : ℕ) (r : Standing) (l : Lists ℕ)
    (line' out' : List ℕ) : Type 0 where
  pub shows : Shows (taken at rs ts ms line b) out r l out'
  pub keeps : line' ≡ line_then at line b
