-- What `watch` prints for an input (document 01, "A drill to prove"; docs/DECISIONS.md, reading 9): its lines are answered one after the other. A
-- newline (10) ends a line, and a last line without one is a line. Assumes nothing.
use Rattle.std.specs.Prelude.{cond, List, [], ◌∷◌, ◌++◌, ℕ, eqb, ltb}
use Rattle.line.specs.Line.{onto}
use Rattle.stage.specs.declared.Stage.{Stage}
use Rattle.stage.specs.declared.Standing.{Standing}
use Rattle.dialogue.specs.Lines.{Left, answered}
use Rattle.input.specs.Bytes.{taken, line_then}

-- ---- by lines

unfoldable pub lines_of : List ℕ → List (List ℕ)
lines_of [] = []
lines_of (b ∷ bs) = cond (eqb b 10) ([] ∷ lines_of bs) (onto b (lines_of bs))

unfoldable pub printed : Stage → List ℕ → List ℕ → List ℕ → List (List ℕ) → List ℕ
printed next rs ts ms [] = []
printed next rs ts ms (l ∷ ls) =
    let a : Left = answered next rs ts ms l in
    a.reply.text ++ printed a.reply.stage a.lent.relays a.lent.tablets a.lent.moves ls

-- ---- by bytes

-- nothing is due any more once an answer is sent
unfoldable pub standing : Left → Standing
standing a = record { stage = a.reply.stage; kept = a.reply.kept; due = 0 }

-- a line that has not ended ends with the input
unfoldable pub sent : Standing → List ℕ → List ℕ → List ℕ → List ℕ → List ℕ → List ℕ
sent at rs ts ms line [] = cond (ltb 0 at.kept) (taken at rs ts ms line 10).reply.text []
sent at rs ts ms line (b ∷ bs) =
    let a : Left = taken at rs ts ms line b in
    a.reply.text ++ sent (standing a) a.lent.relays a.lent.tablets a.lent.moves (line_then at line b) bs
