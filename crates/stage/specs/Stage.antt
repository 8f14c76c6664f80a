-- Where a run of `watch` stands, and what it says to a line that is no call (document 01, "A drill to prove"; docs/DECISIONS.md, reading 9): a
-- right first line is echoed, any line of another form is answered `?`, and such a first line ends the run. Bytes are their numbers in ASCII:
-- 10 ends a line, 63 is `?`. Assumes nothing.
use Rattle.std.specs.Prelude.{Bool, true, false, List, [], ◌∷◌, ◌++◌, Option, Some, None, ◌≡◌, ℕ}
use Rattle.text.specs.Puts.{Puts}
use Rattle.stage.specs.declared.Stage.{Stage}
use Rattle.stage.specs.declared.Stage.TheVariants.{First, Under, Over}
use Rattle.stage.specs.declared.Standing.{Standing}

-- no line is read any more
abbrev pub is_over : Stage → Bool
is_over First = false
is_over (Under s) = false
is_over Over = true

-- where the run stands once a line is answered, and the answer
pub record Said : Type 0 where
  pub stage : Stage
  pub kept : ℕ
  pub text : List ℕ

-- nothing is kept of a line that is answered
unfoldable pub says : Stage → List ℕ → Said
says next t = record { stage = next; kept = 0; text = t }

-- a line of another form
unfoldable pub other : Stage → Said
other next = says next (63 ∷ 10 ∷ [])

-- a first line, and the scheme that it names
unfoldable pub first : List ℕ → Option ℕ → Said
first l (Some s) = says (Under s) (l ++ (10 ∷ []))
first l None = other Over

-- ---- the promise

-- the run stands there, and the answer is put at the start of the slice that is lent for it, as far as there is room
pub record Says (s : Said) (out : List ℕ) (r : Standing) (out' : List ℕ) : Type 0 where
  pub stage : r.stage ≡ s.stage
  pub kept : r.kept ≡ s.kept
  pub puts : Puts out 0 s.text out' r.due
