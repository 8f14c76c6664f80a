-- What `watch` does for a line (document 01, "A drill to prove"; docs/DECISIONS.md, reading 9): a call is made and answered, and any other line
-- leaves all that is lent. Assumes nothing.
use Rattle.std.specs.Prelude.{List, [], Option, Some, None, ◌≡◌, ℕ}
use Rattle.rule.specs.declared.Call.{Call}
use Rattle.rule.specs.declared.Reply.{Reply}
use Rattle.promise.specs.Promise.{After}
use Rattle.call_start.specs.Promise.{Lists, lists, after}
use Rattle.line.specs.Line.{meaning_of, scheme_of}
use Rattle.answer.specs.Text.{answer_text}
use Rattle.stage.specs.declared.Stage.{Stage}
use Rattle.stage.specs.declared.Stage.TheVariants.{First, Under, Over}
use Rattle.stage.specs.declared.Standing.{Standing}
use Rattle.stage.specs.Stage.{Said, says, other, first, Says}

-- what is said to a line, and the lists that are lent once it is answered
abbrev pub Left : Type 0
Left = After Said (Lists ℕ)

unfoldable pub unchanged : List ℕ → List ℕ → List ℕ → Said → Left
unchanged rs ts ms s = record { reply = s; lent = lists rs ts ms }

-- a call under a scheme leaves what it promises
unfoldable pub called : ℕ → After Reply (Lists ℕ) → Left
called s a = record { reply = says (Under s) (answer_text a.reply a.lent.moves); lent = a.lent }

-- a line behind the first, and what it means
unfoldable pub under : ℕ → List ℕ → List ℕ → List ℕ → Option Call → Left
under s rs ts ms (Some c) = called s (after s rs ts ms c)
under s rs ts ms None = unchanged rs ts ms (other (Under s))

-- any line; nothing is said once the run is over
unfoldable pub answered : Stage → List ℕ → List ℕ → List ℕ → List ℕ → Left
answered First rs ts ms l = unchanged rs ts ms (first l (scheme_of l))
answered (Under s) rs ts ms l = under s rs ts ms (meaning_of l)
answered Over rs ts ms l = unchanged rs ts ms (says Over [])

-- ---- the promise

-- the answer and the lent lists are those
pub record Shows (a : Left) (out : List ℕ) (r : Standing) (l : Lists ℕ) (out' : List ℕ) : Type 0 where
  pub answer : Says a.reply out r out'
  pub lent : l ≡ a.lent
