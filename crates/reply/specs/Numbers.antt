-- A reply as numbers, in the order of the paper (document 01, "Replies"). Assumes nothing.
use Rattle.std.specs.Prelude.{List, [], ◌∷◌, ℕ}
use Rattle.rule.specs.declared.Reply.{Reply}
use Rattle.rule.specs.Refusals.{number_of}

unfoldable pub reply_numbers : Reply → List ℕ
reply_numbers r = number_of r.refusal ∷ r.relay.0 ∷ r.passed ∷ r.moves ∷ []
