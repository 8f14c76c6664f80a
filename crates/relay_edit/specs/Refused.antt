-- The refusals that come of a relay call's numbers (document 01, "Replies"), from whether the relay is there and whether the table is full.
-- Assumes nothing.
use Rattle.std.specs.Prelude.{Bool, not, [], ◌∷◌, ℕ, eqb, ltb}
use Rattle.ring.specs.Most.{most_limit}
use Rattle.rule.specs.declared.Refusal.{Refusal}
use Rattle.rule.specs.declared.Refusal.TheVariants.{NumberZero, TooLarge, NotThere, ThereAlready, NoUnusedPlace}
use Rattle.rule.specs.Refusals.{bar, first_bar}

-- what adding and setting both begin with
unfoldable pub numbers_refusal : ℕ → ℕ → Refusal
numbers_refusal r limit = first_bar (bar (eqb r 0) NumberZero ∷ bar (ltb most_limit limit) TooLarge ∷ [])

unfoldable pub add_refusal : ℕ → ℕ → Bool → Bool → Refusal
add_refusal r limit there full =
    first_bar (bar (eqb r 0) NumberZero ∷ bar (ltb most_limit limit) TooLarge ∷ bar there ThereAlready
    ∷ bar full NoUnusedPlace ∷ [])

unfoldable pub set_refusal : ℕ → ℕ → Bool → Refusal
set_refusal r limit there =
    first_bar (bar (eqb r 0) NumberZero ∷ bar (ltb most_limit limit) TooLarge ∷ bar (not there) NotThere ∷ [])
