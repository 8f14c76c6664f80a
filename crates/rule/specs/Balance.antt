-- The balanced limit (document 01, "Sheet, balance, tally"). Assumes nothing.
use Rattle.std.specs.Prelude.{◌||◌, cond, List, [], ◌∷◌, ℕ, ◌+◌, ◌-◌, ◌*◌, ◌/◌, min, eqb, ltb}
use Rattle.ring.specs.Most.{most_relays, most_tablets, most_limit}
use Rattle.rule.specs.declared.Refusal.{Refusal}
use Rattle.rule.specs.declared.Refusal.TheVariants.{NumberZero, TooLarge}
use Rattle.rule.specs.Refusals.{is_done, Bar, bar, first_bar}

pub record Balanced : Type 0 where
  pub refusal : Refusal
  pub limit : ℕ

-- p, q and relays must not be 0; p and q at most 1,000, p at least q, tablets at most 4,096, relays at most 256
abbrev pub balance_bars : ℕ → ℕ → ℕ → ℕ → List Bar
balance_bars p q tablets relays =
    bar (eqb p 0 || (eqb q 0 || eqb relays 0)) NumberZero
    ∷ bar (ltb 1000 p || (ltb 1000 q || (ltb p q || (ltb most_tablets tablets || ltb most_relays relays)))) TooLarge
    ∷ []

-- by rising number
unfoldable pub balance_refusal : ℕ → ℕ → ℕ → ℕ → Refusal
balance_refusal p q tablets relays = first_bar (balance_bars p q tablets relays)

-- a / b, rounded up
unfoldable pub rounded_up : ℕ → ℕ → ℕ
rounded_up a b = (a + (b - 1)) / b

unfoldable pub balanced_limit : ℕ → ℕ → ℕ → ℕ → ℕ
balanced_limit p q tablets relays = min (rounded_up (p * tablets) (q * relays)) most_limit

unfoldable pub balance : ℕ → ℕ → ℕ → ℕ → Balanced
balance p q tablets relays =
    let r : Refusal = balance_refusal p q tablets relays in
    record { refusal = r; limit = cond (is_done r) (balanced_limit p q tablets relays) 0 }
