-- The promises of the C interface bind: two answers that a promise allows for one call are equal, with all that is lent afterwards.
--   shares_one, spans_one    balance and stretch; of the others `answers_one` in `promise` says so
-- Assumes nothing.
use mathlib.Core.List.{List}
use mathlib.Core.Path.{◌≡◌, sym, ◌∙◌}
use Prim.Native.Nat.{ℕ}
use Rattle.wairepomuro.specs.Promise.{Shares, Spans}

-- the number answered, and the limit
pub shares_one : {p q tablets relays x x' out out' : ℕ} → Shares p q tablets relays x out
    → Shares p q tablets relays x' out' → (x ≡ x') × (out ≡ out')
shares_one a b = (a.answered ∙ sym b.answered, a.limit ∙ sym b.limit)

module _ {s : ℕ} {rs ts lent : List ℕ} where
  -- the length answered, and the start
  pub spans_one : {relay x x' out out' : ℕ} → Spans s rs ts lent relay x out → Spans s rs ts lent relay x' out'
      → (x ≡ x') × (out ≡ out')
  spans_one a b = (a.len ∙ sym b.len, a.start ∙ sym b.start)
