-- The numbers that a balance can work with.
--   parts_some          the divisor is not 0
--   in_range            what is not refused is within range
--   balances_refused    what is refused has no limit
--   rounded             the library's quotient, rounded up, is document 01's
-- Assumes nothing.
use mathlib.Core.Bool.{true}
use mathlib.Core.Path.{◌≡◌, sym, ap}
use Prim.Native.Nat.{ℕ, ◌*◌, ◌<◌}
use native.Mathlib.Nat.{mul-pos}
use native.Mathlib.Omega.{arith}
use Rattle.std.specs.Int.{div_ceil}
use Rattle.std.proofs.lemmas.Grind.{common_steps}
use Rattle.rule.specs.declared.Refusal.{Refusal}
use Rattle.std.specs.Prelude.{false, Err}
use Rattle.rule.specs.Refusals.{is_done, bare_reply, first_bar}
use Rattle.rule.specs.Balance.{balance_refusal, rounded_up, balance}
use Rattle.balance.specs.Promise.{InRange, Balances, balanced_of}

pub parts_some : {p q tablets relays : ℕ} → InRange p q tablets relays → 0 < q * relays
parts_some r = mul-pos r.some_q r.some_relays

-- ---- what is not refused

module _ (p q tablets relays : ℕ) where
  pub in_range : is_done (balance_refusal p q tablets relays) ≡ true → InRange p q tablets relays
  unfolding balance_refusal first_bar is_done
  in_range d =
      record {
        some_q = grind (arith, common_steps, d);
        some_relays = grind (arith, common_steps, d);
        few_p = grind (arith, common_steps, d);
        few_q = grind (arith, common_steps, d);
        few_tablets = grind (arith, common_steps, d);
        few_relays = grind (arith, common_steps, d);
      }

  -- ---- what is refused

  pub balances_refused : {why : Refusal} → (balance_refusal p q tablets relays ≡ why) × (is_done why ≡ false)
      → Balances (balance p q tablets relays) (balanced_of (Err why))
  unfolding balance
  balances_refused r = record { reply = ap bare_reply (sym r.0); limit = rw (r.0, r.1) }

-- ---- the share

pub rounded : (a b : ℕ) → 0 < b → rounded_up a b ≡ div_ceil a b
unfolding rounded_up
rounded a b h = grind (arith, common_steps)
