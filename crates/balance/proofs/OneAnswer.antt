-- What follows from the promise.
--   balances_one    it binds: two results that it allows for the same numbers are equal
--   balanced_one    so are two replies, with what is answered beside them
--   rounds_up       the least that covers a, b at a time
--   balance_none    no tablets gives 0
-- Assumes nothing.
use mathlib.Core.Path.{◌≡◌, ap, sym, ◌∙◌}
use Prim.Native.Nat.{ℕ, ◌+◌, ◌-◌, ◌*◌, ◌/◌, ◌≤◌, ◌<◌}
use native.Mathlib.Nat.{div-eq_of_lt}
use Rattle.std.proofs.lemmas.Grind.{div_ceil_times}
use native.Mathlib.Omega.{arith}
use Rattle.std.specs.Prelude.{Result, Ok, Err, IfErr}
use mathlib.Core.Bool.{false}
use Rattle.rule.specs.declared.Refusal.{Refusal}
use Rattle.rule.specs.declared.Refusal.TheVariants.{Done}
use Rattle.rule.specs.declared.Reply.{Reply}
use Rattle.ring.proofs.Tests.{split, true_false}
use Rattle.rule.specs.Refusals.{is_done, bare_reply}
use Rattle.rule.specs.Balance.{balance_refusal, rounded_up, balanced_limit, balance}
use Rattle.rule.specs.Balance as Rule
use Rattle.balance.specs.Promise.{Balanced, Balances, balanced_of}
use Rattle.balance.proofs.Ranges.{parts_some, in_range, rounded}

pub balanced_one : {b : Rule.Balanced} {r s : Balanced} → Balances b r → Balances b s → r ≡ s
balanced_one {b} {r} {s} x y =
    let e : r.reply ≡ s.reply = x.reply ∙ sym y.reply in
    let l : r.limit ≡ s.limit = x.limit ∙ sym y.limit in
    λ i. record { reply = e i; limit = l i }

not_refused : {why : Refusal} → bare_reply Done ≡ bare_reply why → is_done why ≡ false → ⊥
unfolding is_done
not_refused e f = true_false (ap (λ (r : Reply). is_done r.refusal) e ∙ f)

pub balances_one : {b : Rule.Balanced} (x y : Result ℕ Refusal) → Balances b (balanced_of x) → Balances b (balanced_of y)
    → IfErr x (λ why. is_done why ≡ false) → IfErr y (λ why. is_done why ≡ false) → x ≡ y
balances_one (Ok x) (Ok y) p q f g = ap Ok (p.limit ∙ sym q.limit)
balances_one (Ok x) (Err y) p q f g = absurd (not_refused (p.reply ∙ sym q.reply) g)
balances_one (Err x) (Ok y) p q f g = absurd (not_refused (q.reply ∙ sym p.reply) f)
balances_one (Err x) (Err y) p q f g = ap (λ (r : Reply). Err r.refusal) (p.reply ∙ sym q.reply)

pub rounds_up : (a b : ℕ) → 0 < b → (a ≤ rounded_up a b * b) × (rounded_up a b * b < a + b)
rounds_up a b h = rw (rounded a b h) (div_ceil_times a b h)

pub balance_none : (p q relays : ℕ) → (balance p q 0 relays).limit ≡ 0
unfolding balance balanced_limit rounded_up
balance_none p q relays =
    split (is_done (balance_refusal p q 0 relays))
    (λ d.
    let z : (p * 0 + (q * relays - 1)) / (q * relays)
    ≡ 0 = div-eq_of_lt (omega (arith, parts_some (in_range p q 0 relays d))) in
    rw (d, z) (omega arith))
    (λ d. rw d)
