-- What a balance promises, and the numbers that it can work with (document 01, "Sheet, balance, tally"). Assumes nothing.
use Rattle.std.specs.Prelude.{◌≡◌, ℕ, ◌≤◌, ◌<◌, Result, Ok, Err}
use Rattle.ring.specs.Most.{most_relays, most_tablets}
use Rattle.rule.specs.declared.Refusal.{Refusal}
use Rattle.rule.specs.declared.Refusal.TheVariants.{Done}
use Rattle.rule.specs.declared.Reply.{Reply}
use Rattle.rule.specs.Refusals.{bare_reply}
use Rattle.rule.specs.Balance as Rule

-- what is not refused: p and q at most 1,000, tablets at most 4,096, relays at most 256, and no zero below the line
pub record InRange (p q tablets relays : ℕ) : Type 0 where
  pub some_q : 0 < q
  pub some_relays : 0 < relays
  pub few_p : p ≤ 1000
  pub few_q : q ≤ 1000
  pub few_tablets : tablets ≤ most_tablets
  pub few_relays : relays ≤ most_relays

-- a balance as the reply to it and every relay's limit
pub record Balanced : Type 0 where
  pub reply : Reply
  pub limit : ℕ

-- a limit comes with done, a refusal with 0
abbrev pub balanced_of : Result ℕ Refusal → Balanced
balanced_of (Ok limit) = record { reply = bare_reply Done; limit = limit }
balanced_of (Err why) = record { reply = bare_reply why; limit = 0 }

-- the reply has document 01's refusal, and 0 for the relay, the relays passed and the moves also when it is done; the limit is document 01's
pub record Balances (b : Rule.Balanced) (r : Balanced) : Type 0 where
  pub reply : r.reply ≡ bare_reply b.refusal
  pub limit : r.limit ≡ b.limit
