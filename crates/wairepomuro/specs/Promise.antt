-- What the C interface promises: the promise of the call, with the reply as four numbers and the refusal's number as the answer (document 01,
-- "Replies"). Assumes nothing.
use Rattle.std.specs.Prelude.{List, ◌≡◌, ℕ, Result, Ok, Err}
use Rattle.rule.specs.declared.Refusal.{Refusal}
use Rattle.rule.specs.declared.Refusal.TheVariants.{Done}
use Rattle.rule.specs.declared.Call.{Call}
use Rattle.rule.specs.declared.Reply.{Reply}
use Rattle.rule.specs.Refusals.{number_of}
use Rattle.rule.specs.Balance.{balance}
use Rattle.promise.specs.Promise.{After}
use Rattle.reply.specs.Numbers.{reply_numbers}
use Rattle.call_start.specs.Promise.{Lists}
use Rattle.sheet.specs.Promise as Sheet
use Rattle.stretch.specs.Promise.{stretch_of}
use Rattle.roster.specs.Reading.{Reading}
use Rattle.roster.specs.Reading as Roster
use Rattle.calls.specs.Promise.{counted_after}

-- the refusal's number as the answer, and what is handed out of the reply beside all that is lent
unfoldable pub served_call : ℕ → List ℕ → List ℕ → List ℕ → List ℕ → Call → After ℕ ((Lists ℕ × List ℕ) × List ℕ)
served_call s rs ts ms tally c =
    let a : After Reply (Lists ℕ × List ℕ) = counted_after s rs ts ms tally c in
    record { reply = number_of a.reply.refusal; lent = (a.lent, reply_numbers a.reply) }

-- the rest of the reply is 0 in every case
unfoldable pub served_sheet : ℕ → List ℕ → List ℕ → List ℕ → After ℕ (List ℕ)
served_sheet s rs ts lent =
    let a : After Reply (List ℕ) = Sheet.after s rs ts lent in
    record { reply = number_of a.reply.refusal; lent = a.lent }

-- and so it is of a reading, but for the scheme
unfoldable pub served_reading : List ℕ → List ℕ → List ℕ → After ℕ ((List ℕ × List ℕ) × ℕ)
served_reading b rs ts =
    let a : After Reading (List ℕ × List ℕ) = Roster.after b rs ts in
    record { reply = number_of a.reply.reply.refusal; lent = (a.lent, a.reply.scheme) }

-- the refusal of what was made, or done
abbrev pub refusal_of : Result ℕ Refusal → Refusal
refusal_of (Ok made) = Done
refusal_of (Err why) = why

-- the number answered, and the limit
pub record Shares (p q tablets relays answer out : ℕ) : Type 0 where
  pub answered : answer ≡ number_of (balance p q tablets relays).refusal
  pub limit : out ≡ (balance p q tablets relays).limit

-- the length answered, and the start: those of the part of the lent sheet
pub record Spans (s : ℕ) (rs ts lent : List ℕ) (relay answer out : ℕ) : Type 0 where
  pub len : answer ≡ (stretch_of s rs ts lent relay).len
  pub start : out ≡ (stretch_of s rs ts lent relay).start
