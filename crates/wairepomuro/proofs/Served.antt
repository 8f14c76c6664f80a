-- From a call's own promise to that of the C interface.
--   serves_call, serves_sheet, serves_reading
-- Assumes nothing.
use mathlib.Core.List.{List}
use mathlib.Core.Path.{◌≡◌, refl, ap, ◌∙◌}
use Prim.Native.Nat.{ℕ}
use Rattle.std.specs.Prelude.{Result, Ok, Err}
use Rattle.std.specs.Result.{result_unwrap_or}
use Rattle.rule.specs.declared.Refusal.{Refusal}
use Rattle.rule.specs.declared.Call.{Call}
use Rattle.rule.specs.declared.Reply.{Reply}
use Rattle.rule.specs.Refusals.{number_of}
use Rattle.promise.specs.Promise.{Answers}
use Rattle.reply.specs.Numbers.{reply_numbers}
use Rattle.call_start.specs.Promise.{Lists}
use Rattle.sheet.specs.Promise as Sheet
use Rattle.roster.specs.Reading.{Reading}
use Rattle.roster.specs.Reading as Roster
use Rattle.calls.specs.Promise.{counted_after}
use Rattle.wairepomuro.specs.Promise.{served_call, served_sheet, served_reading, refusal_of}

pub serves_call : (s : ℕ) (rs ts ms tally : List ℕ) (c : Call) {r : Reply} {l : Lists ℕ × List ℕ} {x : ℕ}
    {reply : List ℕ}
    → Answers (counted_after s rs ts ms tally c) r l → (x ≡ number_of r.refusal) × (reply ≡ reply_numbers r)
    → Answers (served_call s rs ts ms tally c) x (l, reply)
unfolding served_call
serves_call s rs ts ms tally c a n =
    record {
      reply = n.0 ∙ ap (λ (r : Reply). number_of r.refusal) a.reply;
      lent = λ i. (a.lent i, (n.1 ∙ ap reply_numbers a.reply) i);
    }

pub serves_sheet : (s : ℕ) (rs ts lent : List ℕ) {r : Reply} {lent' : List ℕ} {x : ℕ}
    → Answers (Sheet.after s rs ts lent) r lent' → x ≡ number_of r.refusal
    → Answers (served_sheet s rs ts lent) x lent'
unfolding served_sheet
serves_sheet s rs ts lent a e =
    record { reply = e ∙ ap (λ (r : Reply). number_of r.refusal) a.reply; lent = a.lent }

-- the number and the scheme of what was made are its reading's
numbered : (made : Result ℕ Refusal) → refusal_of made ≡ (Roster.reading_of made).reply.refusal
numbered (Ok scheme) = refl
numbered (Err why) = refl

schemed : (made : Result ℕ Refusal) → result_unwrap_or made 0 ≡ (Roster.reading_of made).scheme
schemed (Ok scheme) = refl
schemed (Err why) = refl

pub serves_reading : (b rs ts : List ℕ) (made : Result ℕ Refusal) {l : List ℕ × List ℕ} {x scheme : ℕ}
    → Answers (Roster.after b rs ts) (Roster.reading_of made) l
    → x ≡ number_of (refusal_of made) → scheme ≡ result_unwrap_or made 0
    → Answers (served_reading b rs ts) x (l, scheme)
unfolding served_reading
serves_reading b rs ts made a e f =
    record {
      reply = e ∙ ap number_of (numbered made) ∙ ap (λ (r : Reading). number_of r.reply.refusal) a.reply;
      lent = λ i. (a.lent i, (f ∙ schemed made ∙ ap (λ (r : Reading). r.scheme) a.reply) i);
    }
