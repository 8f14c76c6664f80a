-- What a station counts (document 01, "Sheet, balance, tally"). Assumes nothing.
use Rattle.std.specs.Prelude.{true, false, List, [], ◌∷◌, ℕ, ◌+◌, ◌^◌, ◌<◌, min}
use Rattle.ring.specs.Most.{top_number}
use Rattle.ring.specs.Scheme.{Positions}
use Rattle.rule.specs.declared.Call.{Call}
use Rattle.rule.specs.declared.Call.TheVariants.{Add, Remove, Set, Enrol, Withdraw, Find}
use Rattle.rule.specs.declared.Reply.{Reply}
use Rattle.rule.specs.declared.Tally.{Tally}
use Rattle.rule.specs.Rule.{Ring}
use Rattle.rule.specs.Refusals.{is_done}
use Rattle.rule.specs.Calls.{Lent, subject, refusal, Outcome, outcome}

-- each count stops here
abbrev pub most_counted : ℕ
most_counted = top_number

unfoldable pub more : ℕ → ℕ → ℕ
more count by = min (count + by) most_counted

abbrev pub enrolments : Call → ℕ
enrolments (Add r limit) = 0
enrolments (Remove r) = 0
enrolments (Set r limit) = 0
enrolments (Enrol t) = 1
enrolments (Withdraw t) = 0
enrolments (Find t) = 0

abbrev pub withdrawals : Call → ℕ
withdrawals (Add r limit) = 0
withdrawals (Remove r) = 0
withdrawals (Set r limit) = 0
withdrawals (Enrol t) = 0
withdrawals (Withdraw t) = 1
withdrawals (Find t) = 0

-- an accepted call is counted with its moves; a refused one adds one to the refusals and nothing else
unfoldable pub counted : Tally → Call → Reply → Tally
counted t c r =
    elim (is_done r.refusal) [
      | true ↦ record {
        enrolments = more t.enrolments (enrolments c);
        withdrawals = more t.withdrawals (withdrawals c);
        moves = more t.moves r.moves;
        refusals = t.refusals;
      }
      | false ↦ record {
        enrolments = t.enrolments;
        withdrawals = t.withdrawals;
        moves = t.moves;
        refusals = more
            t.refusals 1;
      }
    ]

-- no count has stopped
pub record Going (t : Tally) : Type 0 where
  pub enrolments : t.enrolments < most_counted
  pub withdrawals : t.withdrawals < most_counted
  pub moves : t.moves < most_counted
  pub refusals : t.refusals < most_counted

-- ---- runs of calls

-- a call, with the positions of its scheme and what is lent to it besides the tables
pub record Step : Type 0 where
  pub positions : Positions
  pub lent : Lent
  pub call : Call

pub record Station : Type 0 where
  pub ring : Ring
  pub tally : Tally

-- the tables and the tally go on from call to call
unfoldable pub step : Station → Step → Station
step s c =
    let o : Outcome = outcome c.positions c.lent s.ring c.call in
    record { ring = o.ring; tally = counted s.tally c.call o.reply }

unfoldable pub run : Station → List Step → Station
run s [] = s
run s (c ∷ cs) = run (step s c) cs

-- the positions that the tables go by, p before the call: those of the call where it is accepted
unfoldable pub goes_by : Positions → Station → Step → Positions
goes_by p s c = elim (is_done (refusal c.positions c.lent s.ring c.call)) [ true ↦ c.positions | false ↦ p ]

unfoldable pub gone_by : Positions → Station → List Step → Positions
gone_by p s [] = p
gone_by p s (c ∷ cs) = gone_by (goes_by p s c) (step s c) cs

-- every call is about a 32-bit number
abbrev pub Fit : List Step → Type 0
Fit [] = Unit {0}
Fit (c ∷ cs) = (subject c.call < 2 ^ 32) × Fit cs

-- empty tables and a zero tally
unfoldable pub new : Station
new =
    record {
      ring = record { relays = []; tablets = [] };
      tally = record { enrolments = 0; withdrawals = 0; moves = 0; refusals = 0 };
    }
