-- Calls one after the other (document 01, "The rule of placement", "Sheet, balance, tally"): each finds the tables and the tally as the one before
-- it left them, and has a scheme and a move list of its own. Assumes nothing.
use Rattle.std.specs.Prelude.{true, false, List, [], ◌∷◌, ◌≡◌, ℕ, ◌^◌, ◌<◌, length}
use Rattle.ring.specs.Scheme.{positions}
use Rattle.rule.specs.declared.Call.{Call}
use Rattle.rule.specs.declared.Reply.{Reply}
use Rattle.rule.specs.Rule.{Ring}
use Rattle.rule.specs.Refusals.{is_done}
use Rattle.rule.specs.Calls.{subject}
use Rattle.rule.specs.Tally as Tally
use Rattle.rule.specs.Tally.{Station}
use Rattle.tables.specs.Shape.{relays_used, tablets_used}
use Rattle.promise.specs.Promise.{After}
use Rattle.meaning.specs.Meaning.{ring_of, tables_right, lent_of}
use Rattle.tally.specs.Counted.{tally_of, tallied}
use Rattle.call_start.specs.Promise.{Lists, after}

-- tables as long as these others, which are right and mean this ring
pub record Stands (s : ℕ) (rs ts : List ℕ) (g : Ring) (rs' ts' : List ℕ) : Type 0 where
  pub ring : ring_of rs' ts' ≡ g
  pub right : tables_right s rs' ts' ≡ true
  pub relays : length rs' ≡ length rs
  pub tablets : length ts' ≡ length ts

-- ---- a call after the other

-- what goes on from call to call
pub record Memory : Type 0 where
  pub relays : List ℕ
  pub tablets : List ℕ
  pub tally : List ℕ

-- a call, with its scheme and the move list that is lent to it
pub record Step : Type 0 where
  pub scheme : ℕ
  pub moves : List ℕ
  pub call : Call

-- the reply, and what is lent afterwards, as the call promises
abbrev pub answer_to : Memory → Step → After Reply (Lists ℕ)
answer_to m c = after c.scheme m.relays m.tablets c.moves c.call

unfoldable pub called : Memory → Step → Memory
called m c =
    let a : After Reply (Lists ℕ) = answer_to m c in
    record { relays = a.lent.relays; tablets = a.lent.tablets; tally = tallied m.tally c.call a.reply }

unfoldable pub called_all : Memory → List Step → Memory
called_all m [] = m
called_all m (c ∷ cs) = called_all (called m c) cs

-- the scheme that the tables go by, s before the call: that of the call where it is accepted
unfoldable pub goes_by : ℕ → Memory → Step → ℕ
goes_by s m c = elim (is_done (answer_to m c).reply.refusal) [ true ↦ c.scheme | false ↦ s ]

unfoldable pub gone_by : ℕ → Memory → List Step → ℕ
gone_by s m [] = s
gone_by s m (c ∷ cs) = gone_by (goes_by s m c) (called m c) cs

-- every call is about a 32-bit number
abbrev pub Small : List Step → Type 0
Small [] = Unit {0}
Small (c ∷ cs) = (subject c.call < 2 ^ 32) × Small cs

-- empty tables and a zero tally
pub record Blank (m : Memory) : Type 0 where
  pub relays : relays_used m.relays ≡ 0
  pub tablets : tablets_used m.tablets ≡ 0
  pub tally : m.tally ≡ 0 ∷ 0 ∷ 0 ∷ 0 ∷ []

-- ---- what it means

unfoldable pub station_of : Memory → Station
station_of m = record { ring = ring_of m.relays m.tablets; tally = tally_of m.tally }

-- a call with what is lent to it when its turn comes
abbrev pub step_of : Memory → Step → Tally.Step
step_of m c =
    record {
      positions = positions c.scheme;
      lent = lent_of c.scheme m.relays m.tablets
          c.moves;
      call = c.call;
    }

unfoldable pub steps_of : Memory → List Step → List Tally.Step
steps_of m [] = []
steps_of m (c ∷ cs) = step_of m c ∷ steps_of (called m c) cs
