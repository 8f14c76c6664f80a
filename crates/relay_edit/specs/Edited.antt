-- The relay table as a relay call wants it (document 01, "The rule of placement"), in numbers of the call's own. Assumes nothing.
use Rattle.std.specs.Prelude.{true, false, Result, MatchResult, List, ◌≡◌, ℕ, ◌*◌, ◌^◌, ◌≤◌, ◌<◌, length, get_or}
use Rattle.ring.specs.Most.{most_relays}
use Rattle.ring.specs.Scheme.{Positions, positions}
use Rattle.rule.specs.declared.Call.{Call}
use Rattle.rule.specs.declared.Refusal.{Refusal}
use Rattle.rule.specs.Rule.{Ring}
use Rattle.rule.specs.Refusals.{is_done, first_bar}
use Rattle.rule.specs.Calls.{subject, edited, relay_of, passed, wrong_numbers, refusal}
use Rattle.tables.specs.Table.{relay_places}
use Rattle.survey.specs.declared.Survey.{Survey}
use Rattle.meaning.specs.Meaning.{relays_in, ring_of, lent_of}
use Rattle.write.specs.Tables.{flat, filled}
use Rattle.call_start.specs.Start.{Start}
use Rattle.ring_edit.specs.Homes.{Homes}
use Rattle.relay_edit.specs.declared.Edit.{Edit}

-- as many numbers as the longest relay table has
abbrev pub own_numbers : ℕ
own_numbers = 2 * most_relays

-- the same numbers, and zeros behind them
pub record Copied (rs own : List ℕ) : Type 0 where
  pub size : length own ≡ own_numbers
  pub same : (i : ℕ) → get_or own i 0 ≡ get_or rs i 0

-- c is a call about relay r: no tablet is put in or taken out, and the reply names that relay and 0 passed
pub record About (c : Call) (r : ℕ) : Type 0 where
  pub tablets : (g : Ring) → (edited g c).tablets ≡ g.tablets
  pub relay : (p : Positions) (g : Ring) → relay_of p g c ≡ r
  pub passed : (p : Positions) (g : Ring) → passed p g c ≡ 0

-- the n relays that are to be stand in `own`, with zeros behind them, and fit the lent table
pub record Written (rs ts : List ℕ) (c : Call) (n : ℕ) (own : List ℕ) : Type 0 where
  pub size : length own ≡ own_numbers
  pub relays : relays_in own n ≡ (edited (ring_of rs ts) c).relays
  pub table : own ≡ filled own_numbers (flat (edited (ring_of rs ts) c).relays)
  pub fits : n ≤ relay_places rs

-- none of the refusals 1 to 7 applies; the relays that are to be are in ring order, with the tablets' homes
pub record EditReady (s : ℕ) (rs ts : List ℕ) (c : Call) (e : Edit) : Type 0 where
  pub used : ℕ
  pub survey : Survey
  pub start : Start s rs ts used e.m survey
  pub small : subject c < 2 ^ 32
  pub numbers : (ms : List ℕ) → is_done (first_bar (wrong_numbers (lent_of s rs ts ms) (ring_of rs ts) c)) ≡ true
  pub written : Written rs ts c e.n e.relays
  pub homes : Homes (positions s) e.relays ts e.n e.m e.around.keys e.around.home

-- what a call about relay r comes to, whatever the move list: the edit, or the refusal that applies
pub record Edits (s : ℕ) (rs ts : List ℕ) (c : Call) (r : ℕ) (e : Result Edit Refusal) : Type 0 where
  pub about : About c r
  pub comes : MatchResult e (EditReady s rs ts c)
      (λ why. ((ms : List ℕ) → refusal (positions s) (lent_of s rs ts ms) (ring_of rs ts) c ≡ why) × (is_done why ≡ false))
