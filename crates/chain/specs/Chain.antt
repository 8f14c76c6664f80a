-- The chain of an enrolment as two arrays (document 01, "The rule of placement"): who sits down, by place in the tablet table, and where, by
-- place in the relay table. The newcomer x is the first. Assumes nothing.
use Rattle.std.specs.Prelude.{cond, List, [], ◌∷◌, ◌++◌, ◌≡◌, ℕ, zero, suc, ◌+◌, ◌≤◌, ◌<◌, eqb, get_or}
use Rattle.ring.specs.Scheme.{Positions}
use Rattle.rule.specs.declared.Move.{Move}
use Rattle.rule.specs.Calls.{move}
use Rattle.rule.specs.Sweeps.{seats, turn, newcomer}
use Rattle.tables.specs.Table.{relay_number, tablet_number}
use Rattle.tables.specs.Placement.{relay_positions}
use Rattle.order.specs.Keys.{slot_relay, Ordered}
use Rattle.survey.specs.declared.Survey.{Survey}
use Rattle.survey.specs.Seats.{last_after}
use Rattle.meaning.specs.Meaning.{tablets_in}
use Rattle.meaning.specs.Rising.{Rises}
use Rattle.slots.specs.Slots.{steps_to, round}
use Rattle.chain.specs.declared.Chain.{Chain}

-- the number of the c-th who sits down
unfoldable pub name_at : ℕ → List ℕ → List ℕ → ℕ → ℕ
name_at x ts place zero = x
name_at x ts place (suc c) = tablet_number ts (get_or place (suc c) 0)

-- the relay that it comes from: the seat of the one before it
unfoldable pub from_at : List ℕ → List ℕ → ℕ → ℕ
from_at rs seat zero = 0
from_at rs seat (suc c) = relay_number rs (get_or seat c 0)

-- the c-th link of the chain
unfoldable pub link_at : ℕ → List ℕ → List ℕ → List ℕ → List ℕ → ℕ → Move
link_at x rs ts place seat c = move (name_at x ts place c) (from_at rs seat c) (relay_number rs (get_or seat c 0))

-- the first c who sat down
unfoldable pub chain_of : ℕ → List ℕ → List ℕ → List ℕ → List ℕ → ℕ → List Move
chain_of x rs ts place seat zero = []
chain_of x rs ts place seat (suc c) = chain_of x rs ts place seat c ++ (link_at x rs ts place seat c ∷ [])

-- the next slot of n
unfoldable pub next_slot : ℕ → ℕ → ℕ
next_slot n k = cond (eqb (k + 1) n) 0 (k + 1)

-- what a turn is made from: right tables as a survey found them, the slot of the newcomer's home, and the first slot with room from there
pub record From (p : Positions) (rs ts : List ℕ) (v : Survey) (h stop : ℕ) : Type 0 where
  pub rises : Rises p rs ts v.n v.m
  pub ordered : Ordered (relay_positions p rs v.n) v.n v.keys
  pub greatest : v.last ≡ last_after p rs ts v.n v.m
  pub home : h < v.n
  pub inside : stop < v.n

-- the newcomer first, then all who gave way, after the steps to the first slot with room
pub record Chained (rs ts : List ℕ) (v : Survey) (h stop x : ℕ) (z : Chain) : Type 0 where
  pub steps : z.steps ≡ steps_to v.n h stop
  pub few : z.others ≤ z.steps
  pub is : seats (turn (tablets_in ts v.m) (newcomer x) (round rs v.keys v.n h z.steps))
      (relay_number rs (slot_relay v.keys stop)) ≡ chain_of x rs ts z.place z.seat (z.others + 1)
  pub places : (i : ℕ) → 0 < i → i ≤ z.others → get_or z.place i 0 < v.m
  pub relays : (i : ℕ) → i ≤ z.others → get_or z.seat i 0 < v.n
