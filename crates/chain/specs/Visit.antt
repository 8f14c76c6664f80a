-- One relay of a turn: the walker w takes the place of the greatest tablet there, if that is greater (document 01, "The rule of placement").
-- Assumes nothing.
use Rattle.std.specs.Prelude.{Bool, false, cond, List, ◌≡◌, ℕ, ◌+◌, ◌-◌, eqb, ltb, set}
use Rattle.tables.specs.Table.{tablet_number}
use Rattle.chain.specs.declared.Chain.{Chain}

-- l is one more than the place of the greatest tablet there, 0 where there is none
unfoldable pub gives_way : List ℕ → ℕ → ℕ → Bool
gives_way ts w l = cond (eqb l 0) false (ltb w (tablet_number ts (l - 1)))

-- the relay at place i is visited
pub record Visited (b : Bool) (a z : Chain) (i l : ℕ) : Type 0 where
  pub count : z.others ≡ cond b (a.others + 1) a.others
  pub passed : z.steps ≡ a.steps + 1
  pub seats : z.seat ≡ cond b (set a.seat a.others i) a.seat
  pub places : z.place ≡ cond b (set a.place (a.others + 1) (l - 1)) a.place
