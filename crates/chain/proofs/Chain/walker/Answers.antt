-- `chain::Chain::walker` meets its contract: the newcomer while nobody sat down, else the tablet whose place was kept last.
-- Assumes nothing.
use mathlib.Core.Path.{◌≡◌, refl, ap, ◌∙◌}
use mathlib.Core.List.{List}
use Prim.Native.Nat.{ℕ, zero, suc}
use native.Mathlib.Omega.{arith}
use lib.ListN.{get_or}
use Rattle.tables.specs.Table.{tablet_number}
use Rattle.chain.specs.Chain.{name_at}
use Rattle.chain.proofs.Chain.walker.Goals as goal

none : (x : ℕ) (ts place : List ℕ) (c : ℕ) → c ≡ 0 → x ≡ name_at x ts place c
unfolding name_at
none x ts place zero e = refl
none x ts place (suc c) e = absurd (omega arith)

some_one : (x : ℕ) (ts place : List ℕ) (c : ℕ) → (c ≡ 0 → ⊥) → tablet_number ts (get_or place c 0) ≡ name_at x ts place c
unfolding name_at
some_one x ts place zero e = absurd (e refl)
some_one x ts place (suc c) e = refl

pub returns-then-self-eq0 : goal.returns-then-self-eq0
returns-then-self-eq0 c = none _ _ _ _ c.if-self-eq0.true

pub returns-else-self-eq0 : goal.returns-else-self-eq0
returns-else-self-eq0 c = c.tablet_number.ensures ∙ ap (tablet_number _) c.from.ensures ∙ some_one _ _ _ _ c.if-self-eq0.false
