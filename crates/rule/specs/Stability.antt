-- What it means that no tablet could sit earlier (document 01, "The rule of placement"): each has the first relay of its order that the lower
-- numbers leave it. The laws `right_stable` and `stable_right` say that this is the rule. Over any preference: `key t r` is less where relay r
-- stands earlier in the order of tablet t. Assumes nothing.
use Rattle.std.specs.Prelude.{Bool, true, false, ◌&&◌, List, [], ◌∷◌, ◌⊎◌, ◌≡◌, ℕ, ◌+◌, ◌<◌, ◌≤◌, eqb, ltb}
use Rattle.rule.specs.Entry.{Entry}
use Rattle.rule.specs.Rooms.{held}

-- the numbers rise strictly, all above low
abbrev pub Rising : ℕ → List ℕ → Type 0
Rising low [] = Unit {0}
Rising low (t ∷ ts) = (low < t) × Rising t ts

abbrev pub In : ℕ → List ℕ → Type 0
In t [] = ⊥
In t (u ∷ us) = (t ≡ u) ⊎ In t us

-- the number n stands there with v beside it
abbrev pub Sits : List Entry → ℕ → ℕ → Type 0
Sits [] n v = ⊥
Sits (e ∷ es) n v = ((e.number ≡ n) × (e.beside ≡ v)) ⊎ Sits es n v

unfoldable pub bit : Bool → ℕ
bit true = 1
bit false = 0

-- how many of the numbers below n have q beside them
unfoldable pub lower : List Entry → ℕ → ℕ → ℕ
lower [] q n = 0
lower (e ∷ es) q n = bit (eqb e.beside q && ltb e.number n) + lower es q n

-- the lower numbers leave tablet n room at relay v, and at no relay that stands earlier in its order
pub record Fair (key : ℕ → ℕ → ℕ) (relays tablets : List Entry) (n v : ℕ) : Type 0 where
  pub room : lower tablets v n < held relays v
  pub least : (q : ℕ) → lower tablets q n < held relays q → key n v ≤ key n q

abbrev pub Stable : (ℕ → ℕ → ℕ) → List Entry → List Entry → Type 0
Stable key relays tablets = (n v : ℕ) → Sits tablets n v → Fair key relays tablets n v
