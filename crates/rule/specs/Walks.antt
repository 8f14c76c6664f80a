-- How a tablet is enrolled and withdrawn without placing everybody afresh (document 01, "The rule of placement"). Over any assignment of
-- positions. Both walks end in the rule's placement (the laws `enrolled_placement` and `withdrawn_placement`). Assumes nothing.
use Rattle.std.specs.Prelude.{Bool, true, false, ◌&&◌, ◌||◌, List, [], ◌∷◌, ℕ, zero, suc, max, eqb, ltb, length}
use Rattle.std.proofs.Math.Option.{Option, none, some}
use Rattle.ring.specs.Scheme.{Positions}
use Rattle.ring.specs.Clockwise.{sooner}
use Rattle.rule.specs.Entry.{Entry, entry, insert, delete, beside_of, first}
use Rattle.rule.specs.Order.{order}
use Rattle.rule.specs.Rule.{full, has_room}

-- the tablets at the end of a walk, and everybody who sat down on the way, with the relay where
pub record Walked : Type 0 where
  pub tablets : List Entry
  pub chain : List Entry

unfoldable pub sat_down : ℕ → ℕ → Walked → Walked
sat_down t r w = record { tablets = w.tablets; chain = entry t r ∷ w.chain }

-- ---- enrolling

-- the greatest number at relay r, 0 where it has none
unfoldable pub greatest : List Entry → ℕ → ℕ
greatest [] r = 0
greatest (e ∷ es) r = elim (eqb e.beside r) [ true ↦ max e.number (greatest es r) | false ↦ greatest es r ]

-- the walker stops at a relay with room, and at a full one that holds a greater number
unfoldable pub stops : List Entry → ℕ → Entry → Bool
stops tablets w r = has_room tablets r || (full tablets r && ltb w (greatest tablets r.number))

-- those behind relay r in a clockwise order
unfoldable pub behind : ℕ → List Entry → List Entry
behind r [] = []
behind r (e ∷ es) = elim (eqb e.number r) [ true ↦ es | false ↦ behind r es ]

-- w walks over what is left of its order. At a full relay it takes the place of the greatest number there, and that one walks on, behind
-- that relay. The first number bounds how many sit down.
unfoldable pub walk : ℕ → Positions → List Entry → List Entry → ℕ → List Entry → Walked
walk zero p relays tablets w ahead = record { tablets = tablets; chain = [] }
walk (suc steps) p relays tablets w ahead =
    elim (first (stops tablets w) ahead) [
      | none ↦ record { tablets = tablets; chain = [] }
      | some r ↦ elim (has_room tablets r) [
        | true ↦ record { tablets = insert w r.number tablets; chain = entry w r.number ∷ [] }
        | false ↦
            let g : ℕ = greatest tablets r.number in
            sat_down w r.number (walk steps p relays (insert w r.number (delete g tablets)) g
            (behind r.number (order p g relays)))
      ]
    ]

-- the newcomer walks its order
unfoldable pub enrolled : Positions → List Entry → List Entry → ℕ → Walked
enrolled p relays tablets t = walk (suc (length tablets)) p relays tablets t (order p t relays)

-- ---- withdrawing

-- a tablet had passed relay r where r stands ahead of its own relay in its order
unfoldable pub had_passed : Positions → ℕ → Entry → Bool
had_passed p r e = sooner p e.number r e.beside

unfoldable pub lower_of : Entry → Option Entry → Option Entry
lower_of e none = some e
lower_of e (some f) = elim (ltb e.number f.number) [ true ↦ some e | false ↦ some f ]

-- the lowest number of all that meet a test
unfoldable pub lowest : (Entry → Bool) → List Entry → Option Entry
lowest f [] = none
lowest f (e ∷ es) = elim (f e) [ true ↦ lower_of e (lowest f es) | false ↦ lowest f es ]

-- The hole at relay r is taken by the lowest number among all that had passed r, which leaves a new hole, until nobody had passed it.
-- The first number bounds how many sit down.
unfoldable pub fill_hole : ℕ → Positions → List Entry → ℕ → Walked
fill_hole zero p tablets r = record { tablets = tablets; chain = [] }
fill_hole (suc steps) p tablets r =
    elim (lowest (had_passed p r) tablets) [
      | none ↦ record { tablets = tablets; chain = [] }
      | some e ↦ sat_down e.number r (fill_hole steps p (insert e.number r (delete e.number tablets))
          e.beside)
    ]

unfoldable pub withdrawn : Positions → List Entry → ℕ → Walked
withdrawn p tablets t = fill_hole (length tablets) p (delete t tablets) (beside_of tablets t)
