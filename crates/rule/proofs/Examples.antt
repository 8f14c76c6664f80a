-- Examples of document 01 beside the drill, computed: the balanced limit, the sheet and its stretches on the drill's ring after case 4, and the two
-- walks of cases 4 and 8. Assumes nothing.
use mathlib.Core.List.{List, [], ◌∷◌, map}
use mathlib.Core.Path.{◌≡◌, refl}
use Prim.Native.Nat.{ℕ}
use Rattle.ring.specs.Scheme as Scheme
use Rattle.ring.specs.Clockwise as Clockwise
use Rattle.rule.specs.declared.Refusal.{Refusal}
use Rattle.rule.specs.declared.Refusal.TheVariants.{Done, NumberZero, TooLarge}
use Rattle.rule.specs.Entry as Entry
use Rattle.rule.specs.Entry.{entry}
use Rattle.rule.specs.Order as Order
use Rattle.rule.specs.Rule as Rule
use Rattle.rule.specs.Refusals as Refusals
use Rattle.rule.specs.Walks as Walks
use Rattle.rule.specs.Sheet as Sheet
use Rattle.rule.specs.Balance as Balance
use Rattle.rule.specs.Drill as Drill

-- ---- the balanced limit

abbrev balanced : Refusal → ℕ → Balance.Balanced
balanced r limit = record { refusal = r; limit = limit }

-- 5/4 with 10 tablets and 4 relays; no tablets; more than 4,096; no relays; below 1; a relay too many
pub balance_examples : Balance.balance 5 4 10 4 ∷ Balance.balance 5 4 0 4 ∷ Balance.balance 1000 1 4096 1
    ∷ Balance.balance 5 4 10 0 ∷ Balance.balance 4 5 10 4 ∷ Balance.balance 5 4 10 257 ∷ []
    ≡ balanced Done 4 ∷ balanced Done 0 ∷ balanced Done 4096 ∷ balanced NumberZero 0 ∷ balanced TooLarge 0
    ∷ balanced TooLarge 0 ∷ []
unfolding Balance.balance Balance.balance_refusal Balance.balanced_limit Balance.rounded_up Refusals.first_bar
    Refusals.is_done
balance_examples = refl

-- ---- the sheet

-- after case 4
abbrev four : Rule.Ring
four =
    record {
      relays = entry 10 1 ∷ entry 20 2 ∷ entry 30 1 ∷ [];
      tablets = entry 3 10 ∷ entry 5 20 ∷ entry 12 20
          ∷ entry 31 30 ∷ [];
    }

pub sheet_example : Sheet.sheet four ≡ 3 ∷ 5 ∷ 12 ∷ 31 ∷ []
unfolding Sheet.sheet Sheet.sheet_from Sheet.tablets_of Entry.keep Entry.numbers
sheet_example = refl

abbrev stretch_of : List ℕ → ℕ → Sheet.Stretch
stretch_of lent r = Sheet.stretch (Scheme.positions 0) Drill.drill_lent four lent r

abbrev from_to : ℕ → ℕ → Sheet.Stretch
from_to start len = record { start = start; len = len }

-- of each relay; of a relay that is not there; of another table's sheet
pub stretch_examples : map (stretch_of (3 ∷ 5 ∷ 12 ∷ 31 ∷ 99 ∷ [])) (10 ∷ 20 ∷ 30 ∷ 40 ∷ []) ≡ from_to 0 1 ∷ from_to 1 2
    ∷ from_to 3 1 ∷ from_to 0 0 ∷ []
unfolding Sheet.stretch Sheet.sheet_fits Sheet.begins Sheet.sheet Sheet.sheet_from Sheet.tablets_of Drill.drill_lent
    Entry.keep Entry.numbers Entry.has Entry.load Entry.loads Entry.count Entry.first Rule.right Rule.rising
    Rule.limits_fit Rule.is_just Rule.same Rule.placement Rule.seat_all Rule.seat Rule.has_room Order.order Order.queued
    Clockwise.sooner Clockwise.distance Clockwise.clockwise Scheme.positions Scheme.position
stretch_examples = refl

pub other_sheet : stretch_of (3 ∷ 12 ∷ 5 ∷ 31 ∷ []) 20 ≡ from_to 0 0
unfolding Sheet.stretch Sheet.sheet_fits Sheet.begins Sheet.sheet Sheet.sheet_from Sheet.tablets_of Drill.drill_lent
    Entry.keep Entry.numbers Entry.has Entry.load Entry.loads Entry.count Entry.first Rule.right Rule.rising
    Rule.limits_fit Rule.is_just Rule.same Rule.placement Rule.seat_all Rule.seat Rule.has_room Order.order Order.queued
    Clockwise.sooner Clockwise.distance Clockwise.clockwise Scheme.positions Scheme.position
other_sheet = refl

-- ---- the walks

-- case 4: tablet 12 takes the place of 31, which walks on
pub walk_example : Walks.enrolled (Scheme.positions 0) four.relays (entry 3 10 ∷ entry 5 20 ∷ entry 31 20 ∷ []) 12
    ≡ record { tablets = four.tablets; chain = entry 12 20 ∷ entry 31 30 ∷ [] }
unfolding Walks.enrolled Walks.walk Walks.sat_down Walks.greatest Walks.stops Walks.behind Entry.insert Entry.delete
    Entry.first Entry.load Entry.count Rule.full Rule.has_room Order.order Order.queued Clockwise.sooner
    Clockwise.distance Clockwise.clockwise Scheme.positions Scheme.position
walk_example = refl

-- case 8: 5 takes the hole that 3 leaves, and 31 the hole that 5 leaves
pub hole_example : Walks.withdrawn (Scheme.positions 0) four.tablets 3
    ≡ record { tablets = entry 5 10 ∷ entry 12 20 ∷ entry 31 20 ∷ []; chain = entry 5 10 ∷ entry 31 20 ∷ [] }
unfolding Walks.withdrawn Walks.fill_hole Walks.sat_down Walks.lowest Walks.lower_of Walks.had_passed Entry.insert
    Entry.delete Entry.beside_of Clockwise.sooner Clockwise.distance Clockwise.clockwise Scheme.positions Scheme.position
hole_example = refl
