-- What the promise says of the drill's tables after case 4 (document 01, "A drill to prove") with a relay without tablets, computed: the stretch of
-- each relay, and every case of the empty stretch at the sheet's beginning. Assumes nothing.
use mathlib.Core.List.{List, [], ◌∷◌, map}
use mathlib.Core.Path.{◌≡◌, refl}
use Prim.Native.Nat.{ℕ}
use Rattle.ring.specs.Scheme as Scheme
use Rattle.ring.specs.Clockwise as Clockwise
use Rattle.rule.specs.Entry as Entry
use Rattle.rule.specs.Order as Order
use Rattle.rule.specs.Rule as Rule
use Rattle.rule.specs.Sheet as Sheet
use Rattle.tables.specs.Table as Table
use Rattle.tables.specs.Shape as Shape
use Rattle.meaning.specs.Meaning as Meaning
use Rattle.stretch.specs.Promise.{stretch_of}

abbrev relays : List ℕ
relays = 10 ∷ 1 ∷ 15 ∷ 0 ∷ 20 ∷ 2 ∷ 30 ∷ 1 ∷ []

-- the last place is unused
abbrev tablets : List ℕ
tablets = 3 ∷ 10 ∷ 5 ∷ 20 ∷ 12 ∷ 20 ∷ 31 ∷ 30 ∷ 0 ∷ 0 ∷ []

-- tablet 3 is not with the rule's relay
abbrev moved : List ℕ
moved = 3 ∷ 20 ∷ 5 ∷ 10 ∷ 12 ∷ 20 ∷ 31 ∷ 30 ∷ 0 ∷ 0 ∷ []

abbrev from_to : ℕ → ℕ → Sheet.Stretch
from_to start len = record { start = start; len = len }

abbrev own : List ℕ
own = 3 ∷ 5 ∷ 12 ∷ 31 ∷ []

-- each relay, 0, and a relay that is not there; then the sheet one short, another table's sheet, an unknown scheme, tables that are not right, and a
-- relay table of an odd length
pub stretch_examples :
    (map (stretch_of 0 relays tablets (3 ∷ 5 ∷ 12 ∷ 31 ∷ 99 ∷ [])) (10 ∷ 15 ∷ 20 ∷ 30 ∷ 0 ∷ 25 ∷ [])
    ≡ from_to 0 1 ∷ from_to 1 0 ∷ from_to 1 2 ∷ from_to 3 1 ∷ from_to 0 0 ∷ from_to 0 0 ∷ [])
    × (stretch_of 0 relays tablets (3 ∷ 5 ∷ 12 ∷ []) 20
    ∷ stretch_of 0 relays tablets (3 ∷ 5 ∷ 31 ∷ 12 ∷ []) 20
    ∷ stretch_of 2 relays tablets own 20
    ∷ stretch_of 0 relays moved own 20
    ∷ stretch_of 0 (10 ∷ 1 ∷ 15 ∷ 0 ∷ 20 ∷ 2 ∷ 30 ∷ []) tablets own 20 ∷ []
    ≡ from_to 0 0 ∷ from_to 0 0 ∷ from_to 0 0 ∷ from_to 0 0 ∷ from_to 0 0 ∷ [])
unfolding stretch_of Sheet.stretch Sheet.sheet_fits Sheet.begins Sheet.sheet Sheet.sheet_from Sheet.tablets_of
    Meaning.lent_of Meaning.ring_of Meaning.places Meaning.fit_tables Meaning.rest_unused Shape.used_in
    Shape.used Shape.fits_in Shape.all Shape.unused Table.places_of Table.number_in
    Table.beside_in Table.is_whole
    Entry.has Entry.keep Entry.numbers Entry.load Entry.loads Entry.count Entry.first Rule.right Rule.rising
    Rule.limits_fit Rule.is_just Rule.same Rule.placement Rule.seat_all Rule.seat Rule.has_room Order.order Order.queued
    Clockwise.sooner Clockwise.distance Clockwise.clockwise Scheme.known Scheme.positions Scheme.position
stretch_examples = (refl, refl)
