-- Pairs of lent tables.
--   empty_right    two empty slices are right, under any scheme (document 01, "The lent tables")
--   one_number     a tablet and a relay may have one number ("The ring")
-- Assumes nothing.
use mathlib.Core.Bool.{true}
use mathlib.Core.List.{[], ◌∷◌}
use mathlib.Core.Path.{◌≡◌, refl}
use Prim.Native.Nat.{ℕ}
use Rattle.ring.specs.Scheme as Scheme
use Rattle.ring.specs.Clockwise as Clockwise
use Rattle.rule.specs.Entry as Entry
use Rattle.rule.specs.Order as Order
use Rattle.rule.specs.Rule as Rule
use Rattle.tables.specs.Table as Table
use Rattle.tables.specs.Shape as Shape
use Rattle.meaning.specs.Meaning as Meaning
use Rattle.meaning.specs.Meaning.{tables_right}

pub empty_right : (s : ℕ) → tables_right s [] [] ≡ true
unfolding tables_right Meaning.ring_of Meaning.places Meaning.fit_tables Meaning.rest_unused Shape.used_in
    Shape.used Shape.fits_in Shape.all Table.places_of Table.is_whole
    Entry.numbers Rule.right Rule.rising Rule.limits_fit Rule.is_just Rule.same
    Rule.placement Rule.seat_all
empty_right s = refl

-- tablet 10 at relay 10
pub one_number : tables_right 0 (10 ∷ 1 ∷ []) (10 ∷ 10 ∷ []) ≡ true
unfolding tables_right Meaning.ring_of Meaning.places Meaning.fit_tables Meaning.rest_unused Shape.used_in
    Shape.used Shape.fits_in Shape.all Shape.unused Table.places_of
    Table.number_in Table.beside_in Table.is_whole
    Entry.numbers Entry.load Entry.count Entry.first Rule.right Rule.rising Rule.limits_fit Rule.is_just
    Rule.same Rule.placement Rule.seat_all Rule.seat Rule.has_room Order.order Order.queued Clockwise.sooner
    Clockwise.distance Clockwise.clockwise Scheme.positions Scheme.position
one_number = refl
