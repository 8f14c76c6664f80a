-- Rosters that are taken and rosters that are refused, computed by the very definitions that the contract of `read` cites.
-- Assumes nothing.
use mathlib.Core.List.{List, [], ◌∷◌, ◌++◌}
use mathlib.Core.Path.{◌≡◌, refl}
use Prim.Native.Nat.{ℕ}
use Rattle.ring.specs.Fnv as Fnv
use Rattle.ring.specs.Scheme as Scheme
use Rattle.ring.specs.Clockwise as Clockwise
use Rattle.rule.specs.declared.Refusal.{Refusal}
use Rattle.rule.specs.declared.Refusal.TheVariants.{Done, SchemeUnknown, RosterShapeWrong, RosterContentWrong, OutputUnfit}
use Rattle.rule.specs.Entry as Entry
use Rattle.rule.specs.Order as Order
use Rattle.rule.specs.Rule as Rule
use Rattle.rule.specs.Refusals as Refusals
use Rattle.rule.specs.Refusals.{bare_reply}
use Rattle.tables.specs.Table as Table
use Rattle.tables.specs.Shape as Shape
use Rattle.meaning.specs.Meaning as Meaning
use Rattle.write.specs.Tables as Tables
use Rattle.promise.specs.Promise as Promise
use Rattle.promise.specs.Promise.{After}
use Rattle.layout.specs.Numbers as Numbers
use Rattle.layout.specs.Roster as Roster
use Rattle.roster.specs.Content as Content
use Rattle.roster.specs.Reading as Reading
use Rattle.roster.specs.Reading.{after}

-- these numbers as bytes
abbrev bytes : List ℕ → List ℕ
bytes [] = []
bytes (x ∷ xs) = Fnv.four_bytes x ++ bytes xs

abbrev done : ℕ → List ℕ → List ℕ → After Reading.Reading (List ℕ × List ℕ)
done scheme rs ts = record { reply = record { reply = bare_reply Done; scheme = scheme }; lent = (rs, ts) }

abbrev refused : Refusal → List ℕ → List ℕ → After Reading.Reading (List ℕ × List ℕ)
refused why rs ts = record { reply = Reading.refused_reading why; lent = (rs, ts) }

-- relays 10 and 20 of limit 1, and tablets 5 and 7 where scheme 0 has them, under the scheme that is given
abbrev two : ℕ → List ℕ
two scheme = bytes (10 ∷ 1 ∷ 20 ∷ 1 ∷ 5 ∷ 10 ∷ 7 ∷ 20 ∷ 52 ∷ 2 ∷ 36 ∷ 2 ∷ scheme ∷ [])

-- a relay of number zero
abbrev zero : List ℕ
zero = bytes (0 ∷ 0 ∷ 28 ∷ 1 ∷ 20 ∷ 0 ∷ 0 ∷ [])

-- three places, and two and a half
abbrev six : List ℕ
six = 9 ∷ 9 ∷ 9 ∷ 9 ∷ 9 ∷ 9 ∷ []

abbrev five : List ℕ
five = 9 ∷ 9 ∷ 9 ∷ 9 ∷ 9 ∷ []

-- document 01's 20 bytes, and 19; two relays; the same under the other scheme, and under none; lent tables unfit, with wrong content besides
pub reading_examples :
    after (bytes (20 ∷ 0 ∷ 20 ∷ 0 ∷ 0 ∷ [])) [] []
    ∷ after (0 ∷ 0 ∷ 0 ∷ bytes (0 ∷ 20 ∷ 0 ∷ 0 ∷ [])) [] []
    ∷ after (two 0) six six
    ∷ after (two 1) six six
    ∷ after (two 2) six six
    ∷ after (two 1) six five
    ∷ after zero six six
    ∷ []
    ≡ done 0 [] []
    ∷ refused RosterShapeWrong [] []
    ∷ done 0 (10 ∷ 1 ∷ 20 ∷ 1 ∷ 0 ∷ 0 ∷ []) (5 ∷ 10 ∷ 7 ∷ 20 ∷ 0 ∷ 0 ∷ [])
    ∷ refused RosterContentWrong six six
    ∷ refused SchemeUnknown six six
    ∷ refused OutputUnfit six five
    ∷ refused RosterContentWrong six six
    ∷ []
unfolding Fnv.four_bytes Fnv.mixed Fnv.mixed_all Fnv.fnv Scheme.known Scheme.position Scheme.positions Clockwise.clockwise
    Clockwise.distance Clockwise.sooner Entry.numbers Entry.count Entry.load Entry.first Order.queued Order.order
    Rule.has_room Rule.seat Rule.seat_all Rule.placement Rule.rising Rule.limits_fit Rule.same Rule.is_just Rule.right
    Refusals.is_done Refusals.first_bar Table.places_of Table.is_whole
    Shape.fits_in Meaning.places Tables.flat Tables.filled Tables.relay_table Tables.tablet_table
    Numbers.number_at Roster.field Roster.shaped Roster.shape_right Roster.block Roster.roster_ring Content.numbered
    Content.ring_right Content.content_right Content.tables_fit Reading.refusal Reading.taken Promise.settled Reading.after
reading_examples = refl
