-- The drill of document 01 on lent numbers, computed by the definitions that the calls' contracts cite: from empty tables the three relays are
-- added, and then each case finds what the one before it left. The replies, and the moves that stand in the lent list, are the paper's, and the
-- tally has counted them.
--   drill_lent_lem
-- Assumes nothing.
use mathlib.Core.List.{List, [], ◌∷◌, map}
use mathlib.Core.Path.{◌≡◌, refl}
use Prim.Native.Nat.{ℕ}
use lib.ListN.{drop}
use Rattle.ring.specs.Scheme as Scheme
use Rattle.ring.specs.Clockwise as Clockwise
use Rattle.rule.specs.declared.Reply.{Reply}
use Rattle.rule.specs.Entry as Entry
use Rattle.rule.specs.Order as Order
use Rattle.rule.specs.Rule as Rule
use Rattle.rule.specs.Refusals as Refusals
use Rattle.rule.specs.Calls as Calls
use Rattle.rule.specs.Tally as Tally
use Rattle.rule.specs.Drill as Drill
use Rattle.promise.specs.Promise as Promised
use Rattle.promise.specs.Promise.{After}
use Rattle.tables.specs.Table as Table
use Rattle.tables.specs.Shape as Shape
use Rattle.meaning.specs.Meaning as Meaning
use Rattle.write.specs.Tables as Tables
use Rattle.tally.specs.Counted as Counted
use Rattle.call_start.specs.Promise as Promise
use Rattle.histories.specs.Runs.{Memory, Step, answer_to, called, called_all}
use Rattle.histories.specs.Demands.{standing}
use Rattle.histories.specs.Drilled as Drilled

-- what calls answer, one after the other on the same tables: the reply, and as many moves as it says from the lent list
unfoldable pub answered : Memory → List Step → List Drill.Answer
answered m [] = []
answered m (c ∷ cs) =
    let a : After Reply (Promise.Lists ℕ) = answer_to m c in
    record { reply = a.reply; moves = standing a.reply.moves a.lent.moves } ∷ answered (called m c) cs

pub drill_lent_lem : (drop 3 (answered Drilled.blank Drilled.drill_steps) ≡ map (λ (c : Drill.Case). c.answer) Drill.drill)
    × ((called_all Drilled.blank Drilled.drill_steps).tally ≡ Drilled.drill_tally)
unfolding answered standing called called_all Drilled.blank Drilled.drill_calls Drilled.drill_steps Drilled.drill_tally
    Promise.after Promise.left Promise.written Promised.settled Promise.outcome_of Meaning.lent_of Meaning.ring_of
    Meaning.places Meaning.fit_tables Meaning.rest_unused Shape.used_in Shape.used Shape.fits_in
    Shape.all Shape.unused Table.places_of Table.number_in Table.beside_in Table.is_whole
    Tables.flat Tables.filled
    Tables.relay_table Tables.tablet_table Tables.flat_moves Tables.listed Counted.tally_of Counted.counts Counted.tallied
    Tally.more Tally.counted Scheme.known Scheme.positions Scheme.position Clockwise.clockwise Clockwise.distance
    Clockwise.sooner Entry.numbers Entry.has Entry.beside_of Entry.insert Entry.delete Entry.put Entry.total Entry.count
    Entry.load Entry.first Entry.up_to Order.queued Order.order Rule.full Rule.has_room Rule.seat Rule.seat_all
    Rule.placement Rule.rising Rule.limits_fit Rule.same Rule.is_just Rule.right Refusals.is_done Refusals.first_bar
    Calls.edited Calls.or_nobody Calls.after Calls.moved Calls.moves Calls.ahead_of Calls.full_ahead Calls.passed
    Calls.relay_of Calls.wrong_numbers Calls.refusal Calls.accepted Calls.declined Calls.outcome Drill.replies Drill.drill
drill_lent_lem = (refl, refl)
