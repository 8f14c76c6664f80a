-- The drill of document 01 holds: cases 1 to 12, computed by the very definitions that the calls' contracts cite.
-- Assumes nothing.
use mathlib.Core.List.{map}
use mathlib.Core.Path.{◌≡◌, refl}
use Rattle.ring.specs.Scheme as Scheme
use Rattle.ring.specs.Clockwise as Clockwise
use Rattle.rule.specs.Entry as Entry
use Rattle.rule.specs.Order as Order
use Rattle.rule.specs.Rule as Rule
use Rattle.rule.specs.Refusals as Refusals
use Rattle.rule.specs.Calls as Calls
use Rattle.rule.specs.Drill as Drill

pub drill_holds : Drill.answers (Scheme.positions 0) Drill.drill_lent Drill.drill_ring
    (map (λ (c : Drill.Case). c.call) Drill.drill) ≡ map (λ (c : Drill.Case). c.answer) Drill.drill
unfolding Scheme.positions Scheme.position Clockwise.clockwise Clockwise.distance Clockwise.sooner Entry.numbers
    Entry.has Entry.beside_of Entry.insert Entry.delete Entry.put Entry.total Entry.count Entry.load Entry.first
    Entry.up_to Order.queued Order.order Rule.full Rule.has_room Rule.seat Rule.seat_all Rule.placement Rule.rising
    Rule.limits_fit Rule.same Rule.is_just Rule.right Refusals.is_done Refusals.first_bar Calls.edited Calls.or_nobody
    Calls.after Calls.moved Calls.moves Calls.ahead_of Calls.full_ahead Calls.passed Calls.relay_of Calls.wrong_numbers
    Calls.refusal Calls.accepted Calls.declined Calls.outcome Drill.answers Drill.replies Drill.drill_ring
    Drill.drill_lent Drill.drill
drill_holds = refl
