-- `stretch::found` meets its contract. At each way out what was found says which case of the definition holds: the look is refused, the relay is
-- not there, the first numbers are others, or none of these. Assumes nothing.
use mathlib.Core.Path.{refl, sym}
use Rattle.call_start.proofs.Refusals.{start_rises}
use Rattle.loads.proofs.Housed.{start_housed}
use Rattle.stretch.proofs.There.{at_roomed}
use Rattle.stretch.proofs.Outcomes.{look_bounds, absent_bounds, other_bounds, found_bounds}
use Rattle.stretch.proofs.found.Goals as goal

pub returns-in_default : goal.returns-in_default
returns-in_default c = look_bounds _ _ _ _ _ c.in_default.ensures

pub spot-requires : goal.spot-requires
spot-requires c =
    let s = start_rises c.in-Ok.ensures.1 in
    (s.relays_fit.there, s.relays)

pub returns-in_default-spot : goal.returns-in_default-spot
returns-in_default-spot c =
    absent_bounds _ _ _ _ _ c.in-Ok.ensures.1 (sym c.in_default-spot.ensures.there) refl

pub lists-requires : goal.lists-requires
lists-requires c = start_housed c.in-Ok.ensures.1

pub span_at-requires : goal.span_at-requires
span_at-requires c =
    at_roomed c.in-Ok.ensures.1 (sym c.in-Ok-spot.ensures.there) refl c.in-Ok-spot.ensures.spot

pub returns-then-lists : goal.returns-then-lists
returns-then-lists c =
    found_bounds _ _ _ _ _ c.in-Ok.ensures.1 (sym c.in-Ok-spot.ensures.there) refl c.in-Ok-spot.ensures.spot
    c.lists.ensures c.if-lists.true c.span_at.ensures

pub returns-else-lists : goal.returns-else-lists
returns-else-lists c = other_bounds _ _ _ _ _ c.in-Ok.ensures.1 c.lists.ensures c.if-lists.false
