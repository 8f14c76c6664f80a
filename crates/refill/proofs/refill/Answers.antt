-- `refill::refill` meets its contract. The invariant: the first j tablets are placed by the rule, however the positions come. Assumes
-- nothing.
use mathlib.Core.List.{List}
use mathlib.Core.Path.{refl}
use Prim.Native.Nat.{ℕ}
use native.Mathlib.Omega.{arith}
use Rattle.ring.specs.Scheme.{Positions}
use Rattle.ring_edit.specs.Homes.{Homes}
use Rattle.refill.proofs.Refills.{filling_none, filling_more, filling_end, Turn, turn_takes}
use Rattle.refill.proofs.refill.Goals as goal
use Rattle.refill.proofs.refill.Goals.{After-led_to-k}

-- where tablet j's walk goes from, and where the row leads from there
turn : (c : After-led_to-k) (p : Positions) (ts : List ℕ)
    → let a = c.args in let l = c.loop-j in
    Homes p a.relays.now ts a.n a.m a.keys.now a.home.now
    → Turn p a.relays.now ts a.n a.m l.j a.keys.now a.home.now l.room l.next l.relay
    c.from-h.result c.led_to-k.result
turn c p ts o =
    record {
      asked = c.requires;
      more = c.loop-j-test.true;
      homes = o;
      filling = c.loop-j.invariant.by p ts o;
      from = c.from-h.ensures;
      byte = omega (arith, c.from-h.ensures, c.fits-home c.loop-j.j);
      led_to = c.led_to-k.ensures.0;
    }

pub loop-j-init : goal.loop-j-init
loop-j-init c = record {
  by = λ p ts o. filling_none o c.relay_limits-room.ensures c.first_row-next.ensures refl;
}

pub take-requires : goal.take-requires
take-requires c =
    let asked = c.requires in
    turn_takes (turn (goal.at.take-requires c).After-led_to-k asked.positions asked.tablets asked.homes)

pub loop-j-preserved : goal.loop-j-preserved
loop-j-preserved c =
    let e = c.take.ensures in record {
      by = λ p ts o. filling_more (turn (goal.at.loop-j-preserved c).After-led_to-k p ts o) c.slot_relay.ensures.0 e.0
          e.1;
    }

pub returns : goal.returns
returns c = λ p ts o. filling_end c.loop-j-test.false (c.loop-j.invariant.by p ts o)
