-- `chain::turn` meets its contract. The invariant (`Going`): as many steps from the home, the chain is that of the turn over the relays
-- passed, and the walker is who is kept last. The measure is what is left of the steps to the first slot with room.
-- Assumes nothing.
use native.Mathlib.Omega.{arith}
use Rattle.chain.proofs.Turns.{going_start, slot_small, more_steps, room_for_one, last_small, place_there, going_more, going_end, steps_few, few_relays_lem}
use Rattle.chain.proofs.turn.Goals as goal

pub loop-k-init : goal.loop-k-init
loop-k-init c = going_start c.requires.1 _ c.new-chain.ensures.0 c.new-chain.ensures.1 (omega arith) (omega arith)

pub slot_relay-i-requires : goal.slot_relay-i-requires
slot_relay-i-requires c =
    let f = c.requires.1 in omega (arith, slot_small f c.loop-k.invariant, f.rises.relays_fit.few)

pub walker-w-requires : goal.walker-w-requires
walker-w-requires c =
    let f = c.requires.1 in
    let going = c.loop-k.invariant in
    let room = room_for_one f going c.loop-k-test.true in
    (omega (arith, room.0), place_there f going)

pub visit-requires : goal.visit-requires
visit-requires c =
    let f = c.requires.1 in
    let going = c.loop-k.invariant in
    let relay = c.slot_relay-i.ensures in
    let small = last_small f going _ relay.0 in
    let fit = f.rises.tablets_fit in
    let room = room_for_one f going c.loop-k-test.true in (
      room.0,
      relay.1,
      omega (arith, small, fit.few, c.from.ensures),
      omega (arith, small, fit.there, c.from.ensures),
      room.1,
    )

pub next_slot-k-requires : goal.next_slot-k-requires
next_slot-k-requires c =
    let f = c.requires.1 in
    omega (arith, slot_small f c.loop-k.invariant, f.rises.relays_fit.few)

pub loop-k-smaller : goal.loop-k-smaller
loop-k-smaller c = omega (arith, c.visit.ensures.passed, more_steps c.requires.1 c.loop-k.invariant c.loop-k-test.true)

pub loop-k-preserved : goal.loop-k-preserved
loop-k-preserved c =
    let f = c.requires.1 in
    going_more f c.loop-k.invariant c.loop-k-test.true _ _ _ c.slot_relay-i.ensures.0 c.walker-w.ensures c.from.ensures
    _ _ c.visit.ensures c.next_slot-k.ensures

pub bounds-chain-chain : goal.bounds-chain-chain
bounds-chain-chain c =
    let f = c.requires.1 in
    let going = c.loop-k.invariant in
    omega (arith, going.few, going.short, steps_few f, few_relays_lem f)

pub returns : goal.returns
returns c = going_end c.requires.1 c.loop-k.invariant c.loop-k-test.false _ c.slot_relay-i-2.ensures.0
