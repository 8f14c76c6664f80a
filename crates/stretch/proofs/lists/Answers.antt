-- `stretch::lists` meets its contract. The invariant: the first j tablets stand at their indices, and `next` has the next index of each relay.
-- Assumes nothing.
use mathlib.Core.Path.{refl}
use Prim.Native.Nat.{◌<◌}
use native.Mathlib.Omega.{arith}
use lib.ListN.{get_or}
use Rattle.sheet.proofs.NextIndices.{points_inside}
use Rattle.stretch.proofs.Compared.{lists_short, lists_start, lists_more, lists_not, lists_end}
use Rattle.stretch.proofs.lists.Goals as goal
use Rattle.stretch.proofs.lists.Goals.{After-place_of-i}

-- the next index of its relay
inside : (c : After-place_of-i) → get_or c.loop-j.next
    c.place_of-i.result 0 < c.args.survey.now.m
inside c =
    points_inside c.requires _ c.loop-j-test.true c.loop-j.invariant.points
    c.place_of-i.ensures refl

pub returns-then-sheet-survey : goal.returns-then-sheet-survey
returns-then-sheet-survey c = lists_short c.requires _ c.if-sheet-survey.true

pub loop-j-init : goal.loop-j-init
loop-j-init c = lists_start c.requires _ c.starts-next.ensures

pub offset_bounds-sheet-at : goal.offset_bounds-sheet-at
offset_bounds-sheet-at c = omega (arith, inside (goal.at.offset_bounds-sheet-at c).After-place_of-i)

pub bounds-sheet-at : goal.bounds-sheet-at
bounds-sheet-at c =
    omega (arith, inside (goal.at.bounds-sheet-at c).After-place_of-i, c.if-sheet-survey.false)

pub returns-then-sheet-at : goal.returns-then-sheet-at
returns-then-sheet-at c =
    lists_not c.requires _ _ c.loop-j-test.true c.loop-j.invariant
    c.place_of-i.ensures refl c.tablet_number.ensures
    c.if-sheet-at.true

pub overflow_add-next : goal.overflow_add-next
overflow_add-next c = omega (arith, inside (goal.at.overflow_add-next c).After-place_of-i)

pub loop-j-preserved : goal.loop-j-preserved
loop-j-preserved c =
    lists_more c.requires _ _ c.loop-j-test.true c.loop-j.invariant c.place_of-i.ensures refl c.tablet_number.ensures
    c.if-sheet-at.false

pub returns : goal.returns
returns c =
    lists_end c.requires _ c.if-sheet-survey.false c.loop-j.auto.j-end c.loop-j-test.false
    c.loop-j.invariant
