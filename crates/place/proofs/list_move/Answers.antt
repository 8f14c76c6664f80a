-- `place::list_move` meets its contract: three stores, each within the list. Assumes nothing.
use native.Mathlib.Numerals.{add-one, add-two}
use native.Mathlib.Omega.{arith}
use lib.ListN.{length-set}
use Rattle.place.specs.MoveList.{set_move}
use Rattle.place.proofs.list_move.Goals as goal

pub bounds-moves-c-2 : goal.bounds-moves-c-2
bounds-moves-c-2 c = simp length-set (omega arith)

pub bounds-moves-c-3 : goal.bounds-moves-c-3
bounds-moves-c-3 c = simp length-set (omega arith)

pub returns : goal.returns
unfolding set_move
returns c = rw (add-one, add-two)
