-- `home::home_of` meets its contract: a walk to p may begin at the last home where p is not before the last position, and else at the start
-- of its arc. Assumes nothing.
use mathlib.Core.Path.{sym, ◌∙◌}
use native.Mathlib.Omega.{arith}
use borrow.Author.Tests.{leb-true}
use Rattle.ring.proofs.Tests.{and_right}
use Rattle.home.proofs.Walk.{begins_later, starts_at}
use borrow.Author.Rules.{rules}
use Rattle.home.proofs.home_of.Goals as goal
use Rattle.home.proofs.home_of.Goals.{then-goes_on, else-goes_on}

pub advance-requires : goal.advance-requires
advance-requires c =
    let p = c.requires in
    let a = c.args in
    let at = c.from-at.ensures in (
      p.0,
      p.1,
      elim c.if-goes_on.branch [
        | then-goes_on w ↦
            let on = leb-true a.last.0 a.p.0 (and_right a.in_turn _ (sym c.goes_on.ensures ∙ w.if-goes_on.true)) in
            rw w.from-is (begins_later p.3 (omega (arith, on, at)))
        | else-goes_on w ↦ rw at (starts_at p.2 (search rules) (w.from-is ∙ rw at at w.from-from.ensures))
      ],
    )
