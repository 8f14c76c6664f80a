-- `survey::Survey::learn` meets its contract. The invariant: the first j tablets are placed by the rule and surveyed, and a walk to the last
-- position, or past it, may begin at h. Assumes nothing.
use mathlib.Core.Bool.{true}
use mathlib.Core.Path.{◌≡◌}
use Rattle.ring.specs.Scheme.{positions}
use Rattle.tables.specs.Placement.{placed}
use Rattle.home.specs.Home.{key_at, Begins}
use Rattle.survey.specs.Seats.{Surveyed}
use Rattle.survey.proofs.Survey.learn.Given as goal

abbrev pub invariant-loop-j : goal.invariant-loop-j
invariant-loop-j l =
    (true ≡ placed (positions l.scheme) l.relays l.tablets l.n l.j) × Begins l.keys l.n (key_at l.from.0) l.h
    × Surveyed (positions l.scheme) l.relays l.tablets l.n l.j
    (record { n = l.n; m = l.j; keys = l.keys; room = l.room; next = l.next; last = l.last; home = l.self.home; slot = l.self.slot })
