-- `holes::sit_down` meets its contract. The loop's invariant (`Sitting`): the first c sit down and are listed, the relay that the last of them
-- left is the next one's, and those to come sit where they sat. Assumes nothing.
use Rattle.holes.proofs.Seated.{Sitting}
use Rattle.holes.proofs.sit_down.Given as goal

abbrev pub invariant-loop-c : goal.invariant-loop-c
invariant-loop-c l = Sitting l.initial.tablets l.initial.moves l.m l.places l.initial.new.0 l.tablets l.moves l.new.0 l.c
