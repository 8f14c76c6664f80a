-- The invariant of `answer::Page::put_moves`: the moves so far are put.
use mathlib.Core.Path.{◌≡◌}
use Rattle.text.specs.Puts.{Puts}
use Rattle.answer.specs.Text.{moves_text}
use Rattle.answer.proofs.Page.put_moves.Given as goal

abbrev pub invariant-loop-moved : goal.invariant-loop-moved
invariant-loop-moved l = record {
  puts : Puts l.initial.self.out.now l.initial.self.at (moves_text l.moves l.moved-index) l.self.out.now l.self.at;
  same_slice : l.self.out.ghost_name ≡ l.initial.self.out.ghost_name;
}
