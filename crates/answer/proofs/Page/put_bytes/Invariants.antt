-- The invariant of `answer::Page::put_bytes`: the bytes so far are put.
use mathlib.Core.Path.{◌≡◌}
use lib.ListN.{take}
use Rattle.text.specs.Puts.{Puts}
use Rattle.answer.proofs.Page.put_bytes.Given as goal

abbrev pub invariant-loop-byte : goal.invariant-loop-byte
invariant-loop-byte l = record {
  puts : Puts l.initial.self.out.now l.initial.self.at (take l.byte-index l.bytes) l.self.out.now l.self.at;
  same_slice : l.self.out.ghost_name ≡ l.initial.self.out.ghost_name;
}
