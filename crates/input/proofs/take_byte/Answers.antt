-- `input::take_byte` meets its contract, for a newline and for any other byte. Assumes nothing.
use Rattle.input.proofs.Takes.{takes_end, takes_kept}
use Rattle.input.proofs.take_byte.Goals as goal

pub returns-then-ends : goal.returns-then-ends
returns-then-ends c =
    takes_end c.if-ends.true
    c.kept_part-whole.ensures c.answer_line.ensures

pub returns : goal.returns
returns c = takes_kept c.if-ends.false c.put_byte-kept.ensures
