-- `answer::Page::put_move` meets its contract: `m ` and three numbers, one behind the other. Assumes nothing.
use Rattle.answer.specs.Text.{move_text}
use Rattle.text.proofs.Puts.{puts_append}
use Rattle.answer.proofs.Page.put_move.Goals as goal

pub returns-clause-puts : goal.returns-clause-puts
unfolding move_text
returns-clause-puts c =
    puts_append c.put_bytes.ensures.puts
    (puts_append c.put_number.ensures.puts
    (puts_append c.put_number-2.ensures.puts c.put_number-3.ensures.puts))
