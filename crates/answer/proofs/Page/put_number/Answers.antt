-- `answer::Page::put_number` meets its contract: what is printed of the number is its text. Assumes nothing.
use mathlib.Core.Path.{◌∙◌}
use native.Mathlib.Omega.{arith}
use Rattle.answer.specs.Text.{number_then}
use Rattle.text.proofs.Puts.{puts_text, puts_append}
use Rattle.answer.proofs.Digits.{spelled}
use Rattle.answer.proofs.Page.put_number.Goals as goal

pub returns-clause-puts : goal.returns-clause-puts
unfolding number_then
returns-clause-puts c =
    puts_append (puts_text (c.as_bytes.ensures.value ∙ c.format.ensures.text ∙ spelled _ (omega arith)) c.put_bytes.ensures.puts)
    c.put_byte.ensures.puts
