-- `answer::echo` meets its contract. Assumes nothing.
use mathlib.Core.Path.{◌∙◌}
use native.Mathlib.Omega.{arith}
use Rattle.std.proofs.lemmas.Grind.{common_steps}
use Rattle.text.proofs.Puts.{puts_append}
use Rattle.answer.proofs.Ends.{puts_ends}
use Rattle.answer.proofs.echo.Goals as goal

pub returns : goal.returns
returns c =
    puts_ends (puts_append c.put_bytes.ensures.puts c.put_byte.ensures.puts)
    (grind (arith, common_steps, c.put_byte.ensures.same_slice ∙ c.put_bytes.ensures.same_slice))
