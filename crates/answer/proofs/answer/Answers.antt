-- `answer::answer` meets its contract: four numbers and the moves, one behind the other. Assumes nothing.
use mathlib.Core.Path.{ap, ◌∙◌}
use native.Mathlib.Omega.{arith}
use Rattle.std.proofs.lemmas.Grind.{common_steps}
use Rattle.answer.specs.Text.{number_then, reply_text, moves_text, answer_text}
use Rattle.text.proofs.Puts.{puts_text, puts_append}
use Rattle.answer.proofs.Ends.{puts_ends}
use Rattle.answer.proofs.answer.Goals as goal

pub returns : goal.returns
unfolding answer_text reply_text
returns c =
    let refusal = puts_text (ap (λ k. number_then k 32) c.from.ensures) c.put_number.ensures.puts in
    let passed = puts_append c.put_number-3.ensures.puts c.put_number-4.ensures.puts in
    let reply = puts_append refusal (puts_append c.put_number-2.ensures.puts passed) in
    let all = puts_append reply (puts_text (ap (moves_text c.args.moves.now) c.min.ensures) c.put_moves.ensures.puts) in
    let same = c.put_moves.ensures.same_slice ∙ c.put_number-4.ensures.same_slice ∙ c.put_number-3.ensures.same_slice
    ∙ c.put_number-2.ensures.same_slice ∙ c.put_number.ensures.same_slice in
    puts_ends all (grind (arith, common_steps, same))
