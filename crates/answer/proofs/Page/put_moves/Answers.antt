-- `answer::Page::put_moves` meets its contract. Assumes nothing.
use mathlib.Core.List.{[], ◌++◌}
use mathlib.Core.Path.{◌≡◌, refl, ap, ◌∙◌}
use Prim.Native.Nat.{◌+◌, ◌<◌, ◌/◌}
use native.Mathlib.Numerals.{add-one}
use native.Mathlib.Omega.{arith}
use lib.ListN.{length, get_or, take, length-take}
use Rattle.std.specs.Simd.{first_chunks}
use Rattle.std.proofs.lemmas.List.{get_or-take}
use Rattle.answer.specs.Text.{move_text_at, moves_text}
use Rattle.text.proofs.Puts.{puts_nothing, puts_text, puts_append}
use Rattle.answer.proofs.Records.{record_text}
use Rattle.answer.proofs.Page.put_moves.Goals as goal

pub loop-moved-init : goal.loop-moved-init
unfolding moves_text
loop-moved-init c = record { puts = puts_nothing _ (omega arith); same_slice = refl }

pub loop-moved-preserved : goal.loop-moved-preserved
unfolding moves_text
loop-moved-preserved c =
    let l = c.loop-moved in
    let i = l.moved-index in
    let moves = c.args.moves.now in
    let h : i < c.args.count = omega (arith, c.loop-moved-test.true, length-take c.args.count c.as_chunks.result.0.now) in
    let more : moves_text moves i ++ move_text_at moves i ≡ moves_text moves (i + 1) = rw (add-one) in
    let e : get_or (take c.args.count c.as_chunks.result.0.now) i [] ≡ get_or (first_chunks 3 (length moves / 3) moves) i [] =
    get_or-take c.args.count c.as_chunks.result.0.now i [] h ∙ ap (λ x. get_or x i []) c.as_chunks.ensures.front in
    record {
      puts = puts_text more (puts_append l.invariant.puts
          (puts_text (rw e (record_text (length moves / 3) i moves (omega arith))) c.put_move.ensures.puts));
      same_slice = c.put_move.ensures.same_slice ∙ l.invariant.same_slice;
    }

pub returns-clause-puts : goal.returns-clause-puts
returns-clause-puts c =
    let e : c.loop-moved.moved-index ≡ c.args.count = omega (arith, length-take c.args.count c.as_chunks.result.0.now) in
    rw e at c.loop-moved.invariant.puts
