-- `answer::Page::put_bytes` meets its contract. Assumes nothing.
use mathlib.Core.List.{[], ◌∷◌, ◌++◌}
use mathlib.Core.Path.{◌≡◌, ◌∙◌, refl}
use Prim.Native.Nat.{◌+◌, ◌<◌}
use native.Mathlib.Numerals.{add-one}
use native.Mathlib.Omega.{arith}
use lib.ListN.{length, take, get_or}
use lib.Seq.{take-suc, take_all}
use Rattle.text.proofs.Puts.{puts_nothing, puts_append}
use Rattle.answer.proofs.Page.put_bytes.Goals as goal

pub loop-byte-init : goal.loop-byte-init
loop-byte-init c = record { puts = puts_nothing _ (omega arith); same_slice = refl }

pub loop-byte-preserved : goal.loop-byte-preserved
loop-byte-preserved c =
    let l = c.loop-byte in
    let bytes = c.args.bytes.now in
    let h : l.byte-index < length bytes = c.loop-byte-test.true in
    let more : take (l.byte-index + 1) bytes ≡ take l.byte-index bytes ++ (get_or bytes l.byte-index 0 ∷ []) = rw
    (add-one, take-suc bytes l.byte-index 0) in
    record {
      puts = rw more (puts_append l.invariant.puts c.put_byte.ensures.puts);
      same_slice = c.put_byte.ensures.same_slice ∙ l.invariant.same_slice;
    }

pub returns-clause-puts : goal.returns-clause-puts
returns-clause-puts c = rw (take_all c.loop-byte.byte-index c.args.bytes.now c.loop-byte-test.false) at c.loop-byte.invariant.puts
