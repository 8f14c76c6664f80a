-- The table that a lent table is once it is replaced.
--   filled_replaced                                 from entries and zeros come entries and zeros
-- Assumes nothing.
use mathlib.Core.List.{List, ◌++◌}
use mathlib.Core.Path.{◌≡◌, sym, ap, ◌∙◌}
use Prim.Native.Nat.{ℕ, ◌-◌, ◌≤◌}
use native.Mathlib.Omega.{arith}
use lib.ListN.{length, get_or, replicate, length-append, length-replicate}
use lib.Seq.{ext_get_or}
use Rattle.relay_edit.proofs.Copies.{zeros_behind}
use Rattle.write.specs.Tables.{filled}
use Rattle.relay_calls.specs.Finish.{Replaced}

pub filled_replaced : {own before after : List ℕ} (k : ℕ) (l : List ℕ) → Replaced own before after → own ≡ filled k l
    → length l ≤ length before → after ≡ filled (length before) l
unfolding filled
filled_replaced {own} {before} {after} k l r e h =
    let n : ℕ = length before - length l in
    ext_get_or 0 after (l ++ replicate n 0)
    (omega (arith, r.size, length-append l (replicate n 0), length-replicate {A = ℕ} n 0))
    (λ i b. r.same i (omega (arith, r.size)) ∙ ap (λ (z : List ℕ). get_or z i 0) e ∙ zeros_behind l (k - length l) i
    ∙ sym (zeros_behind l n i))
