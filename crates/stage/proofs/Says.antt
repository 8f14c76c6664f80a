-- An answer that was put is said (`says_text`). Assumes nothing.
use mathlib.Core.List.{List}
use mathlib.Core.Path.{refl}
use Prim.Native.Nat.{ℕ}
use Rattle.text.specs.Puts.{Puts}
use Rattle.stage.specs.declared.Stage.{Stage}
use Rattle.stage.specs.Stage.{says, Says}

pub says_text : {next : Stage} {out t out' : List ℕ} {n : ℕ} → Puts out 0 t out' n
    → Says (says next t) out (record { stage = next; kept = 0; due = n }) out'
unfolding says
says_text p = record { stage = refl; kept = refl; puts = p }
