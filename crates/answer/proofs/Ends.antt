-- What is put on a page is what its slice ends as (`puts_ends`). Assumes nothing.
use mathlib.Core.List.{List}
use mathlib.Core.Path.{◌≡◌}
use Prim.Native.Nat.{ℕ}
use Rattle.text.specs.Puts.{Puts}

pub puts_ends : {l s m end : List ℕ} {at n : ℕ} → Puts l at s m n → end ≡ m → Puts l at s end n
puts_ends p e = rw e p
