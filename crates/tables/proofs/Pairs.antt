-- A table cut into pairs, a number and what stands beside it.
--   pair_number   the number of a place is the first of its pair
-- Assumes nothing.
use mathlib.Core.List.{List, [], ◌∷◌}
use mathlib.Core.Path.{◌≡◌, refl, ap, ◌∙◌}
use Prim.Native.Nat.{ℕ, zero, suc, ◌+◌, ◌*◌, ◌<◌}
use native.Mathlib.Omega.{arith}
use lib.ListN.{get_or, drop}
use Rattle.std.specs.Simd.{first_chunks}
use Rattle.std.proofs.lemmas.List.{get_or-drop}
use Rattle.tables.specs.Table.{number_in}

pub pair_number : (t : List ℕ) (k i : ℕ) (d : List ℕ) → i < k → get_or (get_or (first_chunks 2 k t) i d) 0 0
    ≡ number_in t i
unfolding number_in
pair_number t zero i d h = absurd (omega arith)
pair_number [] (suc k) zero d h = refl
pair_number (x ∷ t) (suc k) zero d h = refl
pair_number t (suc k) (suc i) d h =
    pair_number (drop 2 t) k i d (omega arith) ∙ get_or-drop 2 t (2 * i) 0
    ∙ ap (λ j. get_or t j 0) (let e : 2 + 2 * i ≡ 2 * suc i = omega arith in e)
