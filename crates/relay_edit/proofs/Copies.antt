-- A relay table copied, and what the copy has of the table.
--   zeros_behind, copied_from                 the table's numbers, with zeros behind them
--   copied_relays                             the copy has the table's places
-- Assumes nothing.
use mathlib.Core.List.{List, [], ◌∷◌, ◌++◌}
use mathlib.Core.Path.{◌≡◌, refl, ◌∙◌}
use Prim.Native.Nat.{ℕ, zero, suc, ◌+◌, ◌-◌, ◌*◌, ◌≤◌}
use native.Mathlib.Omega.{arith}
use lib.ListN.{length, get_or, drop, replicate, length-append, length-replicate}
use Rattle.std.proofs.lemmas.List.{drop-replicate}
use Rattle.tables.specs.Table.{relay_number, relay_limit, beside_in, number_in}
use Rattle.meaning.specs.Meaning.{relays_in}
use Rattle.meaning.proofs.Places.{places_ext}
use Rattle.relay_edit.specs.Edited.{own_numbers, Copied}

-- zeros behind numbers are as nothing behind them
pub zeros_behind : (l : List ℕ) (m i : ℕ) → get_or (l ++ replicate m 0) i 0 ≡ get_or l i 0
zeros_behind [] zero i = refl
zeros_behind [] (suc m) zero = refl
zeros_behind [] (suc m) (suc i) = zeros_behind [] m i
zeros_behind (x ∷ l) m zero = refl
zeros_behind (x ∷ l) m (suc i) = zeros_behind l m i

pub copied_from : (rs : List ℕ) {x : List ℕ} → x ≡ rs → length rs ≤ own_numbers
    → Copied rs (x ++ drop (length rs) (replicate own_numbers 0))
copied_from rs e h =
    rw (e, drop-replicate {X = ℕ} (length rs) own_numbers 0)
    (record {
      size = length-append rs (replicate (own_numbers - length rs) 0)
          ∙ omega (arith, length-replicate {A = ℕ} (own_numbers - length rs) 0);
      same = zeros_behind rs (own_numbers - length rs);
    })

-- ---- the copy

module _ {rs own : List ℕ} (c : Copied rs own) where
  pub copied_number : (i : ℕ) → relay_number own i ≡ relay_number rs i
  unfolding number_in
  copied_number i = c.same (2 * i)

  pub copied_limit : (i : ℕ) → relay_limit own i ≡ relay_limit rs i
  unfolding beside_in
  copied_limit i = c.same (2 * i + 1)

  pub copied_relays : (n : ℕ) → relays_in own n ≡ relays_in rs n
  copied_relays n =
      places_ext (relay_number own) (relay_limit own) (relay_number rs) (relay_limit rs) n (λ i h. copied_number i)
      (λ i h. copied_limit i)
