-- Two numbers to a place are stored, or the second alone: place_set and beside_set. Assumes nothing.
use mathlib.Core.List.{List}
use mathlib.Core.Path.{◌≡◌, ◌∙◌}
use Prim.Native.Nat.{ℕ, ◌+◌, ◌*◌, ◌<◌}
use native.Mathlib.Omega.{arith}
use lib.ListN.{length, get_or, set, length-set}
use lib.Seq.{get_or-set_same, get_or-set_other}
use Rattle.place.specs.Places.{SetPlace, SetBeside}

abbrev pub first_of : List ℕ → ℕ → ℕ
first_of l i = get_or l (2 * i) 0

abbrev pub second_of : List ℕ → ℕ → ℕ
second_of l i = get_or l (2 * i + 1) 0

pub beside_set : (l : List ℕ) (k v : ℕ) → 2 * k + 1 < length l → SetBeside first_of second_of l (set l (2 * k + 1) v) k v
beside_set l k v h =
    record {
      size = length-set l (2 * k + 1) v;
      beside = get_or-set_same l (2 * k + 1) v 0 h;
      numbers = λ i. get_or-set_other l (2 * k + 1) (2 * i) v 0 (λ (z : 2 * i ≡ 2 * k + 1). omega arith);
      besides = λ i d. get_or-set_other l (2 * k + 1) (2 * i + 1) v 0 (λ (z : 2 * i + 1 ≡ 2 * k + 1). d (omega arith));
    }

pub place_set : (l : List ℕ) (k x v : ℕ) → 2 * k + 1 < length l
    → SetPlace first_of second_of l (set (set l (2 * k) x) (2 * k + 1) v) k x v
place_set l k x v h =
    let n : length (set l (2 * k) x) ≡ length l = length-set l (2 * k) x in
    let s : SetBeside first_of second_of (set l (2 * k) x) (set (set l (2 * k) x) (2 * k + 1) v) k v = beside_set
    (set l (2 * k) x) k v (omega arith) in
    record {
      size = s.size ∙ n;
      number = s.numbers k ∙ get_or-set_same l (2 * k) x 0 (omega arith);
      beside = s.beside;
      numbers = λ i d. s.numbers i ∙ get_or-set_other l (2 * k) (2 * i) x 0 (λ (z : 2 * i ≡ 2 * k). d (omega arith));
      besides = λ i d. s.besides i d ∙ get_or-set_other l (2 * k) (2 * i + 1) x 0
          (λ (z : 2 * i + 1 ≡ 2 * k). omega arith);
    }
