-- A table's places, two numbers each, are parted by the number's being there where the numbers come first.
--   parted, parted_once    the pairs are parted, and at one place alone
-- Assumes nothing.
use mathlib.Core.Bool.{true, false}
use mathlib.Core.List.{List, []}
use mathlib.Core.Path.{◌≡◌}
use Prim.Native.Nat.{ℕ, ◌≤◌, ◌<◌}
use native.Mathlib.Omega.{arith}
use borrow.Author.Tests.{ltb-true, ltb-false, lt-ltb}
use lib.Dec.{ltb}
use lib.ListN.{length, get_or}
use Rattle.std.specs.List.Sorted.{IsPartitionedBy, IsPartitionPoint}
use Rattle.ring.proofs.Tests.{split}
use Rattle.entries.specs.Entries.{Ends}

module _ (number : ℕ → ℕ) (xs : List (List ℕ)) {n : ℕ} (e : Ends number (length xs) n)
    (reads : (i : ℕ) (d : List ℕ) → i < length xs → get_or (get_or xs i d) 0 0 ≡ number i) where
  pub parted : IsPartitionedBy (λ (place : List ℕ). ltb 0 (get_or place 0 0)) xs
  parted i j d h l t =
      let up : 0 < number j = omega (arith, reads j d l, ltb-true 0 (get_or (get_or xs j d) 0 0) t) in
      split (ltb i n)
      (λ b. lt-ltb 0 _ (omega (arith, reads i d (omega arith), e.numbered i (ltb-true i n b))))
      (λ b. absurd (omega (arith, e.unnumbered j (omega (arith, ltb-false i n b)) l)))

  pub parted_once : (r : ℕ) → r ≤ length xs
      → IsPartitionPoint (λ (place : List ℕ). ltb 0 (get_or place 0 0) ≡ true)
      (λ (place : List ℕ). ltb 0 (get_or place 0 0) ≡ false) xs r → r ≡ n
  parted_once r w s =
      split (ltb r n)
      (λ b. let h : r < n = ltb-true r n b in
      let here : r < length xs = omega (arith, e.within) in
      absurd (omega (
        arith,
        reads r [] here,
        e.numbered r h,
        ltb-false 0 (get_or (get_or xs r []) 0 0) (s.1 r [] (omega arith) here),
      )))
      (λ b. split (ltb n r)
      (λ b. let h : n < r = ltb-true n r b in
      let here : n < length xs = omega arith in
      absurd (omega (
        arith,
        reads n [] here,
        e.unnumbered n (omega arith) here,
        ltb-true 0 (get_or (get_or xs n []) 0 0) (s.0 n [] (omega arith) h),
      )))
      (λ k. omega (arith, ltb-false r n b, ltb-false n r k)))
