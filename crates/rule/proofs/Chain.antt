-- One step of an enrolment and of a withdrawal, on placements that are stable but for one tablet.
--   settle    the walker sits down at a relay with room
--   evict     it takes the place of the greatest number at a full one
--   closed    a hole that nobody had passed: nothing is left to do
--   later     who had passed a hole has a greater number than who left it
--   refill    the lowest of these takes the hole, and leaves one
-- Assumes nothing.
use mathlib.Core.Path.{◌≡◌, ap}
use mathlib.Core.List.{List}
use mathlib.Core.Logic.{⊎_elim}
use Prim.Native.Nat.{ℕ, ◌+◌, ◌≤◌, ◌<◌}
use native.Mathlib.Omega.{arith}
use borrow.Author.Tests.{ltb-true, ltb-false, eqb-true, eqb-false}
use lib.Dec.{eqb, ltb}
use Rattle.ring.proofs.Tests.{split}
use Rattle.rule.specs.Entry.{Entry, numbers, insert, delete, load}
use Rattle.rule.specs.Rooms.{held}
use Rattle.rule.specs.Stability.{Rising, lower, Sits, Fair, Stable}
use Rattle.rule.proofs.Counts.{at, at_other, at_not, at_le, at_one, lower_insert, lower_delete, lower_load}
use Rattle.rule.proofs.Counts.{lower_load_one, lower_between, sits_insert, sits_delete, sits_deleted}

-- relay r has a hole since w, as if w still sat there: everybody else is fair with w in
abbrev pub Hole : (ℕ → ℕ → ℕ) → List Entry → List Entry → ℕ → ℕ → Type 0
Hole key rs p w r = (n v : ℕ) → Sits p n v → Fair key rs (insert w r p) n v

module _ (key : ℕ → ℕ → ℕ) (rs p : List Entry) (low : ℕ) (up : Rising low (numbers p)) where
  -- ---- enrolment: w walks, and c is the nearest relay that the lower ones leave it

  -- c is not full: w settles there
  pub settle : Stable key rs p → (w c : ℕ) → Fair key rs p w c → load p c < held rs c → Stable key rs (insert w c p)
  settle st w c f free n v i =
      ⊎_elim
      (λ u. rw (← u.0, ← u.1)
      (record {
        room = omega (arith, lower_insert w c p c w, at_not c c w w (omega arith), f.room);
        least = λ q h. f.least q (omega (arith, lower_insert w c p q w));
      }))
      (λ j.
      record {
        room = split (eqb c v)
            (λ s. let e : c ≡ v = eqb-true c v s in
            omega (
              arith,
              lower_insert w c p v n,
              at_one c v w n,
              lower_load_one p v n n j (omega arith),
              ap
                  (λ (x : ℕ). load p x) e,
              ap (λ (x : ℕ). held rs x) e,
            ))
            (λ s. omega (arith, lower_insert w c p v n, at_other c v w n (eqb-false c v s), (st n v j).room));
        least = λ q h. (st n v j).least q (omega (arith, lower_insert w c p q n));
      })
      (sits_insert w c p n v i)

  -- g is the greatest there, and gives way
  pub evict : Stable key rs p → (w c g : ℕ) → Fair key rs p w c → Sits p g c → w < g → ((n : ℕ) → Sits p n c → n ≤ g)
      → Stable key rs (insert w c (delete g p))
  evict st w c g f sg l top n v i =
      let d : List Entry = delete g p in
      ⊎_elim
      (λ u. rw (← u.0, ← u.1)
      (record {
        room = omega (
          arith,
          lower_insert w c d c w,
          at_not c c w w (omega arith),
          lower_delete g c p low up sg c w,
          f.room,
        );
        least = λ q h. f.least q (omega (
          arith,
          lower_insert w c d q w,
          lower_delete g c p low up sg q w,
          at_not c q g
              w (omega arith),
        ));
      }))
      (λ j'.
      let j : Sits p n v = sits_delete g p n v j' in
      record {
        room = split (eqb c v)
            (λ s. let e : c ≡ v = eqb-true c v s in
            let jc : Sits p n c = rw e j in
            let ne : n ≡ g → ⊥ = sits_deleted g p low up n v j' in
            let lt : n < g = omega (arith, top n jc) in
            rw (← e) (omega (
              arith,
              lower_insert w c d c n,
              at_one c c w n,
              lower_delete g c p low up sg c n,
              lower_between p c n n g jc (omega arith) lt,
              (st g c sg).room,
            )))
            (λ s. omega (
              arith,
              lower_insert w c d v n,
              at_other c v w n (eqb-false c v s),
              lower_delete g c p low up sg
                  v n,
              (st n v j).room,
            ));
        least = λ q h. (st n v j).least q
            (omega (
              arith,
              lower_insert w c d q n,
              lower_delete g c p low up sg q n,
              at_le c q g n w n
                  (λ (x : g < n). omega arith),
            ));
      })
      (sits_insert w c d n v i)

  -- ---- withdrawal: relay r has a hole since w, as if w still sat there. Everybody else is fair with w in

  -- nobody passed r: the hole stays open
  pub closed : (w r : ℕ) → Hole key rs p w r → ((n v : ℕ) → Sits p n v → key n v ≤ key n r) → Stable key rs p
  closed w r ho none n v i =
      record {
        room = omega (arith, (ho n v i).room, lower_insert w r p v n);
        least = λ q h. split (eqb r q)
            (λ s. rw (← eqb-true r q s) (none n v i))
            (λ s. (ho n v i).least q (omega (arith, lower_insert w r p q n, at_other r q w n (eqb-false r q s))));
      }

  -- whoever passed r has a greater number than w
  pub later : (w r s v₀ : ℕ) → Hole key rs p w r → load p r < held rs r → Sits p s v₀ → key s r < key s v₀ → w < s
  later w r s v₀ ho free sit better =
      split (ltb w s)
      (λ x. ltb-true w s x)
      (λ x. absurd (let z : key s v₀ ≤ key s r =
      (ho s v₀ sit).least r (omega (
        arith,
        lower_insert w r p r s,
        at_not r r w s
            (ltb-false w s x),
        lower_load p r s,
      )) in omega arith))

  -- s is the lowest who passed r: s takes the hole, and leaves one at v₀
  pub refill : (w r s v₀ : ℕ) → Hole key rs p w r → load p r < held rs r → Sits p s v₀ → key s r < key s v₀
      → ((n v : ℕ) → Sits p n v → key n r < key n v → s ≤ n)
      → (n v : ℕ) → Sits (insert s r (delete s p)) n v → Fair key rs (insert s v₀ (insert s r (delete s p))) n v
  refill w r s v₀ ho free sit better lowest n v i =
      let d : List Entry = delete s p in
      let p' : List Entry = insert s r d in
      -- counts, with the holes counted in
      let cnt : (q m : ℕ) → lower (insert s v₀ p') q m ≡ at r q s m + lower p q m =
      λ q m. omega (arith, lower_insert s v₀ p' q m, lower_insert s r d q m, lower_delete s v₀ p low up sit q m) in
      let after : w < s = later w r s v₀ ho free sit better in
      ⊎_elim
      (λ u. rw (← u.0, ← u.1)
      (record {
        room = omega (arith, cnt r s, at_not r r s s (omega arith), lower_load p r s);
        least = λ q h. split (eqb r q)
            (λ x. omega (arith, ap (key s) (eqb-true r q x)))
            (λ x. omega (
              arith,
              (ho s v₀ sit).least q
                  (omega (arith, cnt q s, lower_insert w r p q s, at_other r q w s (eqb-false r q x))),
            ));
      }))
      (λ j'.
      let j : Sits p n v = sits_delete s p n v j' in
      let ne : n ≡ s → ⊥ = sits_deleted s p low up n v j' in
      let f : Fair key rs (insert w r p) n v = ho n v j in
      record {
        room = omega (arith, f.room, cnt v n, lower_insert w r p v n, at_le r v s n w n (λ (x : s < n). omega arith));
        least = λ q h. split (ltb s n)
            (λ x. f.least q (omega (
              arith,
              cnt q n,
              lower_insert w r p q n,
              at_le r q w n s n
                  (λ (y : w < n). ltb-true s n x),
            )))
            (λ x. split (eqb r q)
            (λ y. rw (← eqb-true r q y)
            (split (ltb (key n r) (key n v))
            (λ z. absurd (omega (arith, lowest n v j (ltb-true (key n r) (key n v) z), ltb-false s n x)))
            (λ z. ltb-false (key n r) (key n v) z)))
            (λ y. f.least q (omega (arith, cnt q n, lower_insert w r p q n, at_other r q w n (eqb-false r q y)))));
      })
      (sits_insert s r d n v i)
