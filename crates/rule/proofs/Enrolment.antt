-- An enrolment, step by step: the table is always the rule's for everybody but the one who walks.
--   walk_start     the newcomer walks
--   walk_evict     a greater number gives way, and walks on
--   evict_open     which leaves the next walker fewer relays to come to
--   walk_settle    the walker sits down, and the table is the rule's for all
-- Assumes nothing.
use mathlib.Core.Path.{◌≡◌, refl, ap, ◌∙◌}
use mathlib.Core.List.{List}
use mathlib.Core.Logic.{inl, inr, ⊎_elim}
use Prim.Native.Nat.{ℕ, ◌+◌, ◌≤◌, ◌<◌}
use native.Mathlib.Omega.{arith}
use borrow.Author.Tests.{ltb-true, ltb-false, eqb-true, eqb-false, eq-eqb}
use lib.Dec.{eqb, ltb}
use Rattle.ring.proofs.Tests.{split}
use Rattle.rule.specs.Entry.{Entry, numbers, insert, delete, load}
use Rattle.rule.specs.Rooms.{held, fill}
use Rattle.rule.specs.Stability.{Rising, In, Sits, lower, Fair, Stable}
use Rattle.rule.proofs.Chain.{settle, evict}
use Rattle.rule.proofs.Counts.{at, at_not, at_yes, lower_insert, lower_delete, lower_up, load_delete, above_sits, sits_delete, sits_deleted}
use Rattle.rule.proofs.Sets.{in_sits, sits_in, in_insert, insert_in, in_delete, delete_in, rising_insert, rising_delete, rising_ext}
use Rattle.rule.proofs.Stable.{fill_stable}

-- all at a relay but the greatest are below it
greatest_load : (es : List Entry) (low : ℕ) → Rising low (numbers es) → (g c : ℕ) → Sits es g c
    → ((n : ℕ) → Sits es n c → n ≤ g) → load es c ≤ lower es c g + 1
greatest_load es low up g c i top =
    let d : List Entry = delete g es in
    let l : load d c ≤ lower d c g = split (ltb (lower d c g) (load d c))
    (λ s.
    let v : (m : ℕ) × Sits d m c × (g ≤ m) = above_sits d c g (ltb-true (lower d c g) (load d c) s) in
    absurd (sits_deleted g es low up v.0 c v.1
    (omega (arith, top v.0 (sits_delete g es v.0 c v.1), v.2))))
    (λ s. ltb-false (lower d c g) (load d c) s) in
    omega (
      arith,
      rw (eq-eqb c c refl) at (load_delete g c es low up i c),
      lower_delete g c es low up i c g,
      at_not c c
          g g (omega arith),
    )

-- p₀ is the table before, x the newcomer; w walks, and p is the table of all the others
pub record Walk (key : ℕ → ℕ → ℕ) (rs p₀ : List Entry) (x : ℕ) (p : List Entry) (w : ℕ) : Type 0 where
  pub stable : Stable key rs p
  pub up : Rising 0 (numbers p)
  pub some : 0 < w
  pub out : In w (numbers p) → ⊥
  pub to : (t : ℕ) → In t (numbers (insert w 0 p)) → In t (numbers (insert x 0 p₀))
  pub from : (t : ℕ) → In t (numbers (insert x 0 p₀)) → In t (numbers (insert w 0 p))

module _ (key : ℕ → ℕ → ℕ) (rs p₀ : List Entry) (x : ℕ) where
  pub walk_start : Stable key rs p₀ → Rising 0 (numbers p₀) → 0 < x → (In x (numbers p₀) → ⊥) → Walk key rs p₀ x p₀ x
  walk_start st up h n = record { stable = st; up = up; some = h; out = n; to = λ t i. i; from = λ t i. i }

  pub walk_evict : (p : List Entry) (w : ℕ) → Walk key rs p₀ x p w → (c g : ℕ) → Fair key rs p w c → Sits p g c → w < g
      → ((n : ℕ) → Sits p n c → n ≤ g)
      → Walk key rs p₀ x (insert w c (delete g p)) g
  walk_evict p w k c g f sg l top =
      record {
        stable = evict key rs p 0 k.up k.stable w c g f sg l top;
        up = rising_insert w c (delete g p) 0 k.some (rising_delete g p 0 k.up) (λ i. k.out (in_delete g p w i));
        some = omega arith;
        out = λ i. ⊎_elim (λ (e : g ≡ w). omega arith) (λ j. gone j) (in_insert w c (delete g p) g i);
        to = λ t i. k.to t (insert_in w 0 p t
            (⊎_elim (λ e. inr (rw e (sits_in p g c sg)))
            (λ j. ⊎_elim (λ e. inl e) (λ j'. inr (in_delete g p t j')) (in_insert w c (delete g p) t j))
            (in_insert g 0 (insert w c (delete g p)) t i)));
        from = λ t i. insert_in g 0 (insert w c (delete g p)) t
            (split (eqb t g) (λ s. inl (eqb-true t g s))
            (λ s. inr (insert_in w c (delete g p) t
            (⊎_elim (λ e. inl e) (λ j. inr (delete_in g p t j (eqb-false t g s)))
            (in_insert w 0 p t (k.from t i))))));
      }
    where
      gone : In g (numbers (delete g p)) → ⊥
      gone j =
          let v : (u : ℕ) × Sits (delete g p) g u = in_sits (delete g p) g j in sits_deleted g p 0 k.up g v.0
          v.1 refl

  -- what the lower numbers leave the one who gave way stands behind that relay in its order, and was open to the walker before it too
  pub evict_open : (p : List Entry) (w : ℕ) → Walk key rs p₀ x p w → (c g : ℕ) → Sits p g c → w < g
      → ((n : ℕ) → Sits p n c → n ≤ g) → load p c ≡ held rs c
      → (q : ℕ) → lower (insert w c (delete g p)) q g < held rs q → (c ≡ q → ⊥) × (key g c ≤ key g q)
      × (lower p q w < held rs q)
  evict_open p w k c g sg l top full q h =
      let a : lower (insert w c (delete g p)) q g ≡ at c q w g + lower (delete g p) q g = lower_insert w c
      (delete g p) q g in
      let b : lower p q g ≡ at c q g g + lower (delete g p) q g = lower_delete g c p 0 k.up sg q g in
      let z : at c q g g ≡ 0 = at_not c q g g (omega arith) in (
        λ e. omega (
          arith,
          at_yes c q w g e l,
          greatest_load p 0 k.up g c sg top,
          ap (λ (n : ℕ). lower p n g) e,
          ap
              (held rs) e,
        ),
        (k.stable g c sg).least q (omega arith),
        omega (arith, lower_up p q w g (omega arith)),
      )

  -- the walker settles: the table is the rule's, for the old tablets and the newcomer
  pub walk_settle : (Ok : ℕ → Type 0) (apart : (t r q : ℕ) → Ok r → Ok q → key t r ≡ key t q → r ≡ q)
      → ((r : ℕ) → 0 < held rs r → Ok r)
      → (p : List Entry) (w : ℕ) → Walk key rs p₀ x p w → Rising 0 (numbers (insert x 0 p₀)) → (c : ℕ)
      → Fair key rs p w c → load p c < held rs c
      → insert w c p ≡ fill key rs (numbers (insert x 0 p₀))
  walk_settle Ok apart ok p w k up₀ c f free =
      let up : Rising 0 (numbers (insert w c p)) = rising_insert w c p 0 k.some k.up k.out in
      let e : numbers (insert w c p) ≡ numbers (insert x 0 p₀) =
      rising_ext _ _ 0 up up₀ (λ t i. k.to t (insert_in w 0 p t (in_insert w c p t i)))
      (λ t i. insert_in w c p t (in_insert w 0 p t (k.from t i))) in
      fill_stable key Ok apart (insert w c p) 0 rs up ok (settle key rs p 0 k.up k.stable w c f free)
      ∙ ap (fill key rs) e
