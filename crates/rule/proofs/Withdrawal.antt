-- A withdrawal, step by step: a relay has a hole, and everybody sits as if it were still taken.
-- Assumes nothing.
use mathlib.Core.Path.{◌≡◌, refl, sym, ap, ◌∙◌}
use mathlib.Core.List.{List, [], ◌∷◌}
use mathlib.Core.Logic.{inl, inr, ⊎_elim}
use Prim.Native.Nat.{ℕ, ◌≤◌, ◌<◌}
use native.Mathlib.Omega.{arith}
use borrow.Author.Tests.{eqb-true, eqb-false, eq-eqb, ne_eqb}
use lib.Dec.{eqb}
use Rattle.ring.proofs.Tests.{split}
use Rattle.rule.specs.Entry.{Entry, numbers, insert, delete, load, count}
use Rattle.rule.specs.Rooms.{held, less, fill}
use Rattle.rule.specs.Stability.{Rising, In, Sits, Fair, Stable}
use Rattle.rule.proofs.Chain.{Hole, closed, refill}
use Rattle.rule.proofs.Counts.{lower_insert, lower_delete, load_insert, load_delete, sits_above, sits_delete, sits_deleted}
use Rattle.rule.proofs.Rooms.{Best, held_less}
use Rattle.rule.proofs.Sets.{in_sits, sits_in, in_insert, insert_in, in_delete, delete_in, rising_insert, rising_delete, rising_ext}
use Rattle.rule.proofs.Stable.{fill_stable, head_fair, tail_fair}

-- no relay holds more than its limit
pub load_held : (key : ℕ → ℕ → ℕ) (p : List Entry) (low : ℕ) (rs : List Entry) → Rising low (numbers p)
    → Stable key rs p → (q : ℕ) → load p q ≤ held rs q
unfolding load count numbers
load_held key [] low rs up st q = omega arith
load_held key (e ∷ p) low rs up st q =
    let b : Best (key e.number) rs e.beside = head_fair key rs e p up.1
    (st e.number e.beside (inl (refl, refl))) in
    let ih : load p q ≤ held (less e.beside rs) q =
    load_held key p e.number (less e.beside rs) up.1
    (λ n v i. tail_fair key rs e p n v (sits_above p e.number n v up.1 i) (st n v (inr i))) q in
    split (eqb e.beside q)
    (λ s. rw s (omega (
      arith,
      rw s at (held_less e.beside rs q),
      b.room,
      ap (λ (x : ℕ). held rs x)
          (eqb-true e.beside q s),
    )))
    (λ s. rw s (omega (arith, rw s at (held_less e.beside rs q))))

-- ---- the hole

pub record Gap (key : ℕ → ℕ → ℕ) (rs : List Entry) (ts : List ℕ) (p : List Entry) (w r : ℕ) : Type 0 where
  pub up : Rising 0 (numbers p)
  pub same : numbers p ≡ ts
  pub hole : Hole key rs p w r
  pub free : load p r < held rs r
  pub loads : (q : ℕ) → load p q ≤ held rs q

module _ (key : ℕ → ℕ → ℕ) (rs : List Entry) where
  pub gap_start : (p : List Entry) → Stable key rs p → Rising 0 (numbers p) → (x r : ℕ) → Sits p x r
      → Gap key rs (numbers (delete x p)) (delete x p) x r
  gap_start p st up x r i =
      record {
        up = rising_delete x p 0 up;
        same = refl;
        hole = λ n v j.
            let f : Fair key rs p n v = st n v (sits_delete x p n v j) in
            record {
              room = omega (arith, f.room, lower_insert x r (delete x p) v n, lower_delete x r p 0 up i v n);
              least = λ q h. f.least q (omega (
                arith,
                lower_insert x r (delete x p) q n,
                lower_delete x r p 0 up i q
                    n,
              ));
            };
        free = omega (arith, load_held key p 0 rs up st r, rw (eq-eqb r r refl) at (load_delete x r p 0 up i r));
        loads = λ q. omega (arith, load_held key p 0 rs up st q, load_delete x r p 0 up i q);
      }

  pub gap_end : (Ok : ℕ → Type 0) (apart : (t r q : ℕ) → Ok r → Ok q → key t r ≡ key t q → r ≡ q)
      → ((r : ℕ) → 0 < held rs r → Ok r)
      → (ts : List ℕ) (p : List Entry) (w r : ℕ) → Gap key rs ts p w r → ((n v : ℕ) → Sits p n v → key n v ≤ key n r)
      → p ≡ fill key rs ts
  gap_end Ok apart ok ts p w r g none =
      fill_stable key Ok apart p 0 rs g.up ok (closed key rs p 0 g.up w r g.hole none)
      ∙ ap (fill key rs) g.same

  pub gap_step : (ts : List ℕ) (p : List Entry) (w r : ℕ) → Gap key rs ts p w r → (s v₀ : ℕ) → Sits p s v₀
      → key s r < key s v₀
      → ((n v : ℕ) → Sits p n v → key n r < key n v → s ≤ n) → Gap key rs ts (insert s r (delete s p)) s v₀
  gap_step ts p w r g s v₀ i better lowest =
      let d : List Entry = delete s p in
      let upd : Rising 0 (numbers d) = rising_delete s p 0 g.up in
      let out : In s (numbers d) → ⊥ = λ j. let v : (u : ℕ) × Sits d s u = in_sits d s j in sits_deleted s p 0 g.up s
      v.0 v.1 refl in
      let up' : Rising 0 (numbers (insert s r d)) = rising_insert s r d 0 (sits_above p 0 s v₀ g.up i) upd out in
      let apart : v₀ ≡ r → ⊥ = λ e. omega (arith, ap (key s) e) in
      record {
        up = up';
        same = rising_ext _ _ 0 up' g.up
            (λ t j. ⊎_elim (λ e. rw e (sits_in p s v₀ i)) (λ k. in_delete s p t k) (in_insert s r d t j))
            (λ t j. insert_in s r d t (split (eqb t s) (λ x. inl (eqb-true t s x))
            (λ x. inr (delete_in s p t j (eqb-false t s x)))))
            ∙ g.same;
        hole = refill key rs p 0 g.up w r s v₀ g.hole g.free i better lowest;
        free = omega (
          arith,
          rw (ne_eqb r v₀ (λ (e : r ≡ v₀). apart (sym e))) at (load_insert s r d v₀),
          g.loads v₀,
          rw
              (eq-eqb v₀ v₀ refl) at (load_delete s v₀ p 0 g.up i v₀),
        );
        loads = λ q. split (eqb r q)
            (λ x. omega (
              arith,
              rw x at (load_insert s r d q),
              load_delete s v₀ p 0 g.up i q,
              g.free,
              ap (load p)
                  (eqb-true r q x),
              ap (held rs) (eqb-true r q x),
            ))
            (λ x. omega (arith, rw x at (load_insert s r d q), load_delete s v₀ p 0 g.up i q, g.loads q));
      }
