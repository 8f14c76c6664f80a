-- An entry put in, taken out and changed, in tables whose numbers rise.
--   insert_delete    taken out and put in anew is changed
--   delete_insert    one put in and another taken out, in either order
--   put_insert, put_inserted    changed after another, or itself, was put in
-- Assumes nothing.
use mathlib.Core.Path.{◌≡◌, refl, sym, ap, ◌∙◌}
use mathlib.Core.List.{List, [], ◌∷◌}
use mathlib.Core.Logic.{inl, inr, ⊎_elim}
use Prim.Native.Nat.{ℕ, ◌≤◌, ◌<◌}
use native.Mathlib.Omega.{arith}
use borrow.Author.Tests.{ltb-true, ltb-false, eqb-true, eqb-false, eq-eqb, ne_eqb, lt-ltb, le-ltb}
use lib.Dec.{eqb, ltb}
use Rattle.ring.proofs.Tests.{split}
use Rattle.rule.specs.Entry.{Entry, entry, numbers, insert, delete, put}
use Rattle.rule.specs.Stability.{Rising, In}
use Rattle.rule.proofs.Sets.{rising_in}

pub numbers_put : (n v : ℕ) (es : List Entry) → numbers (put n v es) ≡ numbers es
unfolding numbers put
numbers_put n v [] = refl
numbers_put n v (e ∷ es) =
    split (eqb e.number n)
    (λ s. rw (s, put) (ap (λ (k : ℕ). k ∷ numbers es) (sym (eqb-true e.number n s))))
    (λ s. rw (s, put) (ap (λ (l : List ℕ). e.number ∷ l) (numbers_put n v es)))

-- ---- one step into a table

module _ (n v : ℕ) (e : Entry) (es : List Entry) where
  pub delete_hit : e.number ≡ n → delete n (e ∷ es) ≡ es
  unfolding delete
  delete_hit h = rw (eq-eqb e.number n h, delete)

  pub delete_miss : (e.number ≡ n → ⊥) → delete n (e ∷ es) ≡ e ∷ delete n es
  unfolding delete
  delete_miss h = rw (ne_eqb e.number n h, delete)

  pub put_hit : e.number ≡ n → put n v (e ∷ es) ≡ entry n v ∷ es
  unfolding put
  put_hit h = rw (eq-eqb e.number n h, put)

  pub put_miss : (e.number ≡ n → ⊥) → put n v (e ∷ es) ≡ e ∷ put n v es
  unfolding put
  put_miss h = rw (ne_eqb e.number n h, put)

  pub insert_here : n < e.number → insert n v (e ∷ es) ≡ entry n v ∷ (e ∷ es)
  unfolding insert
  insert_here h = rw (lt-ltb n e.number h, insert)

  pub insert_past : e.number ≤ n → insert n v (e ∷ es) ≡ e ∷ insert n v es
  unfolding insert
  insert_past h = rw (le-ltb n e.number h, insert)

insert_front : (n v : ℕ) (es : List Entry) (low : ℕ) → Rising low (numbers es) → n ≤ low → insert n v es
    ≡ entry n v ∷ es
unfolding numbers
insert_front n v [] low up h = unfold insert in refl
insert_front n v (e ∷ es) low up h = insert_here n v e es (omega (arith, up.0))

-- ---- the laws

abbrev under : Entry → List Entry → List Entry
under e l = e ∷ l

pub insert_delete : (n v : ℕ) (es : List Entry) (low : ℕ) → Rising low (numbers es) → In n (numbers es)
    → insert n v (delete n es) ≡ put n v es
unfolding numbers
insert_delete n v [] low up i = absurd i
insert_delete n v (e ∷ es) low up i =
    split (eqb e.number n)
    (λ s.
    let h : e.number ≡ n = eqb-true e.number n s in
    ap (insert n v) (delete_hit n v e es h) ∙ insert_front n v es e.number up.1 (omega arith)
    ∙ sym (put_hit n v e es h))
    (λ s.
    let h : e.number ≡ n → ⊥ = eqb-false e.number n s in
    let j : In n (numbers es) = ⊎_elim (λ u. absurd (h (sym u))) (λ j. j) i in
    let l : e.number < n = rising_in e.number (numbers es) n up.1 j in
    ap (insert n v) (delete_miss n v e es h) ∙ insert_past n v e (delete n es) (omega arith)
    ∙ ap (under e) (insert_delete n v es e.number up.1 j) ∙ sym (put_miss n v e es h))

pub delete_insert : (g n v : ℕ) (es : List Entry) (low : ℕ) → Rising low (numbers es) → (g ≡ n → ⊥)
    → delete g (insert n v es) ≡ insert n v (delete g es)
unfolding numbers
delete_insert g n v [] low up d =
    unfold insert in (delete_miss g v (entry n v) [] (λ x. d (sym x)) ∙ unfold delete in refl)
delete_insert g n v (e ∷ es) low up d =
    split (ltb n e.number)
    (λ s.
    let l : n < e.number = ltb-true n e.number s in
    let out : delete g (insert n v (e ∷ es)) ≡ entry n v ∷ delete g (e ∷ es) =
    ap (delete g) (insert_here n v e es l) ∙ delete_miss g v (entry n v) (e ∷ es) (λ x. d (sym x)) in
    split (eqb e.number g)
    (λ u.
    let h : e.number ≡ g = eqb-true e.number g u in
    out ∙ ap (under (entry n v)) (delete_hit g v e es h) ∙ sym (insert_front n v es e.number up.1 (omega arith))
    ∙ ap (insert n v) (sym (delete_hit g v e es h)))
    (λ u.
    let h : e.number ≡ g → ⊥ = eqb-false e.number g u in
    out ∙ ap (under (entry n v)) (delete_miss g v e es h) ∙ sym (insert_here n v e (delete g es) l)
    ∙ ap (insert n v) (sym (delete_miss g v e es h))))
    (λ s.
    let l : e.number ≤ n = ltb-false n e.number s in
    split (eqb e.number g)
    (λ u.
    let h : e.number ≡ g = eqb-true e.number g u in
    ap (delete g) (insert_past n v e es l) ∙ delete_hit g v e (insert n v es) h
    ∙ ap (insert n v) (sym (delete_hit g v e es h)))
    (λ u.
    let h : e.number ≡ g → ⊥ = eqb-false e.number g u in
    ap (delete g) (insert_past n v e es l) ∙ delete_miss g v e (insert n v es) h
    ∙ ap (under e) (delete_insert g n v es e.number up.1 d)
    ∙ sym (insert_past n v e (delete g es) l) ∙ ap (insert n v) (sym (delete_miss g v e es h))))

pub put_insert : (g c n v : ℕ) (es : List Entry) → (g ≡ n → ⊥) → put g c (insert n v es) ≡ insert n v (put g c es)
put_insert g c n v [] d = unfold insert in (put_miss g c (entry n v) [] (λ x. d (sym x)) ∙ unfold put in refl)
put_insert g c n v (e ∷ es) d =
    split (ltb n e.number)
    (λ s.
    let l : n < e.number = ltb-true n e.number s in
    let out : put g c (insert n v (e ∷ es)) ≡ entry n v ∷ put g c (e ∷ es) =
    ap (put g c) (insert_here n v e es l) ∙ put_miss g c (entry n v) (e ∷ es) (λ x. d (sym x)) in
    split (eqb e.number g)
    (λ u.
    let h : e.number ≡ g = eqb-true e.number g u in
    out ∙ ap (under (entry n v)) (put_hit g c e es h) ∙ sym (insert_here n v (entry g c) es (omega arith))
    ∙ ap (insert n v) (sym (put_hit g c e es h)))
    (λ u.
    let h : e.number ≡ g → ⊥ = eqb-false e.number g u in
    out ∙ ap (under (entry n v)) (put_miss g c e es h) ∙ sym (insert_here n v e (put g c es) l)
    ∙ ap (insert n v) (sym (put_miss g c e es h))))
    (λ s.
    let l : e.number ≤ n = ltb-false n e.number s in
    split (eqb e.number g)
    (λ u.
    let h : e.number ≡ g = eqb-true e.number g u in
    ap (put g c) (insert_past n v e es l) ∙ put_hit g c e (insert n v es) h
    ∙ sym (insert_past n v (entry g c) es (omega arith)) ∙ ap (insert n v) (sym (put_hit g c e es h)))
    (λ u.
    let h : e.number ≡ g → ⊥ = eqb-false e.number g u in
    ap (put g c) (insert_past n v e es l) ∙ put_miss g c e (insert n v es) h ∙ ap (under e) (put_insert g c n v es d)
    ∙ sym (insert_past n v e (put g c es) l) ∙ ap (insert n v) (sym (put_miss g c e es h))))

pub put_inserted : (n c v : ℕ) (es : List Entry) → (In n (numbers es) → ⊥) → put n c (insert n v es) ≡ insert n c es
unfolding numbers
put_inserted n c v [] out = unfold insert in (put_hit n c (entry n v) [] refl)
put_inserted n c v (e ∷ es) out =
    split (ltb n e.number)
    (λ s.
    let l : n < e.number = ltb-true n e.number s in
    ap (put n c) (insert_here n v e es l) ∙ put_hit n c (entry n v) (e ∷ es) refl ∙ sym (insert_here n c e es l))
    (λ s.
    let l : e.number ≤ n = ltb-false n e.number s in
    ap (put n c) (insert_past n v e es l) ∙ put_miss n c e (insert n v es) (λ x. out (inl (sym x)))
    ∙ ap (under e) (put_inserted n c v es (λ i. out (inr i)))
    ∙ sym (insert_past n c e es l))

pub delete_inserted : (n v : ℕ) (es : List Entry) → (In n (numbers es) → ⊥) → delete n (insert n v es) ≡ es
unfolding numbers
delete_inserted n v [] out = unfold insert in (delete_hit n v (entry n v) [] refl)
delete_inserted n v (e ∷ es) out =
    split (ltb n e.number)
    (λ s. ap (delete n) (insert_here n v e es (ltb-true n e.number s)) ∙ delete_hit n v (entry n v) (e ∷ es) refl)
    (λ s. ap (delete n) (insert_past n v e es (ltb-false n e.number s)) ∙ delete_miss n v e (insert n v es)
    (λ x. out (inl (sym x)))
    ∙ ap (under e) (delete_inserted n v es (λ i. out (inr i))))

-- ---- who is there after a change

pub in_put : (n v : ℕ) (es : List Entry) (m : ℕ) → In m (numbers es) → In m (numbers (put n v es))
in_put n v es m i = rw (numbers_put n v es) i

pub rising_put : (n v : ℕ) (es : List Entry) (low : ℕ) → Rising low (numbers es) → Rising low (numbers (put n v es))
rising_put n v es low up = rw (numbers_put n v es) up
