-- One entry of a table put in, taken out or changed: it is there as told, and every other number is there as it was.
--   insert_others, delete_others, put_others    the others
--   insert_own, delete_own, put_own             the entry itself
-- Assumes nothing.
use mathlib.Core.Bool.{true, false}
use mathlib.Core.Path.{◌≡◌, refl, sym, ◌∙◌}
use mathlib.Core.List.{List, [], ◌∷◌}
use Prim.Native.Nat.{ℕ}
use borrow.Author.Tests.{eqb-true, eq-eqb, ne_eqb}
use lib.Dec.{eqb, ltb}
use Rattle.ring.proofs.Tests.{split, true_false}
use Rattle.rule.specs.Entry.{Entry, entry, numbers, has, beside_of, insert, delete, put}
use Rattle.rule.specs.Stability.{Rising, Sits}
use Rattle.rule.specs.Sets.{Others, With}
use Rattle.rule.proofs.Counts.{sits_deleted}
use Rattle.rule.proofs.Sets.{in_sits}
use Rattle.rule.proofs.Demand3.{has_in, in_has}

others_none : (n : ℕ) (es : List Entry) → Others n es es
others_none n es = record { there = λ q d. refl; beside = λ q d. refl }

-- an entry of that number in front, or none
others_own : (n : ℕ) (e : Entry) (es : List Entry) → e.number ≡ n → Others n es (e ∷ es)
unfolding has beside_of
others_own n e es h =
    record {
      there = λ q d. rw (ne_eqb e.number q (λ z. d (sym z ∙ h)));
      beside = λ q d. rw (ne_eqb e.number q (λ z. d (sym z ∙ h)));
    }

others_back : {n : ℕ} {es fs : List Entry} → Others n es fs → Others n fs es
others_back o = record { there = λ q d. sym (o.there q d); beside = λ q d. sym (o.beside q d) }

others_then : {n : ℕ} {es fs gs : List Entry} → Others n es fs → Others n fs gs → Others n es gs
others_then o u = record { there = λ q d. u.there q d ∙ o.there q d; beside = λ q d. u.beside q d ∙ o.beside q d }

-- one more in front of both
others_under : {n : ℕ} {es fs : List Entry} (e : Entry) → Others n es fs → Others n (e ∷ es) (e ∷ fs)
unfolding has beside_of
others_under e o = record { there = λ q d. rw (o.there q d); beside = λ q d. rw (o.beside q d) }

pub delete_others : (n : ℕ) (es : List Entry) → Others n es (delete n es)
unfolding delete
delete_others n [] = others_none n []
delete_others n (x ∷ es) =
    split (eqb x.number n)
    (λ s. rw (s, delete) (others_back (others_own n x es (eqb-true x.number n s))))
    (λ s. rw (s, delete) (others_under x (delete_others n es)))

module _ (n v : ℕ) where
  pub insert_others : (es : List Entry) → Others n es (insert n v es)
  unfolding insert
  insert_others [] = others_own n (entry n v) [] refl
  insert_others (x ∷ es) =
      split (ltb n x.number)
      (λ s. rw (s, insert) (others_own n (entry n v) (x ∷ es) refl))
      (λ s. rw (s, insert) (others_under x (insert_others es)))

  pub put_others : (es : List Entry) → Others n es (put n v es)
  unfolding put
  put_others [] = others_none n []
  put_others (x ∷ es) =
      split (eqb x.number n)
      (λ s. rw (s, put) (others_then (others_back (others_own n x es (eqb-true x.number n s)))
      (others_own n (entry n v) es refl)))
      (λ s. rw (s, put) (others_under x (put_others es)))

  -- the entry itself
  with_first : (es : List Entry) → With (entry n v ∷ es) n v
  unfolding has beside_of
  with_first es = record { there = rw (eq-eqb n n refl); beside = rw (eq-eqb n n refl) }

  with_under : (e : Entry) (es : List Entry) → eqb e.number n ≡ false → With es n v → With (e ∷ es) n v
  unfolding has beside_of
  with_under e es d w = record { there = rw d w.there; beside = rw d w.beside }

  pub insert_own : (es : List Entry) → has es n ≡ false → With (insert n v es) n v
  unfolding insert has
  insert_own [] h = with_first []
  insert_own (x ∷ es) h =
      split (ltb n x.number)
      (λ s. rw (s, insert) (with_first (x ∷ es)))
      (λ s. split (eqb x.number n)
      (λ u. absurd (true_false (rw u at h)))
      (λ u. rw (s, insert) (with_under x (insert n v es) u (insert_own es (rw u at h)))))

  pub put_own : (es : List Entry) → has es n ≡ true → With (put n v es) n v
  unfolding put has
  put_own [] h = absurd (true_false (sym h))
  put_own (x ∷ es) h =
      split (eqb x.number n)
      (λ s. rw (s, put) (with_first es))
      (λ s. rw (s, put) (with_under x (put n v es) s (put_own es (rw s at h))))

pub delete_own : (n : ℕ) (es : List Entry) → Rising 0 (numbers es) → has (delete n es) n ≡ false
delete_own n es up =
    split (has (delete n es) n)
    (λ s. let w : (v : ℕ) × Sits (delete n es) n v = in_sits (delete n es) n (has_in (delete n es) n s) in
    absurd (sits_deleted n es 0 up n w.0 w.1 refl))
    (λ s. s)

-- tables with the same numbers have the same numbers there
pub same_there : (es fs : List Entry) → numbers es ≡ numbers fs → (n : ℕ) → has es n ≡ has fs n
same_there es fs e n =
    split (has es n)
    (λ s. s ∙ sym (in_has fs n (rw e at (has_in es n s))))
    (λ s. split (has fs n) (λ u. absurd (true_false (sym (in_has es n (rw (← e) at (has_in fs n u))) ∙ s)))
    (λ u. s ∙ sym u))
