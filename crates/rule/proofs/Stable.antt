-- The rule without its history: a placement is the rule's exactly where every tablet has the nearest relay that the lower ones leave it.
--   fill_stable              a stable placement is the rule's
--   stable_fill              the rule's is stable
--   numbers_fill             it is of the tablets that were to be placed
--   head_fair, tail_fair     the first tablet, and the others in the room that it leaves
--   best_one                 there is one nearest relay with room
-- Assumes nothing.
use mathlib.Core.Bool.{cond}
use mathlib.Core.Path.{◌≡◌, refl, ap}
use mathlib.Core.List.{List, [], ◌∷◌}
use mathlib.Core.Logic.{inl, inr, ⊎_elim}
use Prim.Native.Nat.{ℕ, suc, ◌+◌, ◌≤◌, ◌<◌}
use native.Mathlib.Omega.{arith}
use borrow.Author.Tests.{lt-ltb, le-ltb}
use lib.Dec.{eqb}
use lib.ListN.{length}
use Rattle.ring.proofs.Tests.{split}
use Rattle.rule.specs.Entry.{Entry, total, numbers, entry}
use Rattle.rule.specs.Rooms.{held, choose, or_zero, less, fill}
use Rattle.rule.specs.Stability.{Rising, bit, lower, Fair, Stable}
use Rattle.rule.proofs.Counts.{sits_above}
use Rattle.rule.proofs.Rooms.{held_less, Best, choose_best, total_some, total_less}

-- nobody is lower than the lowest
lower_none : (p : List Entry) (low q n : ℕ) → Rising low (numbers p) → n ≤ suc low → lower p q n ≡ 0
unfolding numbers lower bit
lower_none [] low q n up h = refl
lower_none (e ∷ p) low q n up h =
    rw (le-ltb e.number n (omega (arith, up.0)), lower_none p e.number q n up.1 (omega (arith, up.0)))
    (split (eqb e.beside q) (λ s. rw s) (λ s. rw s))

-- the counts with one more in front
lower_front : (e : Entry) (p : List Entry) (q n : ℕ) → e.number < n → lower (e ∷ p) q n
    ≡ cond (eqb e.beside q) 1 0 + lower p q n
unfolding lower bit
lower_front e p q n h = rw (lt-ltb e.number n h) (split (eqb e.beside q) (λ s. rw s) (λ s. rw s))

lower_first : (e : Entry) (p : List Entry) (q : ℕ) → Rising e.number (numbers p) → lower (e ∷ p) q e.number ≡ 0
unfolding lower bit
lower_first e p q up =
    rw (le-ltb e.number e.number (omega arith), lower_none p e.number q e.number up (omega arith))
    (split (eqb e.beside q) (λ s. rw s) (λ s. rw s))

pub numbers_fill : (key : ℕ → ℕ → ℕ) (ts : List ℕ) (rs : List Entry) → numbers (fill key rs ts) ≡ ts
unfolding numbers fill
numbers_fill key [] rs = refl
numbers_fill key (t ∷ ts) rs = ap (λ (l : List ℕ). t ∷ l) (numbers_fill key ts (less (or_zero (choose (key t) rs)) rs))

-- ---- the first tablet, and the others in the room that it leaves

module _ (key : ℕ → ℕ → ℕ) (rs : List Entry) (e : Entry) (p : List Entry) where
  fair_head : Rising e.number (numbers p) → Best (key e.number) rs e.beside
      → Fair key rs (e ∷ p) e.number e.beside
  fair_head up b =
      record {
        room = omega (arith, lower_first e p e.beside up, b.room);
        least = λ q h. b.least q (omega (arith, lower_first e p q up));
      }

  pub head_fair : Rising e.number (numbers p) → Fair key rs (e ∷ p) e.number e.beside
      → Best (key e.number) rs e.beside
  head_fair up f =
      record {
        room = omega (arith, lower_first e p e.beside up, f.room);
        least = λ q h. f.least q (omega (arith, lower_first e p q up));
      }

  fair_tail : (n v : ℕ) → e.number < n → Fair key (less e.beside rs) p n v → Fair key rs (e ∷ p) n v
  fair_tail n v h f =
      record {
        room = omega (arith, lower_front e p v n h, held_less e.beside rs v, f.room);
        least = λ q w. f.least q (omega (arith, lower_front e p q n h, held_less e.beside rs q));
      }

  pub tail_fair : (n v : ℕ) → e.number < n → Fair key rs (e ∷ p) n v → Fair key (less e.beside rs) p n v
  tail_fair n v h f =
      record {
        room = omega (arith, lower_front e p v n h, held_less e.beside rs v, f.room);
        least = λ q w. f.least q (omega (arith, lower_front e p q n h, held_less e.beside rs q));
      }

pub stable_fill : (key : ℕ → ℕ → ℕ) (ts : List ℕ) (low : ℕ) (rs : List Entry) → Rising low ts → length ts ≤ total rs
    → Stable key rs (fill key rs ts)
unfolding fill
stable_fill key [] low rs up h n v i = absurd i
stable_fill key (t ∷ ts) low rs up h n v i =
    let c : ℕ = or_zero (choose (key t) rs) in
    let p : List Entry = fill key (less c rs) ts in
    let e : Entry = entry (t) (c) in
    let o : (q : ℕ) × (0 < held rs q) = total_some rs (omega arith) in
    let b : Best (key t) rs c = choose_best (key t) rs o.0 o.1 in
    let r : Rising t (numbers p) = rw (numbers_fill key ts (less c rs)) up.1 in
    ⊎_elim
    (λ u. rw (← u.0, ← u.1) (fair_head key rs e p r b))
    (λ u. fair_tail key rs e p n v (sits_above p t n v r u)
    (stable_fill key ts t (less c rs) up.1 (omega (arith, total_less c rs b.room)) n v u))
    i

-- two nearest relays are one
pub best_one : (k : ℕ → ℕ) (rs : List Entry) (a b : ℕ) → ((r q : ℕ) → 0 < held rs r → 0 < held rs q → k r ≡ k q → r ≡ q)
    → Best k rs a → Best k rs b → a ≡ b
best_one k rs a b apart x y = apart a b x.room y.room (omega (arith, x.least b y.room, y.least a x.room))

pub fill_stable : (key : ℕ → ℕ → ℕ) (Ok : ℕ → Type 0) (apart : (t r q : ℕ) → Ok r → Ok q → key t r ≡ key t q → r ≡ q)
    → (p : List Entry) (low : ℕ) (rs : List Entry) → Rising low (numbers p) → ((r : ℕ) → 0 < held rs r → Ok r)
    → Stable key rs p → p ≡ fill key rs (numbers p)
unfolding fill numbers
fill_stable key Ok apart [] low rs up ok f = refl
fill_stable key Ok apart (e ∷ p) low rs up ok f =
    let c : ℕ = or_zero (choose (key e.number) rs) in
    let x : Best (key e.number) rs e.beside = head_fair key rs e p up.1
    (f e.number e.beside (inl (refl, refl))) in
    let y : Best (key e.number) rs c = choose_best (key e.number) rs e.beside x.room in
    let s : e.beside ≡ c = best_one (key e.number) rs e.beside c
    (λ r q h h'. apart e.number r q (ok r h) (ok q h')) x y in
    let ih : p ≡ fill key (less e.beside rs) (numbers p) =
    fill_stable key Ok apart p e.number (less e.beside rs) up.1
    (λ r h. ok r (omega (arith, held_less e.beside rs r)))
    (λ n v i. tail_fair key rs e p n v (sits_above p e.number n v up.1 i) (f n v (inr i))) in
    rw (← s) (ap (λ (l : List Entry). e ∷ l) ih)
