-- Of two slots the one that is fewer steps from a home is nearer to it on the ring of all slots, used or not (`around_steps`).
-- Assumes nothing.
use mathlib.Core.Path.{◌≡◌, sym, ◌∙◌}
use Prim.Native.Nat.{ℕ, ◌+◌, ◌-◌, ◌≤◌, ◌<◌}
use native.Mathlib.Omega.{arith}
use borrow.Author.Tests.{ltb-true, ltb-false, lt-ltb, le-leb, lt-leb}
use lib.Dec.{ltb}
use Rattle.ring.specs.Most.{most_relays}
use Rattle.ring.proofs.Tests.{split}
use Rattle.slots.specs.Slots.{steps_to}
use Rattle.holes.specs.Holes.{around}

same_order : (a b c d : ℕ) → (c < d → a < b) → (a < b → c < d) → ltb a b ≡ ltb c d
same_order a b c d f g =
    split (ltb c d)
    (λ s. lt-ltb a b (f (ltb-true c d s)) ∙ sym s)
    (λ s. split (ltb a b) (λ u. absurd (let l : c < d = g (ltb-true a b u) in omega (arith, ltb-false c d s)))
    (λ u. u ∙ sym s))

-- the way to slot k comes round, or it does not
data Way (n h k : ℕ) : Type 0 where
  on : h ≤ k → around h k ≡ k - h → steps_to n h k ≡ k - h → Way n h k
  round : k < h → around h k ≡ k + most_relays - h → steps_to n h k ≡ k + n - h → Way n h k

way : (n h k : ℕ) → n ≤ most_relays → h < most_relays → k < n → Way n h k
unfolding around steps_to
way n h k few b c =
    split (ltb k h)
    (λ s. let l : k < h = ltb-true k h s in round l (omega arith) (rw (lt-leb h k l)))
    (λ s. let l : h ≤ k = ltb-false k h s in on l (omega arith) (rw (le-leb h k l)))

nearer : (n h k l : ℕ) → n ≤ most_relays → h ≤ n → k < n → l < n → Way n h k → Way n h l → ltb (around h k) (around h l)
    ≡ ltb (steps_to n h k) (steps_to n h l)
nearer n h k l few w ck cl (on a e f) (on b i j) =
    same_order (around h k) (around h l) (steps_to n h k) (steps_to n h l) (λ x. omega arith) (λ x. omega arith)
nearer n h k l few w ck cl (on a e f) (round b i j) =
    same_order (around h k) (around h l) (steps_to n h k) (steps_to n h l) (λ x. omega arith) (λ x. omega arith)
nearer n h k l few w ck cl (round a e f) (on b i j) =
    same_order (around h k) (around h l) (steps_to n h k) (steps_to n h l) (λ x. omega arith) (λ x. omega arith)
nearer n h k l few w ck cl (round a e f) (round b i j) =
    same_order (around h k) (around h l) (steps_to n h k) (steps_to n h l) (λ x. omega arith) (λ x. omega arith)

pub around_steps : (n h k l : ℕ) → n ≤ most_relays → h ≤ n → h < most_relays → k < n → l < n
    → ltb (around h k) (around h l) ≡ ltb (steps_to n h k) (steps_to n h l)
around_steps n h k l few w b ck cl = nearer n h k l few w ck cl (way n h k few b ck) (way n h l few b cl)
