-- No more tablets move than there are relays: the relays that they leave have their last tablets one behind the other.
--   last_above, last_below            where the last tablet of a slot is
--   fewer_most, fewer_up, fewer_more  how many slots have their last tablet before a place
-- Assumes nothing.
use Rattle.std.proofs.Common.{◌≡◌, ℕ, zero, suc, ◌+◌, ◌<◌, ◌≤◌, Bool, true, false, cond, eqb, leb, List, get_or, arith, eqb-true, le-leb, leb-false, leb-true}
use borrow.Author.Tests.{eqb-false, lt-leb}
use Rattle.ring.proofs.Tests.{split}

-- one more than the place of the last of the first m tablets at slot k; 0 where it has none
pub last_of : List ℕ → ℕ → ℕ → ℕ
last_of slot zero k = 0
last_of slot (suc m) k = cond (eqb (get_or slot m 0) k) (suc m) (last_of slot m k)

pub last_above : (slot : List ℕ) (m k i : ℕ) → i < m → get_or slot i 0 ≡ k → i < last_of slot m k
unfolding last_of
last_above slot zero k i h e = absurd (omega arith)
last_above slot (suc m) k i h e =
    split (eqb (get_or slot m 0) k)
    (λ s. rw s (omega arith))
    (λ s. split (eqb i m)
    (λ u. let z : i ≡ m = eqb-true i m u in absurd (eqb-false (get_or slot m 0) k s (rw (← z) e)))
    (λ u. let d : i ≡ m → ⊥ = eqb-false i m u in rw s (last_above slot m k i (omega arith) e)))

pub last_below : (slot : List ℕ) (m k j : ℕ) → ((i : ℕ) → j ≤ i → i < m → get_or slot i 0 ≡ k → ⊥) → last_of slot m k ≤ j
unfolding last_of
last_below slot zero k j h = omega arith
last_below slot (suc m) k j h =
    split (eqb (get_or slot m 0) k)
    (λ s. rw s (split (leb j m)
    (λ u. absurd (h m (leb-true j m u) (omega arith) (eqb-true (get_or slot m 0) k s)))
    (λ u. let l : m < j = leb-false j m u in omega arith)))
    (λ s. rw s (last_below slot m k j (λ i a b. h i a (omega arith))))

-- how many of the first n numbers are at most x
pub fewer : (ℕ → ℕ) → ℕ → ℕ → ℕ
fewer f zero x = 0
fewer f (suc n) x = fewer f n x + cond (leb (f n) x) 1 0

one_most : (b : Bool) → cond b 1 0 ≤ 1
one_most true = omega arith
one_most false = omega arith

pub fewer_most : (f : ℕ → ℕ) (n x : ℕ) → fewer f n x ≤ n
unfolding fewer
fewer_most f zero x = omega arith
fewer_most f (suc n) x = omega (arith, fewer_most f n x, one_most (leb (f n) x))

one_up : (a x y : ℕ) → x ≤ y → cond (leb a x) 1 0 ≤ cond (leb a y) 1 0
one_up a x y h =
    split (leb a x)
    (λ s. rw (s, le-leb a y (omega (arith, leb-true a x s))) (omega arith))
    (λ s. rw s (omega arith))

pub fewer_up : (f : ℕ → ℕ) (n x y : ℕ) → x ≤ y → fewer f n x ≤ fewer f n y
unfolding fewer
fewer_up f zero x y h = omega arith
fewer_up f (suc n) x y h = omega (arith, fewer_up f n x y h, one_up (f n) x y h)

-- number k is not among those at most x, and is among those at most itself
pub fewer_more : (f : ℕ → ℕ) (n x k : ℕ) → k < n → x < f k → fewer f n x + 1 ≤ fewer f n (f k)
unfolding fewer
fewer_more f zero x k h l = absurd (omega arith)
fewer_more f (suc n) x k h l =
    split (eqb k n)
    (λ u. let z : k ≡ n = eqb-true k n u in
    rw z (rw (lt-leb (f n) x (rw z at l), le-leb (f n) (f n) (omega arith))
    (omega (arith, fewer_up f n x (f n) (let g : x < f n = rw z at l in omega arith)))))
    (λ u. let d : k ≡ n → ⊥ = eqb-false k n u in omega
    (arith, fewer_more f n x k (omega arith) l, one_up (f n) x (f k) (omega arith)))
