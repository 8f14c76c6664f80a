-- The move list names every other tablet whose relay changed, once, and no more; and a tablet's home is the nearest relay.
--   moved_is       a listed move is of a tablet that was there before, from its old relay to its new one, which differ
--   moved_all      every such tablet is listed
--   moved_rising   by rising number, so each once
--   home_nearest   no relay stands ahead of the home
-- Assumes nothing.
use mathlib.Core.Bool.{Bool, true, false, not, ◌&&◌, and-false}
use mathlib.Core.Path.{◌≡◌, refl, sym, ◌∙◌}
use mathlib.Core.List.{List, [], ◌∷◌}
use mathlib.Core.Logic.{inl, inr, ⊎_elim}
use mathlib.Core.Option.{some}
use Prim.Native.Nat.{ℕ, ◌≤◌}
use native.Mathlib.Omega.{arith}
use borrow.Author.Tests.{eqb-false, eq-eqb, ne_eqb}
use lib.Dec.{eqb}
use Rattle.ring.specs.Scheme.{Positions}
use Rattle.ring.specs.Clockwise.{key}
use Rattle.ring.proofs.Tests.{split, and_left, and_right, true_false}
use Rattle.rule.specs.declared.Move.{Move}
use Rattle.rule.specs.Entry.{Entry, numbers, has, beside_of}
use Rattle.rule.specs.Order.{order, home}
use Rattle.rule.specs.Calls.{move, moved}
use Rattle.rule.specs.Stability.{Rising, Sits}
use Rattle.rule.specs.Facts.{Among, Small}
use Rattle.rule.specs.Moves.{Listed, tablets_listed}
use Rattle.rule.proofs.Sets.{rising_low}
use Rattle.rule.proofs.Orders.{first_least, in_order, order_sorted}

-- a tablet of both tables moved from the one relay to the other
pub record Moves (old now_there : List Entry) (m : Move) : Type 0 where
  pub was : has old m.tablet.0 ≡ true
  pub from : m.old.0 ≡ beside_of old m.tablet.0
  pub to : Sits now_there m.tablet.0 m.new.0
  pub other : m.old.0 ≡ m.new.0 → ⊥

abbrev moves? : List Entry → Entry → Bool
moves? old e = has old e.number && not (eqb (beside_of old e.number) e.beside)

abbrev one : List Entry → Entry → Move
one old e = move e.number (beside_of old e.number) e.beside

differ : (a b : ℕ) → not (eqb a b) ≡ true → a ≡ b → ⊥
differ a b h e = split (eqb a b) (λ s. true_false (sym (rw s at h))) (λ s. eqb-false a b s e)

further : (old : List Entry) (e : Entry) (es : List Entry) (m : Move) → Moves old es m → Moves old (e ∷ es) m
further old e es m v = record { was = v.was; from = v.from; to = inr v.to; other = v.other }

pub moved_is : (old es : List Entry) (m : Move) → Listed m (moved old es) → Moves old es m
unfolding moved
moved_is old [] m = λ i. absurd i
moved_is old (e ∷ es) m =
    split (moves? old e)
    (λ s. rw (s, moved)
    (λ i. ⊎_elim
    (λ u. rw u
    (record {
      was = and_left (has old e.number) (not (eqb (beside_of old e.number) e.beside)) s;
      from = refl;
      to = inl (refl, refl);
      other = differ (beside_of old e.number) e.beside
          (and_right (has old e.number) (not (eqb (beside_of old e.number) e.beside)) s);
    }))
    (λ j. further old e es m (moved_is old es m j)) i))
    (λ s. rw (s, moved) (λ i. further old e es m (moved_is old es m i)))

pub moved_all : (old es : List Entry) (n v : ℕ) → has old n ≡ true → Sits es n v → (beside_of old n ≡ v → ⊥)
    → Listed (move n (beside_of old n) v) (moved old es)
unfolding moved
moved_all old [] n v h i d = absurd i
moved_all old (e ∷ es) n v h i d =
    split (moves? old e)
    (λ s. rw (s, moved) (⊎_elim (λ u. inl (here u)) (λ j. inr (moved_all old es n v h j d)) i))
    (λ s. rw (s, moved) (⊎_elim (λ u. absurd (true_false (sym (yes u) ∙ s))) (λ j. moved_all old es n v h j d) i))
  where
    here : (e.number ≡ n) × (e.beside ≡ v) → ◌≡◌ {A = Move} (move n (beside_of old n) v) (one old e)
    here u = λ i. move (sym u.0 i) (beside_of old (sym u.0 i)) (sym u.1 i)

    yes : (e.number ≡ n) × (e.beside ≡ v) → moves? old e ≡ true
    yes u = rw (u.0, u.1, h, ne_eqb (beside_of old n) v d)

pub moved_rising : (old es : List Entry) (low : ℕ) → Rising low (numbers es) → Rising low (tablets_listed (moved old es))
unfolding moved numbers
moved_rising old [] low up = tt
moved_rising old (e ∷ es) low up =
    split (moves? old e)
    (λ s. rw (s, moved) (up.0, moved_rising old es e.number up.1))
    (λ s. rw (s, moved) (rising_low (tablets_listed (moved old es)) e.number low (omega (arith, up.0))
    (moved_rising old es e.number up.1)))

-- where everybody sits as before nobody moved
pub moved_none : (old es : List Entry) → ((n v : ℕ) → Sits es n v → beside_of old n ≡ v) → moved old es ≡ []
unfolding moved
moved_none old [] f = refl
moved_none old (e ∷ es) f =
    let h : beside_of old e.number ≡ e.beside = f e.number e.beside (inl (refl, refl)) in
    let d : moves? old e ≡ false = rw (eq-eqb (beside_of old e.number) e.beside h)
    (and-false (has old e.number)) in
    rw (d, moved) (moved_none old es (λ n v i. f n v (inr i)))

-- ---- the home

pub home_nearest : (p : Positions) (t : ℕ) (rs : List Entry) → Small rs → (e : Entry) → home p t rs ≡ some e
    → (x : Entry) → Among x rs → key p t e.number ≤ key p t x.number
unfolding home
home_nearest p t rs small e h x i =
    first_least (λ y. true) (key p t) (order p t rs) (order_sorted p t rs small) e h x (in_order p t rs x i) refl
