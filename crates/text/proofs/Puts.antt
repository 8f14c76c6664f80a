-- Bytes put into a slice one after the other.
--   puts_one                    the promise binds: two slices, and two places behind, that it allows are equal
--   puts_nothing, puts_none     nothing, and one byte where there is no room
--   puts_text, puts_append      the same text, one text behind another
--   puts_length                 the slice's length stays
-- Assumes nothing.
use mathlib.Core.List.{List, [], ◌∷◌, ◌++◌}
use mathlib.Core.Path.{◌≡◌, refl, sym, ap, ◌∙◌}
use Prim.Native.Nat.{ℕ, suc, ◌+◌, ◌≤◌, ◌<◌, min}
use native.Mathlib.Nat.{add-zero}
use native.Mathlib.Omega.{arith}
use borrow.Author.Tests.{leb-true, leb-false}
use lib.Dec.{leb}
use lib.ListN.{length, set, length-set, length-append}
use lib.Seq.{sets, length-sets, set_out}
use Rattle.ring.proofs.Tests.{split}
use Rattle.text.specs.Puts.{Puts}

sets_append : (s t l : List ℕ) (i : ℕ) → sets l i (s ++ t) ≡ sets (sets l i s) (i + length s) t
sets_append [] t l i = ap (λ k. sets l k t) (sym (add-zero i))
sets_append (a ∷ s) t l i =
    let e : suc i + length s ≡ i + suc (length s) = omega arith in
    sets_append s t (set l i a) (suc i) ∙ ap (λ k. sets (sets (set l i a) (suc i) s) k t) e

sets_out : (vs l : List ℕ) (i : ℕ) → length l ≤ i → sets l i vs ≡ l
sets_out [] l i h = refl
sets_out (a ∷ vs) l i h = sets_out vs (set l i a) (suc i) (omega (arith, length-set l i a)) ∙ set_out l i a h

pub puts_one : {l : List ℕ} {at : ℕ} {s m m' : List ℕ} {n n' : ℕ} → Puts l at s m n → Puts l at s m' n'
    → (m ≡ m') × (n ≡ n')
puts_one p q = (p.places ∙ sym q.places, p.behind ∙ sym q.behind)

pub puts_nothing : (l : List ℕ) {at : ℕ} → at ≤ length l → Puts l at [] l at
puts_nothing l h = record { places = refl; behind = omega arith }

pub puts_none : (l : List ℕ) (at b : ℕ) → length l ≤ at → Puts l at (b ∷ []) l (length l)
puts_none l at b h = record { places = sym (set_out l at b h); behind = omega arith }

pub puts_length : {l : List ℕ} {at : ℕ} {s m : List ℕ} {n : ℕ} → Puts l at s m n → length m ≡ length l
puts_length {l} {at} {s} p = ap length p.places ∙ length-sets l at s

pub puts_text : {s t : List ℕ} → s ≡ t → {l : List ℕ} {at : ℕ} {m : List ℕ} {n : ℕ} → Puts l at s m n → Puts l at t m n
puts_text e p = rw e at p

-- where the first text has no room, the second has none either
onward : (l : List ℕ) (at : ℕ) (s t : List ℕ) → sets (sets l at s) (min (at + length s) (length l)) t
    ≡ sets l at (s ++ t)
onward l at s t = split (leb (at + length s) (length l))
    (λ h. let e : min (at + length s) (length l) ≡ at + length s = omega
    (arith, leb-true (at + length s) (length l) h) in
    ap (λ k. sets (sets l at s) k t) e ∙ sym (sets_append s t l at))
    (λ h. let g : length l < at + length s = leb-false (at + length s) (length l) h in
    sets_out t (sets l at s) (min (at + length s) (length l)) (omega (arith, length-sets l at s))
    ∙ sym (sets_append s t l at ∙ sets_out t (sets l at s) (at + length s) (omega (arith, length-sets l at s))))

pub puts_append : {l : List ℕ} {at : ℕ} {s m : List ℕ} {n : ℕ} → Puts l at s m n → {t k : List ℕ} {j : ℕ}
    → Puts m n t k j → Puts l at (s ++ t) k j
puts_append {l} {at} {s} p {t} q =
    record {
      places = q.places ∙ rw (p.places, p.behind) (onward l at s t);
      behind = omega (arith, q.behind, p.behind, puts_length p, length-append s t);
    }
