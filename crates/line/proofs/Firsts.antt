-- The first line.
--   following_same, following_other             what stands behind a beginning
--   scheme_other, scheme_named          what scheme a line names, by its first seven bytes
-- Assumes nothing.
use mathlib.Core.Bool.{true, false}
use mathlib.Core.List.{List, [], ◌∷◌}
use mathlib.Core.Path.{◌≡◌, refl, sym}
use Rattle.std.specs.Prelude.{Option, Some, None}
use Prim.Native.Nat.{ℕ}
use native.Mathlib.Omega.{arith}
use borrow.Author.Tests.{eqb-true, eq-eqb}
use lib.Dec.{eqb}
use lib.ListN.{length, take, drop}
use lib.Pointwise.{pointwise}
use Rattle.std.specs.Cmp.Lexicographic.{same_text, other_text}
use Rattle.ring.proofs.Tests.{split}
use Rattle.line.specs.Decimal.{decimal_of}
use Rattle.line.specs.Line.{following, known_or, named, scheme_word, scheme_of}

pub following_same : (p l : List ℕ) → take (length p) l ≡ p → following p l ≡ Some (drop (length p) l)
unfolding following
following_same [] l e = refl
following_same (x ∷ p) [] e = let z : ◌≡◌ {A = ℕ} 0 1 = cc in absurd (omega arith)
following_same (x ∷ p) (b ∷ l) e =
    let f : b ≡ x = cc in
    let g : take (length p) l ≡ p = cc in
    rw (eq-eqb x b (sym f), following_same p l g)

pub following_other : (p l : List ℕ) → (take (length p) l ≡ p → ⊥) → following p l ≡ None
unfolding following
following_other [] l n = absurd (n refl)
following_other (x ∷ p) [] n = refl
following_other (x ∷ p) (b ∷ l) n = split (eqb x b)
    (λ s. rw s (following_other p l (λ e. n (cc (eqb-true x b s)))))
    (λ s. rw s)

-- the same, where the beginning is compared byte by byte
pub scheme_other : (l : List ℕ) → pointwise eqb (take 7 l) scheme_word ≡ false → scheme_of l ≡ None
unfolding scheme_of scheme_word named
scheme_other l n = rw (following_other scheme_word l (other_text (take 7 l) scheme_word (sym n)))

pub scheme_named : (l word : List ℕ) → pointwise eqb (take 7 l) scheme_word ≡ true → word ≡ drop 7 l → {n : Option ℕ}
    → n ≡ decimal_of word → known_or n ≡ scheme_of l
unfolding scheme_of scheme_word named
scheme_named l word e d f = rw (f, d, following_same scheme_word l (same_text (take 7 l) scheme_word (sym e)))
