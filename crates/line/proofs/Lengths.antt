-- A line that means something is short, so its first bytes say what it means.
--   meaning_first, scheme_first    a line means what its first 24 bytes mean
--   scheme_long                    a line of 24 bytes or more names no scheme
-- Assumes nothing.
use mathlib.Core.Bool.{true, false, and-false}
use mathlib.Core.List.{List, [], ◌∷◌}
use mathlib.Core.Path.{◌≡◌, refl, sym, ap, ◌∙◌}
use Rattle.std.specs.Prelude.{None}
use Prim.Native.Nat.{ℕ, zero, suc, ◌+◌, ◌*◌, ◌-◌, ◌≤◌, ◌<◌}
use native.Mathlib.Omega.{arith}
use borrow.Author.Tests.{eqb-false, ltb-true, ltb-false, lt-leb}
use lib.Dec.{eqb, ltb}
use lib.ListN.{length, take, length-take}
use lib.Seq.{take_all}
use Rattle.ring.proofs.Tests.{split, and_left}
use Rattle.line.specs.Decimal.{digit, all_digits, value, leading_zero, plain, decimal_of}
use Rattle.line.specs.Line.{onto, words, letter_of, said, meaning_of, following, known_or, named, scheme_word, scheme_of}
use Rattle.line.proofs.Decimals.{digit_least, decimal_zero}
use Rattle.line.proofs.Words.{one_not, not_two, two_not, one_none, two_none}

-- ---- decimals

-- v with n zeros behind it
raised : ℕ → ℕ → ℕ
raised v zero = v
raised v (suc n) = raised (v * 10) n

raised_more : (n v w : ℕ) → v ≤ w → raised v n ≤ raised w n
unfolding raised
raised_more zero v w h = h
raised_more (suc n) v w h = raised_more n (v * 10) (w * 10) (omega arith)

value_raised : (n v : ℕ) (bs : List ℕ) → n ≤ length bs → raised v n ≤ value v bs
unfolding raised value
value_raised zero v [] h = omega arith
value_raised zero v (b ∷ bs) h = omega (arith, value_raised zero (v * 10 + (b - 48)) bs (omega arith))
value_raised (suc n) v [] h = absurd (omega arith)
value_raised (suc n) v (b ∷ bs) h =
    omega (
      arith,
      raised_more n (v * 10) (v * 10 + (b - 48)) (omega arith),
      value_raised n (v * 10 + (b - 48)) bs
          (omega arith),
    )

-- eleven digits with no leading zero are past 4294967295
large : (b : ℕ) (bs : List ℕ) → 10 ≤ length bs → eqb b 48 ≡ false → all_digits (b ∷ bs) ≡ true
    → 4294967295 < value 0 (b ∷ bs)
unfolding value raised all_digits
large b bs h z d =
    let s : 48 ≤ b = digit_least b (and_left (digit b) (all_digits bs) d) in
    let t : 1 ≤ 0 * 10 + (b - 48) = omega (arith, eqb-false b 48 z) in
    omega (arith, raised_more 10 1 (0 * 10 + (b - 48)) t, value_raised 10 (0 * 10 + (b - 48)) bs h)

not_large : (word : List ℕ) → 4294967295 < value 0 word → decimal_of word ≡ None
unfolding decimal_of plain
not_large word h = rw (lt-leb (value 0 word) 4294967295 h, and-false, and-false, and-false)

not_digits : (word : List ℕ) → all_digits word ≡ false → decimal_of word ≡ None
unfolding decimal_of plain
not_digits word h = rw (h, and-false)

decimal_long : (word : List ℕ) → 10 < length word → decimal_of word ≡ None
unfolding leading_zero
decimal_long [] h = absurd (omega arith)
decimal_long (b ∷ []) h = absurd (omega arith)
decimal_long (b ∷ c ∷ bs) h = split (eqb b 48)
    (λ z. decimal_zero (b ∷ c ∷ bs) z)
    (λ z. split (all_digits (b ∷ c ∷ bs))
    (λ d. not_large (b ∷ c ∷ bs) (large b (c ∷ bs) (omega arith) z d))
    (λ d. not_digits (b ∷ c ∷ bs) d))

-- ---- words

-- the bytes of some words, with one space more for each
span : List (List ℕ) → ℕ
span [] = 0
span (w ∷ ws) = length w + 1 + span ws

span_onto : (b : ℕ) (ws : List (List ℕ)) → 0 < span ws → span (onto b ws) ≡ span ws + 1
unfolding span onto
span_onto b [] h = absurd (omega arith)
span_onto b (w ∷ ws) h = omega arith

words_span : (l : List ℕ) → span (words l) ≡ length l + 1
unfolding span words
words_span [] = refl
words_span (b ∷ bs) = split (eqb b 32)
    (λ s. rw s (omega (arith, words_span bs)))
    (λ s. rw s (omega (arith, words_span bs, span_onto b (words bs) (omega (arith, words_span bs)))))

letter_long : (w : List ℕ) → 1 < length w → letter_of w ≡ 0
unfolding letter_of
letter_long [] h = absurd (omega arith)
letter_long (b ∷ []) h = absurd (omega arith)
letter_long (b ∷ c ∷ more) h = refl

-- a letter, two numbers of ten digits and the spaces between them are 23 bytes
said_long : (ws : List (List ℕ)) → 24 < span ws → said ws ≡ None
unfolding said span
said_long [] h = refl
said_long (w ∷ []) h = refl
said_long (w ∷ x ∷ []) h = split (ltb 10 (length x))
    (λ s. rw (decimal_long x (ltb-true 10 (length x) s)) (one_not (letter_of w)))
    (λ s. rw (letter_long w (omega (arith, ltb-false 10 (length x) s))) (one_none (decimal_of x)))
said_long (w ∷ x ∷ y ∷ []) h = split (ltb 10 (length x))
    (λ s. rw (decimal_long x (ltb-true 10 (length x) s)) (not_two (letter_of w) (decimal_of y)))
    (λ s. split (ltb 10 (length y))
    (λ t. rw (decimal_long y (ltb-true 10 (length y) t)) (two_not (letter_of w) (decimal_of x)))
    (λ t. rw (letter_long w (omega (arith, ltb-false 10 (length x) s, ltb-false 10 (length y) t)))
    (two_none (decimal_of x) (decimal_of y))))
said_long (w ∷ x ∷ y ∷ z ∷ more) h = refl

-- ---- the first bytes of a line

module _ {A : Type 0} (f : List ℕ → A) (other : A) (long : (l : List ℕ) → 23 < length l → f l ≡ other) where
  first_bytes : (l : List ℕ) → f (take 24 l) ≡ f l
  first_bytes l = split (ltb 23 (length l))
      (λ s. let h : 23 < length l = ltb-true 23 (length l) s in long (take 24 l) (omega (arith, length-take 24 l))
      ∙ sym (long l h))
      (λ s. ap f (take_all 24 l (omega (arith, ltb-false 23 (length l) s))))

pub meaning_first : (l : List ℕ) → meaning_of (take 24 l) ≡ meaning_of l
unfolding meaning_of
meaning_first = first_bytes meaning_of None (λ l h. said_long (words l) (omega (arith, words_span l)))

behind_long : (p l : List ℕ) → length p + 10 < length l → named (following p l) ≡ None
unfolding following named known_or
behind_long [] l h = rw (decimal_long l (omega arith))
behind_long (x ∷ p) [] h = refl
behind_long (x ∷ p) (b ∷ l) h = split (eqb x b) (λ s. rw s (behind_long p l (omega arith))) (λ s. rw s)

pub scheme_long : (l : List ℕ) → 23 < length l → scheme_of l ≡ None
unfolding scheme_of scheme_word
scheme_long l h = behind_long scheme_word l (omega arith)

pub scheme_first : (l : List ℕ) → scheme_of (take 24 l) ≡ scheme_of l
scheme_first = first_bytes scheme_of None scheme_long
