-- A line as its words.
--   part_rest                 a part that reaches to the end
--   words_one, words_more     the first word ends at the first space
--   one_not, two_not, not_two                 what is no number
--   said_one, said_two, rest_one, rest_two    a letter with what stands behind it
--   meaning_short, meaning_unspaced, meaning_spaced    what a line means, by its first two bytes
-- Assumes nothing.
use mathlib.Core.Bool.{Bool, true, false, cond, and-false}
use mathlib.Core.List.{List, [], ◌∷◌}
use mathlib.Core.Path.{◌≡◌, refl, sym, ap, ◌∙◌}
use Rattle.std.specs.Prelude.{Option, Some, None}
use Rattle.std.specs.List.{position_from, position_or_len}
use Rattle.std.proofs.lemmas.Iterator.Adapters.{position_from-zero}
use Prim.Native.Nat.{ℕ, suc, ◌+◌, ◌-◌, ◌≤◌, ◌<◌}
use native.Mathlib.Numerals.{add-one, one-add}
use native.Mathlib.Omega.{arith}
use borrow.Author.Tests.{ltb-true, ltb-false, eqb-true, ne_eqb}
use lib.Dec.{eqb, ltb}
use lib.ListN.{length, get_or, take, drop, length-drop}
use lib.Seq.{take_all}
use Rattle.ring.proofs.Tests.{split}
use Rattle.line.specs.Decimal.{digit, all_digits, plain, decimal_of}
use Rattle.line.specs.Line.{is_space, onto, words, letter_of, with_one, with_two, said, meaning_of}

-- a part that reaches to the end
pub part_rest : (n : ℕ) (l : List ℕ) → take (length l - n) (drop n l) ≡ drop n l
part_rest n l = take_all (length l - n) (drop n l) (omega (arith, length-drop n l))

-- ---- the first space

abbrev space_at : List ℕ → ℕ
space_at l = position_or_len is_space l

space_found : (l : List ℕ) (b : Bool) → ltb (space_at l) (length l) ≡ b → position_from is_space 0 l
    ≡ cond b (Some (space_at l)) None
space_found l b e = rw (← position_from-zero is_space l, e) refl

pub words_one : (l : List ℕ) → length l ≤ space_at l → words l ≡ l ∷ []
unfolding words onto
words_one [] h = refl
words_one (b ∷ bs) h = split (eqb b 32)
    (λ s. absurd (omega (arith, rw s at h)))
    (λ s. rw (s, words_one bs (omega (arith, rw s at h))))

pub words_more : (l : List ℕ) → space_at l < length l → words l ≡ take (space_at l) l ∷ words
    (drop (suc (space_at l)) l)
unfolding words onto
words_more [] h = absurd (omega arith)
words_more (b ∷ bs) h = split (eqb b 32)
    (λ s. rw s)
    (λ s. rw (s, words_more bs (omega (arith, rw s at h)), one-add) refl)

-- a space is no digit
spaced : (l : List ℕ) → space_at l < length l → all_digits l ≡ false
unfolding all_digits digit
spaced [] h = absurd (omega arith)
spaced (b ∷ bs) h = split (eqb b 32)
    (λ s. rw (eqb-true b 32 s))
    (λ s. rw (spaced bs (omega (arith, rw s at h)), and-false))

decimal_spaced : (l : List ℕ) → space_at l < length l → decimal_of l ≡ None
unfolding decimal_of plain
decimal_spaced l h = rw (spaced l h, and-false)

-- ---- a letter with what stands behind it

pub said_one : (w l : List ℕ) → length l ≤ space_at l → said (w ∷ words l) ≡ with_one (letter_of w) (decimal_of l)
unfolding said
said_one w l h = rw (words_one l h)

pub two_not : (letter : ℕ) (n : Option ℕ) → with_two letter n None ≡ None
unfolding with_two
two_not letter None = refl
two_not letter (Some n) = refl

pub one_not : (letter : ℕ) → with_one letter None ≡ None
unfolding with_one
one_not letter = refl

pub not_two : (letter : ℕ) (limit : Option ℕ) → with_two letter None limit ≡ None
unfolding with_two
not_two letter limit = refl

-- four words or more are no call
many_onto : (w x y : List ℕ) (b : ℕ) (ws : List (List ℕ)) → said (w ∷ x ∷ y ∷ onto b ws) ≡ None
unfolding said onto
many_onto w x y b [] = refl
many_onto w x y b (v ∷ vs) = refl

many : (w x y l : List ℕ) → said (w ∷ x ∷ y ∷ words l) ≡ None
unfolding said words
many w x y [] = refl
many w x y (b ∷ bs) = split (eqb b 32) (λ s. rw s) (λ s. rw s (many_onto w x y b (words bs)))

pub said_two : (w x l : List ℕ) → said (w ∷ x ∷ words l) ≡ with_two (letter_of w) (decimal_of x) (decimal_of l)
unfolding said
said_two w x l = split (ltb (space_at l) (length l))
    (λ s. let h : space_at l < length l = ltb-true (space_at l) (length l) s in
    ap (λ ws. said (w ∷ x ∷ ws)) (words_more l h) ∙ many w x (take (space_at l) l) (drop (suc (space_at l)) l)
    ∙ sym (ap (with_two (letter_of w) (decimal_of x)) (decimal_spaced l h) ∙ two_not (letter_of w) (decimal_of x)))
    (λ s. rw (words_one l (ltb-false (space_at l) (length l) s)))

-- the same, with the place of the first space as a search finds it
module _ (letter : ℕ) (l : List ℕ) where
  pub rest_one : None ≡ position_from is_space 0 l → {first : Option ℕ} → first ≡ decimal_of l
      → with_one letter first ≡ said ((letter ∷ []) ∷ words l)
  unfolding letter_of
  rest_one e f = split (ltb (space_at l) (length l))
      (λ s. absurd (cc (space_found l true s)))
      (λ s. rw f (sym (said_one (letter ∷ []) l (ltb-false (space_at l) (length l) s))))

  pub rest_two : (end : ℕ) → Some end ≡ position_from is_space 0 l → {first second : Option ℕ}
      → first ≡ decimal_of (take end l) → second ≡ decimal_of (take (length l - (end + 1)) (drop (end + 1) l))
      → with_two letter first second ≡ said ((letter ∷ []) ∷ words l)
  unfolding letter_of
  rest_two end e f g = split (ltb (space_at l) (length l))
      (λ s. let at : end ≡ space_at l = cc (space_found l true s) in
      rw (f, g, part_rest (end + 1) l, words_more l (ltb-true (space_at l) (length l) s), ← at, ← add-one end)
      (sym (said_two (letter ∷ []) (take end l) (drop (end + 1) l))))
      (λ s. absurd (cc (space_found l false s)))

-- ---- a line by its first two bytes

-- no call begins with this word
pub record Idle (w : List ℕ) : Type 0 where
  pub one : (n : Option ℕ) → with_one (letter_of w) n ≡ None
  pub two : (n limit : Option ℕ) → with_two (letter_of w) n limit ≡ None

idle_said : (w : List ℕ) (ws : List (List ℕ)) → Idle w → said (w ∷ ws) ≡ None
unfolding said
idle_said w [] i = refl
idle_said w (x ∷ []) i = i.one (decimal_of x)
idle_said w (x ∷ y ∷ []) i = i.two (decimal_of x) (decimal_of y)
idle_said w (x ∷ y ∷ z ∷ more) i = refl

-- an empty word, a space, a word of two bytes or more
pub one_none : (n : Option ℕ) → with_one 0 n ≡ None
unfolding with_one
one_none None = refl
one_none (Some n) = refl

one_space : (n : Option ℕ) → with_one 32 n ≡ None
unfolding with_one
one_space None = refl
one_space (Some n) = refl

pub two_none : (n limit : Option ℕ) → with_two 0 n limit ≡ None
unfolding with_two
two_none None limit = refl
two_none (Some n) None = refl
two_none (Some n) (Some limit) = refl

two_space : (n limit : Option ℕ) → with_two 32 n limit ≡ None
unfolding with_two
two_space None limit = refl
two_space (Some n) None = refl
two_space (Some n) (Some limit) = refl

idle_empty : Idle []
unfolding letter_of
idle_empty = record { one = one_none; two = two_none }

idle_space : Idle (32 ∷ [])
unfolding letter_of
idle_space = record { one = one_space; two = two_space }

idle_long : (a b : ℕ) (w : List ℕ) → Idle (a ∷ b ∷ w)
unfolding letter_of
idle_long a b w = record { one = one_none; two = two_none }

pub meaning_short : (l : List ℕ) → length l < 2 → meaning_of l ≡ None
unfolding meaning_of words onto said
meaning_short [] h = refl
meaning_short (a ∷ []) h = split (eqb a 32) (λ s. rw s (idle_said [] ([] ∷ []) idle_empty)) (λ s. rw s)
meaning_short (a ∷ b ∷ l) h = absurd (omega arith)

onto_twice : (a b : ℕ) (ws : List (List ℕ)) → said (onto a (onto b ws)) ≡ None
unfolding onto
onto_twice a b [] = idle_said (a ∷ b ∷ []) [] (idle_long a b [])
onto_twice a b (w ∷ ws) = idle_said (a ∷ b ∷ w) ws (idle_long a b w)

pub meaning_unspaced : (l : List ℕ) → 2 ≤ length l → (get_or l 1 0 ≡ 32 → ⊥) → meaning_of l ≡ None
unfolding meaning_of words
meaning_unspaced [] h n = absurd (omega arith)
meaning_unspaced (a ∷ []) h n = absurd (omega arith)
meaning_unspaced (a ∷ b ∷ l) h n = split (eqb a 32)
    (λ s. rw s (idle_said [] (words (b ∷ l)) idle_empty))
    (λ s. rw (s, ne_eqb b 32 n) (onto_twice a b (words l)))

pub meaning_spaced : (l : List ℕ) → 2 ≤ length l → get_or l 1 0 ≡ 32 → meaning_of l
    ≡ said ((get_or l 0 0 ∷ []) ∷ words (drop 2 l))
unfolding meaning_of words onto
meaning_spaced [] h e = absurd (omega arith)
meaning_spaced (a ∷ []) h e = absurd (omega arith)
meaning_spaced (a ∷ b ∷ l) h e = split (eqb a 32)
    (λ s. rw (e, s) (idle_said [] ([] ∷ words l) idle_empty
    ∙ sym (rw (eqb-true a 32 s) (idle_said (32 ∷ []) (words l) idle_space))))
    (λ s. rw (e, s))
