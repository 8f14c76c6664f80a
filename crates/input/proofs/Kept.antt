-- Of a line its first bytes are kept, and they say what the line is answered.
--   kept_none, kept_more    at the start of a line, and with one byte more of it
--   answered_first          a line is answered as its first 24 bytes are
-- Assumes nothing.
use mathlib.Core.List.{List, [], ◌∷◌, ◌++◌}
use mathlib.Core.Path.{◌≡◌, refl, sym, ap, ◌∙◌}
use Prim.Native.Nat.{ℕ, suc, ◌+◌, ◌≤◌, ◌<◌, min}
use native.Mathlib.Omega.{arith}
use borrow.Author.Tests.{ltb-true, ltb-false}
use lib.Dec.{ltb}
use lib.ListN.{length, take, set, length-append, length-set}
use lib.Seq.{take_all, take-suc-set, set_out, take-append-le}
use Rattle.ring.proofs.Tests.{split}
use Rattle.line.specs.Line.{scheme_of}
use Rattle.line.proofs.Lengths.{meaning_first, scheme_first, scheme_long}
use Rattle.stage.specs.declared.Stage.{Stage}
use Rattle.stage.specs.declared.Stage.TheVariants.{First, Under, Over}
use Rattle.stage.specs.Stage.{first}
use Rattle.dialogue.specs.Lines.{unchanged, under, answered}

-- so many bytes of this slice are the first of the line, as many as there is room for
pub record Kept (line : List ℕ) (kept : ℕ) (l : List ℕ) : Type 0 where
  pub count : kept ≡ min (length l) (length line)
  pub bytes : take kept line ≡ take (length line) l

pub kept_none : (line : List ℕ) → Kept line 0 []
kept_none line = record { count = omega arith; bytes = sym (take_all (length line) [] (omega arith)) }

module _ (line : List ℕ) (kept : ℕ) (l : List ℕ) (b : ℕ) (k : Kept line kept l) where
  -- there is room for it
  bytes_room : length l < length line → take (min (kept + 1) (length line)) (set line kept b)
      ≡ take (length line) (l ++ (b ∷ []))
  bytes_room h =
      let e : min (kept + 1) (length line) ≡ suc kept = omega (arith, k.count) in
      ap (λ n. take n (set line kept b)) e
      ∙ take-suc-set line kept b (omega (arith, k.count))
      ∙ ap (λ x. x ++ (b ∷ [])) (k.bytes ∙ take_all (length line) l (omega arith))
      ∙ sym (take_all (length line) (l ++ (b ∷ [])) (omega (arith, length-append l (b ∷ []))))

  -- there is none
  bytes_full : length line ≤ length l → take (min (kept + 1) (length line)) (set line kept b)
      ≡ take (length line) (l ++ (b ∷ []))
  bytes_full h =
      let e : min (kept + 1) (length line) ≡ kept = omega (arith, k.count) in
      ap (λ n. take n (set line kept b)) e
      ∙ ap (take kept) (set_out line kept b (omega (arith, k.count)))
      ∙ k.bytes
      ∙ sym (take-append-le (length line) l (b ∷ []) h)

  bytes_more : take (min (kept + 1) (length line)) (set line kept b) ≡ take (length line) (l ++ (b ∷ []))
  bytes_more = split (ltb (length l) (length line))
      (λ s. bytes_room (ltb-true (length l) (length line) s))
      (λ s. bytes_full (ltb-false (length l) (length line) s))

  pub kept_more : Kept (set line kept b) (min (kept + 1) (length line)) (l ++ (b ∷ []))
  kept_more =
      record {
        count = omega (arith, k.count, length-append l (b ∷ []), length-set line kept b);
        bytes = bytes_more ∙ ap (λ n. take n (l ++ (b ∷ []))) (sym (length-set line kept b));
      }

-- ---- what is answered

first_echo : (l : List ℕ) → first (take 24 l) (scheme_of l) ≡ first l (scheme_of l)
unfolding first
first_echo l = split (ltb 23 (length l))
    (λ s. rw (scheme_long l (ltb-true 23 (length l) s)))
    (λ s. ap (λ x. first x (scheme_of l)) (take_all 24 l (omega (arith, ltb-false 23 (length l) s))))

pub answered_first : (next : Stage) (rs ts ms l : List ℕ) → answered next rs ts ms (take 24 l)
    ≡ answered next rs ts ms l
unfolding answered
answered_first First rs ts ms l = ap (unchanged rs ts ms) (ap (first (take 24 l)) (scheme_first l) ∙ first_echo l)
answered_first (Under s) rs ts ms l = ap (under s rs ts ms) (meaning_first l)
answered_first Over rs ts ms l = refl
