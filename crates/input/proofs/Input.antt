-- The bytes of an input, taken one after the other, are answered as its lines are.
--   sent_printed    what is sent for the bytes is what is printed for the lines, where 24 bytes of a line can be kept
-- Assumes nothing.
use mathlib.Core.Bool.{true, false}
use mathlib.Core.List.{List, [], ◌∷◌, ◌++◌, append-nil, append_assoc}
use mathlib.Core.Path.{◌≡◌, refl, sym, ap, ◌∙◌}
use Rattle.std.specs.Prelude.{Option, Some, None}
use Prim.Native.Nat.{ℕ, ◌+◌, min}
use native.Mathlib.Omega.{arith}
use borrow.Author.Tests.{lt-ltb, le-ltb}
use lib.Dec.{eqb, ltb}
use lib.ListN.{length, take, set, length-set}
use Rattle.ring.proofs.Tests.{split}
use Rattle.rule.specs.declared.Call.{Call}
use Rattle.line.specs.Line.{onto, scheme_of, meaning_of}
use Rattle.stage.specs.declared.Stage.{Stage}
use Rattle.stage.specs.declared.Stage.TheVariants.{First, Under, Over}
use Rattle.stage.specs.declared.Standing.{Standing}
use Rattle.stage.specs.Stage.{says, other, first}
use Rattle.dialogue.specs.Lines.{Left, unchanged, called, under, answered}
use Rattle.input.specs.Bytes.{keeping, taken, line_then}
use Rattle.input.specs.Input.{lines_of, printed, standing, sent}
use Rattle.input.proofs.Kept.{Kept, kept_none, kept_more, answered_first}

-- ---- lines that begin with bytes taken before

begun : List ℕ → List (List ℕ) → List (List ℕ)
begun [] ls = ls
begun (b ∷ l) [] = (b ∷ l) ∷ []
begun (b ∷ l) (w ∷ ws) = ((b ∷ l) ++ w) ∷ ws

begun_end : (l : List ℕ) (ls : List (List ℕ)) → begun l ([] ∷ ls) ≡ l ∷ ls
unfolding begun
begun_end [] ls = refl
begun_end (b ∷ l) ls = ap (λ x. x ∷ ls) (append-nil (b ∷ l))

begun_onto : (l : List ℕ) (b : ℕ) (ls : List (List ℕ)) → begun l (onto b ls) ≡ begun (l ++ (b ∷ [])) ls
unfolding begun onto
begun_onto [] b [] = refl
begun_onto [] b (w ∷ ws) = refl
begun_onto (a ∷ l) b [] = refl
begun_onto (a ∷ l) b (w ∷ ws) = ap (λ x. x ∷ ws) (sym (append_assoc (a ∷ l) (b ∷ []) w))

-- ---- nothing is kept of a line that is answered

first_kept : (l : List ℕ) (f : Option ℕ) → (first l f).kept ≡ 0
unfolding first other says
first_kept l (Some s) = refl
first_kept l None = refl

under_kept : (s : ℕ) (rs ts ms : List ℕ) (m : Option Call) → (under s rs ts ms m).reply.kept ≡ 0
unfolding under called unchanged other says
under_kept s rs ts ms (Some c) = refl
under_kept s rs ts ms None = refl

answered_kept : (next : Stage) (rs ts ms l : List ℕ) → (answered next rs ts ms l).reply.kept ≡ 0
unfolding answered unchanged says
answered_kept First rs ts ms l = first_kept l (scheme_of l)
answered_kept (Under s) rs ts ms l = under_kept s rs ts ms (meaning_of l)
answered_kept Over rs ts ms l = refl

-- ---- one byte

-- an answer, and what is sent for the bytes behind it
onward : Left → List ℕ → List ℕ → List ℕ
onward a line bs = a.reply.text ++ sent (standing a) a.lent.relays a.lent.tablets a.lent.moves line bs

module _ (at : Standing) (rs ts ms line : List ℕ) (b : ℕ) (bs : List ℕ) where
  sent_end : eqb b 10 ≡ true → sent at rs ts ms line (b ∷ bs)
      ≡ onward (answered at.stage rs ts ms (take at.kept line)) line bs
  unfolding taken line_then sent onward
  sent_end e = rw (e, taken)

  sent_kept : eqb b 10 ≡ false → sent at rs ts ms line (b ∷ bs)
      ≡ sent (record { stage = at.stage; kept = min (at.kept + 1) (length line); due = 0 }) rs ts ms
      (set line at.kept b) bs
  unfolding taken line_then keeping unchanged standing sent
  sent_kept e = rw (e, taken)

-- ---- all bytes

module _ {line : List ℕ} {kept : ℕ} {l : List ℕ} (h : length line ≡ 24) (k : Kept line kept l) where
  line_answered : (next : Stage) (rs ts ms : List ℕ) → answered next rs ts ms (take kept line)
      ≡ answered next rs ts ms l
  line_answered next rs ts ms =
      ap (answered next rs ts ms) (k.bytes ∙ ap (λ n. take n l) h) ∙ answered_first next rs ts ms l

-- the line that the input ends in
last_line : (at : Standing) (rs ts ms line l : List ℕ) → length line ≡ 24 → Kept line at.kept l
    → sent at rs ts ms line [] ≡ printed at.stage rs ts ms (begun l [])
unfolding answered taken sent printed begun
last_line at rs ts ms line [] h k = rw (le-ltb 0 at.kept (omega (arith, k.count)))
last_line at rs ts ms line (b ∷ l) h k =
    let e : ltb 0 at.kept ≡ true = lt-ltb 0 at.kept (omega (arith, k.count)) in
    let t : List ℕ = (answered at.stage rs ts ms (b ∷ l)).reply.text in
    rw (e, taken) (ap (λ (a : Left). a.reply.text) (line_answered h k at.stage rs ts ms) ∙ sym (append-nil t))

sent_begun : (bs : List ℕ) (at : Standing) (rs ts ms line l : List ℕ) → length line ≡ 24 → Kept line at.kept l
    → sent at rs ts ms line bs ≡ printed at.stage rs ts ms (begun l (lines_of bs))
unfolding lines_of printed standing onward begun
sent_begun [] at rs ts ms line l h k = last_line at rs ts ms line l h k
sent_begun (b ∷ bs) at rs ts ms line l h k = split (eqb b 10)
    (λ s.
    let a : Left = answered at.stage rs ts ms l in
    let none : Kept line a.reply.kept [] = rw (answered_kept at.stage rs ts ms l) (kept_none line) in
    sent_end at rs ts ms line b bs s
    ∙ ap (λ (x : Left). onward x line bs) (line_answered h k at.stage rs ts ms)
    ∙ ap (λ x. a.reply.text ++ x) (sent_begun bs (standing a) a.lent.relays a.lent.tablets
    a.lent.moves line [] h none)
    ∙ rw s (ap (printed at.stage rs ts ms) (sym (begun_end l (lines_of bs)))))
    (λ s.
    let next : Standing = record { stage = at.stage; kept = min (at.kept + 1) (length line); due = 0 } in
    sent_kept at rs ts ms line b bs s
    ∙ sent_begun bs next rs ts ms (set line at.kept b) (l ++ (b ∷ [])) (length-set line at.kept b ∙ h)
    (kept_more line at.kept l b k)
    ∙ rw s (ap (printed at.stage rs ts ms) (sym (begun_onto l b (lines_of bs)))))

pub sent_printed : (bs : List ℕ) (next : Stage) (rs ts ms line : List ℕ) → length line ≡ 24
    → sent (record { stage = next; kept = 0; due = 0 }) rs ts ms line bs ≡ printed next rs ts ms (lines_of bs)
unfolding begun
sent_printed bs next rs ts ms line h =
    sent_begun bs (record { stage = next; kept = 0; due = 0 }) rs ts ms line [] h (kept_none line)
