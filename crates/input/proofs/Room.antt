-- An answer goes out whole.
--   takes_whole    the bytes that are due are the whole answer, where the slice holds the longest
-- Assumes nothing.
use mathlib.Core.List.{List, [], ◌∷◌}
use mathlib.Core.Path.{◌≡◌, ap, ◌∙◌}
use Rattle.std.specs.Prelude.{Option, Some, None}
use Prim.Native.Nat.{ℕ, ◌+◌, ◌*◌, ◌/◌, ◌≤◌}
use native.Mathlib.Omega.{arith}
use lib.Dec.{eqb}
use lib.ListN.{length, take, drop, length-append, length-take}
use lib.Seq.{sets-eq, take-append_seam}
use Rattle.ring.proofs.Tests.{split}
use Rattle.call_start.specs.Promise.{Lists, after}
use Rattle.rule.specs.declared.Call.{Call}
use Rattle.line.specs.Line.{scheme_of, meaning_of}
use Rattle.text.specs.Puts.{Puts}
use Rattle.answer.proofs.Room.{answer_room}
use Rattle.stage.specs.declared.Stage.{Stage}
use Rattle.stage.specs.declared.Stage.TheVariants.{First, Under, Over}
use Rattle.stage.specs.declared.Standing.{Standing}
use Rattle.stage.specs.Stage.{says, other, first}
use Rattle.dialogue.specs.Lines.{Left, unchanged, called, under, answered}
use Rattle.input.specs.Bytes.{keeping, taken, Takes}

-- ---- how long an answer can be

record Roomy (a : Left) : Type 0 where
  pub room : length a.reply.text ≤ 44 + 35 * (length a.lent.moves / 3)

first_room : (rs ts ms l : List ℕ) (f : Option ℕ) → length l ≤ 24 → Roomy (unchanged rs ts ms (first l f))
unfolding first other says unchanged
first_room rs ts ms l (Some s) h = record { room = omega (arith, length-append l (10 ∷ [])) }
first_room rs ts ms l None h = record { room = omega arith }

under_room : (s : ℕ) (rs ts ms : List ℕ) (m : Option Call) → Roomy (under s rs ts ms m)
unfolding under called unchanged other says
under_room s rs ts ms (Some c) =
    record { room = answer_room (after s rs ts ms c).reply (after s rs ts ms c).lent.moves }
under_room s rs ts ms None = record { room = omega arith }

answered_room : (next : Stage) (rs ts ms l : List ℕ) → length l ≤ 24 → Roomy (answered next rs ts ms l)
unfolding answered unchanged says
answered_room First rs ts ms l h = first_room rs ts ms l (scheme_of l) h
answered_room (Under s) rs ts ms l h = under_room s rs ts ms (meaning_of l)
answered_room Over rs ts ms l h = record { room = omega arith }

taken_room : (at : Standing) (rs ts ms line : List ℕ) (b : ℕ) → length line ≤ 24 → Roomy (taken at rs ts ms line b)
unfolding taken keeping unchanged
taken_room at rs ts ms line b h = split (eqb b 10)
    (λ s. rw (s, taken) (answered_room at.stage rs ts ms (take at.kept line)
    (omega (arith, length-take at.kept line))))
    (λ s. rw (s, taken) (record { room = omega arith }))

-- ---- what is put is there

puts_whole : {out t out' : List ℕ} {n : ℕ} → Puts out 0 t out' n → length t ≤ length out → take n out' ≡ t
puts_whole {out} {t} {out'} {n} p h =
    let e : n ≡ length t = omega (arith, p.behind) in
    ap (λ k. take k out') e
    ∙ ap (take (length t)) (p.places ∙ sets-eq t out 0 (omega arith))
    ∙ take-append_seam t (drop (0 + length t) out)

module _ {at : Standing} {rs ts ms line out : List ℕ} {b : ℕ} {r : Standing} {l : Lists ℕ} {line' out' : List ℕ} where
  pub takes_whole : Takes at rs ts ms line out b r l line' out' → length line ≤ 24
      → 44 + 35 * (length l.moves / 3) ≤ length out
      → take r.due out' ≡ (taken at rs ts ms line b).reply.text
  takes_whole t h g =
      puts_whole t.shows.answer.puts (omega
      (arith, (taken_room at rs ts ms line b h).room, ap (λ (x : Lists ℕ). length x.moves / 3) t.shows.lent))
