-- From what was answered, and from what was kept, to the promise of a byte.
--   takes_end, takes_kept    a newline, and any other byte
-- Assumes nothing.
use mathlib.Core.List.{List, [], ◌∷◌}
use mathlib.Core.Path.{◌≡◌, refl}
use Prim.Native.Nat.{ℕ}
use native.Mathlib.Omega.{arith}
use borrow.Author.Tests.{eq-eqb, ne_eqb}
use lib.ListN.{take}
use Rattle.call_start.specs.Promise.{Lists, lists}
use Rattle.text.specs.Puts.{Puts}
use Rattle.text.proofs.Puts.{puts_nothing}
use Rattle.stage.specs.declared.Standing.{Standing}
use Rattle.dialogue.specs.Lines.{answered, Shows}
use Rattle.input.specs.Bytes.{keeping, taken, line_then, Takes}
use Rattle.dialogue.proofs.Answers.{shows_said}

module _ {at : Standing} {rs ts ms line out : List ℕ} {b : ℕ} where
  pub takes_end : {r : Standing} {k : Lists ℕ} {out' l : List ℕ} → b ≡ 10 → l ≡ take at.kept line
      → Shows (answered at.stage rs ts ms l) out r k out' → Takes at rs ts ms line out b r k line out'
  unfolding taken line_then
  takes_end e d a = record { shows = rw (eq-eqb b 10 e, taken) (rw d at a); keeps = rw (eq-eqb b 10 e) }

  pub takes_kept : {line' : List ℕ} {n : ℕ} → (b ≡ 10 → ⊥) → Puts line at.kept (b ∷ []) line' n
      → Takes at rs ts ms line out b (record { stage = at.stage; kept = n; due = 0 }) (lists rs ts ms) line' out
  unfolding taken line_then keeping
  takes_kept e p =
      record {
        shows = rw (ne_eqb b 10 e, taken) (shows_said
            (record { stage = refl; kept = p.behind; puts = puts_nothing out (omega arith) }));
        keeps = rw (ne_eqb b 10 e) p.places;
      }
