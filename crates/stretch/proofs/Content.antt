-- What a stretch lists: where the sheet fits, the numbers of the stretch are the relay's tablets, by rising number (`stretch_lists`).
-- Assumes nothing.
use mathlib.Core.Bool.{Bool, true, ◌&&◌}
use mathlib.Core.Path.{◌≡◌, refl, sym, ap, ◌∙◌}
use mathlib.Core.List.{List, [], ◌∷◌, ◌++◌, append_assoc}
use mathlib.Core.Logic.{⊎_elim}
use Prim.Native.Nat.{ℕ, ◌≤◌, ◌<◌}
use native.Mathlib.Omega.{arith}
use borrow.Author.Tests.{lt-ltb, le-ltb}
use lib.Dec.{ltb}
use lib.ListN.{length, take, drop}
use lib.Seq.{take_at, drop-append-add}
use Rattle.ring.specs.Scheme.{Positions}
use Rattle.ring.proofs.Tests.{and_left, and_right}
use Rattle.rule.specs.Entry.{Entry, numbers, has, load, loads, keep}
use Rattle.rule.specs.Rule.{Ring, right}
use Rattle.rule.specs.Calls.{Lent}
use Rattle.rule.specs.Sheet.{tablets_of, sheet_from, sheet, begins, sheet_fits, stretch}
use Rattle.rule.specs.Stability.{Rising, In}
use Rattle.rule.proofs.Right.{right_is}
use Rattle.rule.proofs.Demand3.{has_in}
use Rattle.sheet.proofs.Lists.{tablets_length}
use Rattle.stretch.proofs.Begins.{begins_front}

module _ (r : ℕ) where
  abbrev below : Entry → Bool
  below e = ltb e.number r

  -- no number from r on is below it
  keep_none : (rs : List Entry) (low : ℕ) → Rising low (numbers rs) → r ≤ low → keep below rs ≡ []
  unfolding keep numbers
  keep_none [] low up h = refl
  keep_none (e ∷ rs) low up h =
      rw (le-ltb e.number r (omega (arith, up.0)), keep) (keep_none rs e.number up.1 (omega (arith, up.0)))

  -- a number that is there is above those before it
  in_above : (rs : List Entry) (low : ℕ) → Rising low (numbers rs) → In r (numbers rs) → low < r
  unfolding numbers
  in_above [] low up i = absurd i
  in_above (e ∷ rs) low up i =
      ⊎_elim (λ (u : r ≡ e.number). omega (arith, up.0))
      (λ j. omega (arith, up.0, in_above rs e.number up.1 j)) i

  listed : (ts : List Entry) (rest : List ℕ) (rs : List Entry) (low : ℕ) → Rising low (numbers rs) → In r (numbers rs)
      → take (load ts r) (drop (loads (keep below rs) ts) (sheet_from rs ts ++ rest)) ≡ tablets_of ts r
  unfolding numbers sheet_from loads keep
  listed ts rest [] low up i = absurd i
  listed ts rest (e ∷ rs) low up i =
      ⊎_elim
      (λ (u : r ≡ e.number).
      rw (
        le-ltb e.number r (omega arith),
        keep,
        keep_none rs e.number up.1 (omega arith),
        ← u,
        append_assoc
            (tablets_of ts r) (sheet_from rs ts) rest,
      )
      (take_at (tablets_of ts r) (sheet_from rs ts ++ rest) (load ts r) (tablets_length ts r)))
      (λ j.
      rw (
        lt-ltb e.number r (in_above rs e.number up.1 j),
        keep,
        ← tablets_length ts e.number,
        append_assoc (tablets_of ts e.number) (sheet_from rs ts) rest,
        drop-append-add (tablets_of ts e.number) (sheet_from rs ts ++ rest) (loads (keep below rs) ts),
      )
      (listed ts rest rs e.number up.1 j))
      i

module _ (p : Positions) (m : Lent) (g : Ring) (lent : List ℕ) (r : ℕ) where
  pub stretch_lists : sheet_fits p m g lent r ≡ true
      → take (stretch p m g lent r).len (drop (stretch p m g lent r).start lent) ≡ tablets_of g.tablets r
  unfolding sheet_fits stretch sheet
  stretch_lists e =
      let k₁ : Bool = m.known && (m.fit && right p g) in
      let k₂ : Bool = begins (sheet_from g.relays g.tablets) lent && has g.relays r in
      let e₁ : k₁ ≡ true = and_left k₁ k₂ e in
      let e₂ : k₂ ≡ true = and_right k₁ k₂ e in
      let ok : right p g ≡ true = and_right m.fit (right p g) (and_right m.known (m.fit && right p g) e₁) in
      let whole : List ℕ = sheet_from g.relays g.tablets in
      let front : whole ++ drop (length whole) lent ≡ lent = begins_front whole lent
      (and_left (begins whole lent) (has g.relays r) e₂) in
      rw (e, stretch)
      (ap (λ (l : List ℕ). take (load g.tablets r)
      (drop (loads (keep (λ x. ltb x.number r) g.relays) g.tablets) l)) (sym front)
      ∙ listed r g.tablets (drop (length whole) lent) g.relays 0 (right_is p g ok).relays.up
      (has_in g.relays r (and_right (begins whole lent) (has g.relays r) e₂)))
