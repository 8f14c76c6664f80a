-- The promise of a line binds: two standings and two sets of lent lists that it allows are equal (`shows_one`). Assumes nothing.
use mathlib.Core.List.{List}
use mathlib.Core.Path.{◌≡◌, sym, ◌∙◌}
use Prim.Native.Nat.{ℕ}
use Rattle.call_start.specs.Promise.{Lists}
use Rattle.stage.specs.declared.Standing.{Standing}
use Rattle.stage.specs.Stage.{Said, Says}
use Rattle.dialogue.specs.Lines.{Left, Shows}

says_one : {s : Said} {out out₁ out₂ : List ℕ} {r₁ r₂ : Standing} → Says s out r₁ out₁ → Says s out r₂ out₂ → r₁ ≡ r₂
says_one {s} {out} {out₁} {out₂} {r₁} {r₂} x y =
    let e : r₁.stage ≡ r₂.stage = x.stage ∙ sym y.stage in
    let k : r₁.kept ≡ r₂.kept = x.kept ∙ sym y.kept in
    let d : r₁.due ≡ r₂.due = x.puts.behind ∙ sym y.puts.behind in
    λ i. record { stage = e i; kept = k i; due = d i }

pub shows_one : {a : Left} {out : List ℕ} {r₁ r₂ : Standing} {l₁ l₂ : Lists ℕ} {out₁ out₂ : List ℕ}
    → Shows a out r₁ l₁ out₁ → Shows a out r₂ l₂ out₂
    → (r₁ ≡ r₂) × ((l₁ ≡ l₂) × (out₁ ≡ out₂))
shows_one x y = (
  says_one x.answer y.answer,
  (
    x.lent ∙ sym y.lent,
    x.answer.puts.places
        ∙ sym y.answer.puts.places,
  ),
)
