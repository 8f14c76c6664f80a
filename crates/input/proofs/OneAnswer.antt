-- The promise of a byte binds: two standings and two sets of lent lists that it allows are equal (`takes_one`). Assumes nothing.
use mathlib.Core.List.{List}
use mathlib.Core.Path.{◌≡◌, sym, ◌∙◌}
use Prim.Native.Nat.{ℕ}
use Rattle.call_start.specs.Promise.{Lists}
use Rattle.stage.specs.declared.Standing.{Standing}
use Rattle.dialogue.proofs.OneAnswer.{shows_one}
use Rattle.input.specs.Bytes.{Takes}

module _ {at : Standing} {rs ts ms line out : List ℕ} {b : ℕ} where
  pub takes_one : {r₁ r₂ : Standing} {l₁ l₂ : Lists ℕ} {line₁ line₂ out₁ out₂ : List ℕ}
      → Takes at rs ts ms line out b r₁ l₁ line₁ out₁
      → Takes at rs ts ms line out b r₂ l₂ line₂ out₂ → ((r₁ ≡ r₂) × ((l₁ ≡ l₂) × (out₁ ≡ out₂))) × (line₁ ≡ line₂)
  takes_one x y = (shows_one x.shows y.shows, x.keeps ∙ sym y.keeps)
