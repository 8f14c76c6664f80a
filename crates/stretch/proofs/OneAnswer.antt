-- The promises of a stretch bind. Two parts that one of them allows have the same content and the same place (`part_one`); what is left open is
-- the ghost name of the reference, which no code can see. Two spans that the other allows are equal (`bounds_one`). Assumes nothing.
use mathlib.Core.List.{List}
use mathlib.Core.Path.{◌≡◌, sym, ◌∙◌}
use Prim.Native.Nat.{ℕ}
use native.Mathlib.Omega.{arith}
use denote.Ref.{Bor}
use Rattle.rule.specs.Sheet.{Stretch}
use Rattle.stretch.specs.declared.Span.{Span}
use Rattle.stretch.specs.Promise.{PartOf}
use Rattle.stretch.specs.Bounds.{Bounds}

pub part_one : {s r r' : Bor (List ℕ)} {part : Stretch} → PartOf s r part → PartOf s r' part → (r.ref_ptr ≡ r'.ref_ptr)
    × (r.now ≡ r'.now)
part_one x y = (x.place ∙ sym y.place, x.content ∙ sym y.content)

pub bounds_one : {part : Stretch} {size : ℕ} {s s' : Span} → Bounds part size s.from s.to
    → Bounds part size s'.from s'.to → s ≡ s'
bounds_one {s = s} {s' = s'} x y =
    let f : s.from ≡ s'.from = x.start ∙ sym y.start in
    let t : s.to ≡ s'.to = omega arith in
    λ i. record { from = f i; to = t i }
