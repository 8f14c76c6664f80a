-- Entries as the numbers of a table with an entry in every place.
--   flat_places     the numbers are these entries
-- Assumes nothing.
use mathlib.Core.List.{List, [], ◌∷◌}
use mathlib.Core.Path.{◌≡◌, refl, ap, ◌∙◌}
use Prim.Native.Nat.{ℕ, suc, ◌+◌, ◌*◌}
use native.Mathlib.Omega.{arith}
use lib.ListN.{length, get_or}
use Rattle.rule.specs.Entry.{Entry}
use Rattle.meaning.specs.Meaning.{places}
use Rattle.meaning.proofs.Places.{next, places_cons, places_ext}
use Rattle.write.specs.Tables.{flat}
use Rattle.place.proofs.Sets.{first_of, second_of}

pub flat_places : (es : List Entry) → places (first_of (flat es)) (second_of (flat es)) (length es) ≡ es
unfolding flat places
flat_places [] = refl
flat_places (e ∷ es) =
    let l : List ℕ = flat (e ∷ es) in
    let rest : places (next (first_of l)) (next (second_of l)) (length es) ≡ es =
    places_ext (next (first_of l)) (next (second_of l)) (first_of (flat es)) (second_of (flat es)) (length es)
    (λ i h. let a : 2 * suc i ≡ suc (suc (2 * i)) = omega arith in ap (λ (k : ℕ). get_or l k 0) a)
    (λ i h. let a : 2 * suc i + 1 ≡ suc (suc (2 * i + 1)) = omega arith in ap (λ (k : ℕ). get_or l k 0) a)
    ∙ flat_places es in
    places_cons (first_of l) (second_of l) (length es) ∙ ap (λ (k : List Entry). e ∷ k) rest
