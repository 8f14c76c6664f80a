-- After an accepted call the entries are no more than the places that were lent.
--   relays_room, tablets_room     of the one table and the other
-- Assumes nothing.
use mathlib.Core.Bool.{true, false}
use mathlib.Core.List.{List, [], ◌∷◌}
use mathlib.Core.Path.{◌≡◌, refl, sym, ap, ◌∙◌}
use Prim.Native.Nat.{ℕ, ◌≤◌}
use native.Mathlib.Omega.{arith}
use borrow.Author.Tests.{leb-false}
use lib.Dec.{eqb, ltb, leb}
use lib.ListN.{length}
use Rattle.ring.specs.Most.{most_limit}
use Rattle.rule.specs.declared.Refusal.TheVariants.{NumberZero, TooLarge, ThereAlready, NoUnusedPlace}
use Rattle.rule.specs.declared.Call.{Call}
use Rattle.rule.specs.declared.Call.TheVariants.{Add, Remove, Set, Enrol, Withdraw, Find}
use Rattle.rule.specs.Entry.{has, put}
use Rattle.rule.specs.Rule.{Ring}
use Rattle.rule.specs.Refusals.{is_done, Bar, bar, first_bar}
use Rattle.rule.specs.Calls.{edited, wrong_numbers}
use Rattle.rule.proofs.Accepted.{bar_passed}
use Rattle.rule.proofs.Counts.{length_insert, delete_length}
use Rattle.rule.proofs.Puts.{numbers_put}
use Rattle.rule.proofs.Right.{length_numbers}
use Rattle.tables.specs.Table.{relay_places, relay_number, relay_limit, tablet_places, tablet_number, tablet_relay}
use Rattle.tables.specs.Shape.{relays_used, tablets_used, used_in}
use Rattle.tables.proofs.Shaped.{used_most}
use Rattle.meaning.specs.Meaning.{ring_of, lent_of}
use Rattle.meaning.proofs.Places.{length_places}

module _ (s : ℕ) (rs ts ms : List ℕ) where
  abbrev g : Ring
  g = ring_of rs ts

  relays_within : length g.relays ≤ relay_places rs
  unfolding ring_of used_in
  relays_within =
      omega (
        arith,
        length_places (relay_number rs) (relay_limit rs) (relays_used rs),
        used_most (relay_number rs)
            (relay_places rs),
      )

  tablets_within : length g.tablets ≤ tablet_places ts
  unfolding ring_of used_in
  tablets_within =
      omega (
        arith,
        length_places (tablet_number ts) (tablet_relay ts) (tablets_used ts),
        used_most (tablet_number ts)
            (tablet_places ts),
      )

  pub relays_room : (c : Call) → is_done (first_bar (wrong_numbers (lent_of s rs ts ms) g c)) ≡ true
      → length (edited g c).relays ≤ relay_places rs
  unfolding wrong_numbers is_done edited lent_of
  relays_room (Add r l) h =
      let b₄ : List Bar = bar (leb (relay_places rs) (length g.relays)) NoUnusedPlace ∷ [] in
      let b₃ : List Bar = bar (has g.relays r.0) ThereAlready ∷ b₄ in
      let b₂ : List Bar = bar (ltb most_limit l) TooLarge ∷ b₃ in
      let h₁ : (eqb r.0 0 ≡ false) × (is_done (first_bar b₂) ≡ true) = bar_passed
      (eqb r.0 0) NumberZero b₂ refl h in
      let h₂ : (ltb most_limit l ≡ false) × (is_done (first_bar b₃) ≡ true) = bar_passed (ltb most_limit l) TooLarge b₃ refl
      h₁.1 in
      let h₃ : (has g.relays r.0 ≡ false) × (is_done (first_bar b₄) ≡ true) = bar_passed
      (has g.relays r.0) ThereAlready b₄ refl h₂.1 in
      let h₄ : (leb (relay_places rs) (length g.relays) ≡ false) × (is_done (first_bar []) ≡ true) = bar_passed
      (leb (relay_places rs) (length g.relays)) NoUnusedPlace [] refl h₃.1 in
      omega (arith, leb-false (relay_places rs) (length g.relays) h₄.0, length_insert r.0 l g.relays)
  relays_room (Remove r) h = omega (arith, delete_length r.0 g.relays, relays_within)
  relays_room (Set r l) h =
      omega (
        arith,
        sym (length_numbers (put r.0 l g.relays)) ∙ ap length (numbers_put r.0 l g.relays)
            ∙ length_numbers g.relays,
        relays_within,
      )
  relays_room (Enrol t) h = relays_within
  relays_room (Withdraw t) h = relays_within
  relays_room (Find t) h = relays_within

  pub tablets_room : (c : Call) → is_done (first_bar (wrong_numbers (lent_of s rs ts ms) g c)) ≡ true
      → length (edited g c).tablets ≤ tablet_places ts
  unfolding wrong_numbers is_done edited lent_of
  tablets_room (Add r l) h = tablets_within
  tablets_room (Remove r) h = tablets_within
  tablets_room (Set r l) h = tablets_within
  tablets_room (Enrol t) h =
      let b₃ : List Bar = bar (leb (tablet_places ts) (length g.tablets)) NoUnusedPlace ∷ [] in
      let b₂ : List Bar = bar (has g.tablets t.0) ThereAlready ∷ b₃ in
      let h₁ : (eqb t.0 0 ≡ false) × (is_done (first_bar b₂) ≡ true) = bar_passed
      (eqb t.0 0) NumberZero b₂ refl h in
      let h₂ : (has g.tablets t.0 ≡ false) × (is_done (first_bar b₃) ≡ true) = bar_passed
      (has g.tablets t.0) ThereAlready b₃ refl h₁.1 in
      let h₃ : (leb (tablet_places ts) (length g.tablets) ≡ false) × (is_done (first_bar []) ≡ true) = bar_passed
      (leb (tablet_places ts) (length g.tablets)) NoUnusedPlace [] refl h₂.1 in
      omega (arith, leb-false (tablet_places ts) (length g.tablets) h₃.0, length_insert t.0 0 g.tablets)
  tablets_room (Withdraw t) h = omega (arith, delete_length t.0 g.tablets, tablets_within)
  tablets_room (Find t) h = tablets_within
