-- No call makes more moves than a tablet table may have places, so a move list with more places than that gives the same outcome.
--   outcome_room    the outcome, with the list cut to so many places
-- Assumes nothing.
use mathlib.Core.Bool.{Bool, true, false, not}
use mathlib.Core.List.{List, [], ◌∷◌}
use mathlib.Core.Path.{◌≡◌, refl, sym, ap, ◌∙◌}
use Prim.Native.Nat.{ℕ, ◌≤◌, min}
use native.Mathlib.Omega.{arith}
use borrow.Author.Tests.{ltb-true, ltb-false, leb-false, lt-ltb, le-ltb, not-false}
use lib.Dec.{eqb, ltb, leb}
use lib.ListN.{length}
use Rattle.ring.specs.Most.{most_tablets}
use Rattle.ring.specs.Scheme.{known, Positions, positions}
use Rattle.ring.proofs.Tests.{split}
use Rattle.rule.specs.declared.Refusal.{Refusal}
use Rattle.rule.specs.declared.Refusal.TheVariants.{SchemeUnknown, TablesNotRight, NumberZero, ThereAlready}
use Rattle.rule.specs.declared.Refusal.TheVariants.{NoUnusedPlace, LimitsTooSmall, MoveListTooShort}
use Rattle.rule.specs.declared.Call.{Call}
use Rattle.rule.specs.declared.Call.TheVariants.{Add, Remove, Set, Enrol, Withdraw, Find}
use Rattle.rule.specs.Entry.{has, total}
use Rattle.rule.specs.Rule.{Ring}
use Rattle.rule.specs.Refusals.{is_done, Bar, bar, first_bar}
use Rattle.rule.specs.Calls.{edited, moves, wrong_numbers, refusal, accepted, declined, outcome}
use Rattle.rule.proofs.Accepted.{bar_passed}
use Rattle.rule.proofs.Counts.{length_insert, delete_length}
use Rattle.rule.proofs.Lengths.{moves_length}
use Rattle.tables.specs.Table.{tablet_places, tablet_number, tablet_relay}
use Rattle.tables.specs.Shape.{tablets_used, used_in}
use Rattle.tables.proofs.Shaped.{used_most}
use Rattle.meaning.specs.Meaning.{ring_of, tables_right, tables_bars}
use Rattle.meaning.proofs.Fit.{whole_tablets, right_fit}
use Rattle.meaning.proofs.Places.{length_places}
use Rattle.records.specs.Outcome.{lent_with, outcome_with}

-- ---- so many moves at most

module _ (rs ts : List ℕ) where
  -- the tablets of a table that fits
  tablets_few : (s : ℕ) → tables_right s rs ts ≡ true → (length (ring_of rs ts).tablets ≤ tablet_places ts)
      × (tablet_places ts ≤ most_tablets)
  unfolding ring_of used_in
  tablets_few s ok = (
    omega (
      arith,
      length_places (tablet_number ts) (tablet_relay ts) (tablets_used ts),
      used_most (tablet_number ts)
          (tablet_places ts),
    ),
    (whole_tablets ts (right_fit rs ts s ok).tablets).1,
  )

  module _ (s room : ℕ) (fit : tables_right s rs ts ≡ true) where
    abbrev g : Ring
    g = ring_of rs ts

    edited_few : (c : Call) → is_done (first_bar (wrong_numbers (lent_with s rs ts room) g c)) ≡ true
        → length (edited g c).tablets ≤ most_tablets
    unfolding wrong_numbers is_done edited lent_with
    edited_few (Add r l) h = omega (arith, (tablets_few s fit).0, (tablets_few s fit).1)
    edited_few (Remove r) h = omega (arith, (tablets_few s fit).0, (tablets_few s fit).1)
    edited_few (Set r l) h = omega (arith, (tablets_few s fit).0, (tablets_few s fit).1)
    edited_few (Enrol t) h =
        let b₃ : List Bar = bar (leb (tablet_places ts) (length g.tablets)) NoUnusedPlace ∷ [] in
        let b₂ : List Bar = bar (has g.tablets t.0) ThereAlready ∷ b₃ in
        let h₁ : (eqb t.0 0 ≡ false) × (is_done (first_bar b₂) ≡ true) = bar_passed
        (eqb t.0 0) NumberZero b₂ refl h in
        let h₂ : (has g.tablets t.0 ≡ false) × (is_done (first_bar b₃) ≡ true) = bar_passed
        (has g.tablets t.0) ThereAlready b₃ refl h₁.1 in
        let h₃ : (leb (tablet_places ts) (length g.tablets) ≡ false) × (is_done (first_bar []) ≡ true) = bar_passed
        (leb (tablet_places ts) (length g.tablets)) NoUnusedPlace [] refl h₂.1 in
        omega (
          arith,
          leb-false (tablet_places ts) (length g.tablets) h₃.0,
          length_insert t.0 0
              g.tablets,
          (tablets_few s fit).1,
        )
    edited_few (Withdraw t) h =
        omega (arith, delete_length t.0 g.tablets, (tablets_few s fit).0, (tablets_few s fit).1)
    edited_few (Find t) h = omega (arith, (tablets_few s fit).0, (tablets_few s fit).1)

-- ---- a list cut to so many places

-- a bar before two lists of bars that come to one
bar_same : (b : Bool) (r : Refusal) (bs bs' : List Bar) → (b ≡ false → first_bar bs ≡ first_bar bs')
    → first_bar (bar b r ∷ bs) ≡ first_bar (bar b r ∷ bs')
unfolding first_bar
bar_same true r bs bs' f = refl
bar_same false r bs bs' f = f refl

room_same : (room n : ℕ) → n ≤ most_tablets → ltb room n ≡ ltb (min room most_tablets) n
room_same room n h =
    split (ltb room n)
    (λ u. u ∙ sym (lt-ltb (min room most_tablets) n (omega (arith, ltb-true room n u))))
    (λ u. u ∙ sym (le-ltb (min room most_tablets) n (omega (arith, ltb-false room n u))))

module _ (s : ℕ) (rs ts : List ℕ) (room : ℕ) where
  -- how many moves the list takes is no matter to the numbers handed over
  numbers_room : (k : ℕ) (g : Ring) (c : Call) → wrong_numbers (lent_with s rs ts k) g c
      ≡ wrong_numbers (lent_with s rs ts room) g c
  unfolding wrong_numbers lent_with
  numbers_room k g (Add r l) = refl
  numbers_room k g (Remove r) = refl
  numbers_room k g (Set r l) = refl
  numbers_room k g (Enrol t) = refl
  numbers_room k g (Withdraw t) = refl
  numbers_room k g (Find t) = refl

  module _ (c : Call) where
    abbrev p : Positions
    p = positions s

    abbrev ring : Ring
    ring = ring_of rs ts

    abbrev wrong : Refusal
    wrong = first_bar (wrong_numbers (lent_with s rs ts room) ring c)

    abbrev short : ℕ → List Bar
    short k = bar (ltb k (length (moves p ring c))) MoveListTooShort ∷ []

    abbrev tight : ℕ → List Bar
    tight k = bar (ltb (total (edited ring c).relays) (length (edited ring c).tablets)) LimitsTooSmall ∷ short k

    abbrev behind : Refusal → ℕ → List Bar
    behind w k = bar (not (is_done w)) w ∷ tight k

    abbrev bars : Refusal → ℕ → List Bar
    bars w k = tables_bars s rs ts (behind w k)

    refusal_bars : (k : ℕ) → refusal p (lent_with s rs ts k) ring c ≡ first_bar (bars wrong k)
    unfolding refusal lent_with tables_bars tables_right
    refusal_bars k = ap (λ (l : List Bar). first_bar (bars (first_bar l) k)) (numbers_room k ring c)

    refusal_room : refusal p (lent_with s rs ts (min room most_tablets)) ring c ≡ refusal p (lent_with s rs ts room) ring c
    unfolding tables_bars
    refusal_room =
        refusal_bars (min room most_tablets)
        ∙ sym (bar_same (not (known s)) SchemeUnknown
        (bar (not (tables_right s rs ts)) TablesNotRight ∷ behind wrong room)
        (bar (not (tables_right s rs ts)) TablesNotRight ∷ behind wrong (min room most_tablets))
        (λ _. bar_same (not (tables_right s rs ts)) TablesNotRight (behind wrong room)
        (behind wrong (min room most_tablets))
        (λ ok. bar_same (not (is_done wrong)) wrong (tight room) (tight (min room most_tablets))
        (λ fine. ap (λ (b : Bool). first_bar (bar (ltb (total (edited ring c).relays) (length (edited ring c).tablets))
        LimitsTooSmall ∷ bar b MoveListTooShort ∷ []))
        (room_same room (length (moves p ring c))
        (omega (
          arith,
          moves_length p ring c,
          edited_few rs ts s room (not-false (tables_right s rs ts) ok) c
              (not-false (is_done wrong) fine),
        )))))))
        ∙ sym (refusal_bars room)

    pub outcome_room : outcome_with s rs ts (min room most_tablets) c ≡ outcome_with s rs ts room c
    unfolding outcome_with outcome
    outcome_room =
        ap (λ (r : Refusal). elim (is_done r) [ true ↦ accepted p ring c | false ↦ declined ring r ]) refusal_room
