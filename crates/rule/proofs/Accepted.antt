-- What an accepted call means, and that it leaves right tables.
--   accepted_is     a call is accepted only where no refusal applies
--   after_is        where the edited relays take the edited tablets, the tables are filled afresh
--   after_right     the tables after an accepted call are right
--   after_sets      they have the edited sets, and nothing else
--   outcome_right   so right tables stay right, whatever is called
-- Assumes nothing.
use mathlib.Core.Bool.{Bool, true, false, not, ◌&&◌}
use mathlib.Core.Path.{◌≡◌, refl, sym, ap, ◌∙◌}
use mathlib.Core.List.{List, [], ◌∷◌}
use mathlib.Core.Logic.{inl, inr, ⊎_elim}
use Prim.Native.Nat.{ℕ, ◌^◌, ◌≤◌, ◌<◌}
use native.Mathlib.Omega.{arith}
use borrow.Author.Tests.{ltb-false, eqb-false, le-leb, not-false}
use lib.Dec.{eqb, ltb, leb}
use lib.ListN.{length}
use Rattle.ring.specs.Most.{most_limit}
use Rattle.ring.specs.Scheme.{Positions}
use Rattle.ring.specs.Clockwise.{key}
use Rattle.ring.proofs.Tests.{split, and_left, and_right, true_false}
use Rattle.rule.specs.declared.Refusal.{Refusal}
use Rattle.rule.specs.declared.Refusal.TheVariants.{SchemeUnknown, TablesNotRight, NumberZero, TooLarge}
use Rattle.rule.specs.declared.Refusal.TheVariants.{NotThere, ThereAlready, NoUnusedPlace, LimitsTooSmall}
use Rattle.rule.specs.declared.Refusal.TheVariants.{MoveListTooShort}
use Rattle.rule.specs.declared.Call.{Call}
use Rattle.rule.specs.declared.Call.TheVariants.{Add, Remove, Set, Enrol, Withdraw, Find}
use Rattle.rule.specs.Entry.{Entry, numbers, has, insert, delete, put, total}
use Rattle.rule.specs.Rule.{Ring, limits_fit, right}
use Rattle.rule.specs.Refusals.{is_done, Bar, bar, first_bar}
use Rattle.rule.specs.Calls.{Lent, subject, edited, or_nobody, after, moves, wrong_numbers, refusal, accepted, declined, outcome}
use Rattle.rule.specs.Rooms.{fill}
use Rattle.rule.specs.Stability.{Rising, In}
use Rattle.rule.specs.Facts.{Among, Small, Table, Right}
use Rattle.rule.specs.Applies.{Accepted}
use Rattle.rule.proofs.Stable.{numbers_fill}
use Rattle.rule.proofs.Puts.{numbers_put}
use Rattle.rule.proofs.Sets.{in_insert, in_delete, rising_insert, rising_delete}
use Rattle.rule.proofs.Placements.{placement_fill}
use Rattle.rule.proofs.Right.{right_is, right_from, length_numbers}
use Rattle.rule.proofs.Demand3.{in_has}

-- ---- refusals one by one

-- a refusal that is none of the first: it does not apply, and the rest decide
pub bar_passed : (b : Bool) (r : Refusal) (bs : List Bar) → is_done r ≡ false → is_done (first_bar (bar b r ∷ bs)) ≡ true
    → (b ≡ false) × (is_done (first_bar bs) ≡ true)
unfolding first_bar
bar_passed true r bs n h = absurd (true_false (sym h ∙ n))
bar_passed false r bs n h = (refl, h)

-- one that is another chain's
chain_passed : (r : Refusal) (bs : List Bar) → is_done (first_bar (bar (not (is_done r)) r ∷ bs)) ≡ true
    → (is_done r ≡ true) × (is_done (first_bar bs) ≡ true)
unfolding first_bar
chain_passed r bs h =
    split (is_done r)
    (λ s. (s, rw (s, first_bar) at h))
    (λ s. absurd (true_false (sym (rw (s, first_bar) at h) ∙ s)))

module _ (p : Positions) (m : Lent) (g : Ring) (c : Call) where
  abbrev bars₅ : List Bar
  bars₅ = bar (ltb m.move_places (length (moves p g c))) MoveListTooShort ∷ []

  abbrev bars₄ : List Bar
  bars₄ = bar (ltb (total (edited g c).relays) (length (edited g c).tablets)) LimitsTooSmall ∷ bars₅

  abbrev bars₃ : List Bar
  bars₃ = bar (not (is_done (first_bar (wrong_numbers m g c)))) (first_bar (wrong_numbers m g c)) ∷ bars₄

  abbrev bars₂ : List Bar
  bars₂ = bar (not (m.fit && right p g)) TablesNotRight ∷ bars₃

  pub accepted_is : is_done (refusal p m g c) ≡ true → Accepted p m g c
  unfolding refusal is_done
  accepted_is h =
      let h₁ : (not m.known ≡ false) × (is_done (first_bar bars₂) ≡ true) = bar_passed
      (not m.known) SchemeUnknown bars₂ refl h in
      let h₂ : (not (m.fit && right p g) ≡ false) × (is_done (first_bar bars₃) ≡ true) = bar_passed
      (not (m.fit && right p g)) TablesNotRight bars₃ refl h₁.1 in
      let h₃ : (is_done (first_bar (wrong_numbers m g c)) ≡ true) × (is_done (first_bar bars₄) ≡ true) = chain_passed
      (first_bar (wrong_numbers m g c)) bars₄ h₂.1 in
      let h₄ : (ltb (total (edited g c).relays) (length (edited g c).tablets) ≡ false)
      × (is_done (first_bar bars₅) ≡ true) =
      bar_passed (ltb (total (edited g c).relays) (length (edited g c).tablets)) LimitsTooSmall bars₅ refl h₃.1 in
      let h₅ : (ltb m.move_places (length (moves p g c)) ≡ false) × (is_done (first_bar []) ≡ true) =
      bar_passed (ltb m.move_places (length (moves p g c))) MoveListTooShort [] refl h₄.1 in
      let t : (m.fit && right p g) ≡ true = not-false (m.fit && right p g) h₂.0 in
      record {
        known = not-false m.known h₁.0;
        fit = and_left m.fit (right p g) t;
        tables = and_right m.fit (right p g) t;
        numbers = h₃.0;
        enough = ltb-false (total (edited g c).relays) (length (edited g c).tablets) h₄.0;
        list = ltb-false m.move_places (length (moves p g c)) h₅.0;
      }

-- ---- tables under an edit

among_in : (es : List Entry) (x : Entry) → Among x es → In x.number (numbers es)
unfolding numbers
among_in [] x i = i
among_in (e ∷ es) x (inl u) = inl (ap (λ (z : Entry). z.number) u)
among_in (e ∷ es) x (inr i) = inr (among_in es x i)

in_small : (es : List Entry) → Small es → (n : ℕ) → In n (numbers es) → n < 2 ^ 32
unfolding numbers
in_small [] small n i = absurd i
in_small (e ∷ es) small n (inl u) = omega (arith, small e (inl refl))
in_small (e ∷ es) small n (inr i) = in_small es (λ x j. small x (inr j)) n i

-- a table is told by its numbers
pub table_of : (es : List Entry) → Rising 0 (numbers es) → ((n : ℕ) → In n (numbers es) → n < 2 ^ 32) → Table es
table_of es up small = record { up = up; small = λ x i. small x.number (among_in es x i) }

table_insert : (n v : ℕ) (es : List Entry) → Table es → 0 < n → n < 2 ^ 32 → has es n ≡ false → Table (insert n v es)
table_insert n v es t h s out =
    table_of (insert n v es)
    (rising_insert n v es 0 h t.up (λ i. true_false (sym (in_has es n i) ∙ out)))
    (λ q i. ⊎_elim (λ (e : q ≡ n). omega arith) (λ j. in_small es t.small q j) (in_insert n v es q i))

table_delete : (n : ℕ) (es : List Entry) → Table es → Table (delete n es)
table_delete n es t =
    table_of (delete n es) (rising_delete n es 0 t.up) (λ q i. in_small es t.small q (in_delete n es q i))

table_put : (n v : ℕ) (es : List Entry) → Table es → Table (put n v es)
table_put n v es t =
    table_of (put n v es) (rw (numbers_put n v es) t.up)
    (λ q i. in_small es t.small q (rw (numbers_put n v es) at i))

limits_insert : (n v : ℕ) (es : List Entry) → v ≤ most_limit → limits_fit es ≡ true → limits_fit (insert n v es) ≡ true
unfolding limits_fit insert
limits_insert n v [] h t = rw (le-leb v most_limit h)
limits_insert n v (e ∷ es) h t =
    split (ltb n e.number)
    (λ s. rw (s, insert, le-leb v most_limit h) t)
    (λ s. rw (s, insert, and_left (leb e.beside most_limit) (limits_fit es) t)
    (limits_insert n v es h (and_right (leb e.beside most_limit) (limits_fit es) t)))

limits_delete : (n : ℕ) (es : List Entry) → limits_fit es ≡ true → limits_fit (delete n es) ≡ true
unfolding limits_fit delete
limits_delete n [] t = t
limits_delete n (e ∷ es) t =
    split (eqb e.number n)
    (λ s. rw (s, delete) (and_right (leb e.beside most_limit) (limits_fit es) t))
    (λ s. rw (s, delete, and_left (leb e.beside most_limit) (limits_fit es) t)
    (limits_delete n es (and_right (leb e.beside most_limit) (limits_fit es) t)))

limits_put : (n v : ℕ) (es : List Entry) → v ≤ most_limit → limits_fit es ≡ true → limits_fit (put n v es) ≡ true
unfolding limits_fit put
limits_put n v [] h t = t
limits_put n v (e ∷ es) h t =
    split (eqb e.number n)
    (λ s. rw (s, put, le-leb v most_limit h) (and_right (leb e.beside most_limit) (limits_fit es) t))
    (λ s. rw (s, put, and_left (leb e.beside most_limit) (limits_fit es) t)
    (limits_put n v es h (and_right (leb e.beside most_limit) (limits_fit es) t)))

-- ---- the edited sets

pub record Edited (g : Ring) (c : Call) : Type 0 where
  pub relays : Table (edited g c).relays
  pub limits : limits_fit (edited g c).relays ≡ true
  pub tablets : Table (edited g c).tablets

-- numbers that passed are not zero, and the others as their refusals say
positive : (n : ℕ) → eqb n 0 ≡ false → 0 < n
positive n e = let z : n ≡ 0 → ⊥ = eqb-false n 0 e in omega arith

pub edited_tables : (p : Positions) (m : Lent) (g : Ring) (c : Call) → Right p g
    → is_done (first_bar (wrong_numbers m g c)) ≡ true → subject c < 2 ^ 32 → Edited g c
unfolding wrong_numbers is_done subject edited
edited_tables p m g (Add r l) ok h s =
    let b₄ : List Bar = bar (leb m.relay_places (length g.relays)) NoUnusedPlace ∷ [] in
    let b₃ : List Bar = bar (has g.relays r.0) ThereAlready ∷ b₄ in
    let b₂ : List Bar = bar (ltb most_limit l) TooLarge ∷ b₃ in
    let h₁ : (eqb r.0 0 ≡ false) × (is_done (first_bar b₂) ≡ true) = bar_passed (eqb r.0 0) NumberZero b₂ refl h in
    let h₂ : (ltb most_limit l ≡ false) × (is_done (first_bar b₃) ≡ true) = bar_passed (ltb most_limit l) TooLarge b₃ refl
    h₁.1 in
    let h₃ : (has g.relays r.0 ≡ false) × (is_done (first_bar b₄) ≡ true) = bar_passed
    (has g.relays r.0) ThereAlready b₄ refl h₂.1 in
    record {
      relays = table_insert r.0 l g.relays ok.relays (positive r.0 h₁.0) s h₃.0;
      limits = limits_insert r.0 l g.relays (ltb-false most_limit l h₂.0) ok.limits;
      tablets = ok.tablets;
    }
edited_tables p m g (Remove r) ok h s =
    record {
      relays = table_delete r.0 g.relays ok.relays;
      limits = limits_delete r.0 g.relays
          ok.limits;
      tablets = ok.tablets;
    }
edited_tables p m g (Set r l) ok h s =
    let b₃ : List Bar = bar (not (has g.relays r.0)) NotThere ∷ [] in
    let b₂ : List Bar = bar (ltb most_limit l) TooLarge ∷ b₃ in
    let h₁ : (eqb r.0 0 ≡ false) × (is_done (first_bar b₂) ≡ true) = bar_passed (eqb r.0 0) NumberZero b₂ refl h in
    let h₂ : (ltb most_limit l ≡ false) × (is_done (first_bar b₃) ≡ true) = bar_passed (ltb most_limit l) TooLarge b₃ refl
    h₁.1 in
    record {
      relays = table_put r.0 l g.relays ok.relays;
      limits = limits_put r.0 l g.relays (ltb-false most_limit l h₂.0) ok.limits;
      tablets = ok.tablets;
    }
edited_tables p m g (Enrol t) ok h s =
    let b₃ : List Bar = bar (leb m.tablet_places (length g.tablets)) NoUnusedPlace ∷ [] in
    let b₂ : List Bar = bar (has g.tablets t.0) ThereAlready ∷ b₃ in
    let h₁ : (eqb t.0 0 ≡ false) × (is_done (first_bar b₂) ≡ true) = bar_passed (eqb t.0 0) NumberZero b₂ refl h in
    let h₂ : (has g.tablets t.0 ≡ false) × (is_done (first_bar b₃) ≡ true) = bar_passed
    (has g.tablets t.0) ThereAlready b₃ refl h₁.1 in
    record {
      relays = ok.relays;
      limits = ok.limits;
      tablets = table_insert t.0 0 g.tablets ok.tablets (positive t.0 h₁.0) s h₂.0;
    }
edited_tables p m g (Withdraw t) ok h s =
    record { relays = ok.relays; limits = ok.limits; tablets = table_delete t.0 g.tablets ok.tablets }
edited_tables p m g (Find t) ok h s = record { relays = ok.relays; limits = ok.limits; tablets = ok.tablets }

-- ---- the tables afterwards

-- the rule's tables where the edited relays take the edited tablets
pub after_is : (p : Positions) (g : Ring) (c : Call) → Table (edited g c).relays → length (edited g c).tablets ≤ total
    (edited g c).relays
    → (after p g c).tablets ≡ fill (key p) (edited g c).relays (numbers (edited g c).tablets)
unfolding after or_nobody
after_is p g c t h =
    rw (placement_fill p (edited g c).relays 0 t.up t.small (numbers (edited g c).tablets)
    (omega (arith, length_numbers (edited g c).tablets)))

module _ (p : Positions) (g : Ring) (c : Call) (e : Edited g c)
    (enough : length (edited g c).tablets ≤ total (edited g c).relays) where
  pub after_fill : (after p g c).tablets ≡ fill (key p) (edited g c).relays (numbers (edited g c).tablets)
  after_fill = after_is p g c e.relays enough

  pub after_sets : numbers (after p g c).tablets ≡ numbers (edited g c).tablets
  after_sets = ap numbers after_fill ∙ numbers_fill (key p) (numbers (edited g c).tablets) (edited g c).relays

  pub after_length : length (after p g c).tablets ≡ length (edited g c).tablets
  after_length =
      sym (length_numbers (after p g c).tablets) ∙ ap length after_sets ∙ length_numbers (edited g c).tablets

  pub after_right : Right p (after p g c)
  unfolding after
  after_right =
      record {
        relays = e.relays;
        limits = e.limits;
        tablets = table_of (after p g c).tablets (rw after_sets e.tablets.up)
            (λ n i. in_small (edited g c).tablets e.tablets.small n (rw after_sets at i));
        enough = omega (arith, after_length);
        ruled = after_fill ∙ ap (fill (key p) (edited g c).relays) (sym after_sets);
      }

-- ---- the outcome

module _ (p : Positions) (m : Lent) (g : Ring) (c : Call) where
  pub outcome_accepted : is_done (refusal p m g c) ≡ true → outcome p m g c ≡ accepted p g c
  unfolding outcome
  outcome_accepted d = rw (d, outcome)

  pub outcome_declined : is_done (refusal p m g c) ≡ false → outcome p m g c ≡ declined g (refusal p m g c)
  unfolding outcome
  outcome_declined d = rw (d, outcome)

  -- whatever is called, right tables stay right
  pub outcome_right : subject c < 2 ^ 32 → right p g ≡ true → right p (outcome p m g c).ring ≡ true
  unfolding accepted declined
  outcome_right s r =
      split (is_done (refusal p m g c))
      (λ d. let a : Accepted p m g c = accepted_is p m g c d in
      rw (outcome_accepted d) (right_from p (after p g c)
      (after_right p g c (edited_tables p m g c (right_is p g r) a.numbers s) a.enough)))
      (λ d. rw (outcome_declined d) r)
