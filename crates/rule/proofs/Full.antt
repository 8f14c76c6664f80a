-- Full relays in right tables (document 01, "The rule of placement", "Where people go aground").
--   full_or_room     a relay is full or has room, and not both
--   limit_0_full     one of limit 0 is always full
--   ahead_full       so is every relay ahead of a tablet's own in its order: a walk that stops at the first with room finds the tablet
-- Assumes nothing.
use mathlib.Core.Bool.{Bool, true, not}
use mathlib.Core.Path.{◌≡◌, sym, ◌∙◌}
use mathlib.Core.List.{List, [], ◌∷◌}
use mathlib.Core.Logic.{inl, inr, ⊎_elim}
use Prim.Native.Nat.{ℕ, ◌^◌, ◌≤◌, ◌<◌}
use native.Mathlib.Omega.{arith}
use borrow.Author.Tests.{ltb-true, ltb-false, eqb-false, eq-eqb, ne_eqb, lt-ltb}
use lib.Dec.{eqb, ltb}
use Rattle.ring.specs.Scheme.{Positions}
use Rattle.ring.specs.Clockwise.{sooner, key}
use Rattle.ring.proofs.Tests.{split, true_false}
use Rattle.ring.proofs.Order.{sooner_key, key_apart}
use Rattle.rule.specs.Entry.{Entry, entry, has, beside_of, load, up_to}
use Rattle.rule.specs.Order.{order}
use Rattle.rule.specs.Rule.{Ring, full, has_room}
use Rattle.rule.specs.Walks.{had_passed}
use Rattle.rule.specs.Facts.{Among, Sorted, Right}
use Rattle.rule.proofs.Orders.{order_in, in_order, order_sorted}
use Rattle.rule.proofs.Placements.{among_held, held_among}
use Rattle.rule.proofs.Right.{right_stable, right_loads}
use Rattle.rule.proofs.Searches.{sits_among}
use Rattle.rule.proofs.Demand3.{has_sits}
use Rattle.rule.proofs.Holes.{room_passed}

module _ (p : Positions) (g : Ring) (r : Right p g) where
  -- no more than its limit
  within : (e : Entry) → Among e g.relays → load g.tablets e.number ≤ e.beside
  within e i = omega (arith, right_loads p g r e.number, among_held g.relays 0 r.relays.up e i)

  pub full_or_room : (e : Entry) → Among e g.relays → full g.tablets e ≡ not (has_room g.tablets e)
  unfolding full has_room
  full_or_room e i =
      split (ltb (load g.tablets e.number) e.beside)
      (λ s. rw s
      (ne_eqb (load g.tablets e.number) e.beside
      (λ (h : load g.tablets e.number ≡ e.beside). omega
      (arith, ltb-true (load g.tablets e.number) e.beside s))))
      (λ s. rw s
      (eq-eqb (load g.tablets e.number) e.beside
      (omega (arith, ltb-false (load g.tablets e.number) e.beside s, within e i))))

  pub limit_0_full : (e : Entry) → Among e g.relays → e.beside ≡ 0 → full g.tablets e ≡ true
  unfolding full
  limit_0_full e i z = eq-eqb (load g.tablets e.number) e.beside (omega (arith, within e i))

  module _ (t : ℕ) (there : has g.tablets t ≡ true) where
    abbrev own : ℕ
    own = beside_of g.tablets t

    abbrev is_own : Entry → Bool
    is_own e = eqb e.number own

    -- in a list by rising key, who stands up to one of that number has another number, and no greater key
    up_to_lem : (l : List Entry) → Sorted (key p t) l → (o : Entry) → Among o l → o.number ≡ own → (e : Entry)
        → Among e (up_to is_own l)
        → Among e l × ((e.number ≡ own → ⊥) × (key p t e.number ≤ key p t own))
    unfolding up_to
    up_to_lem [] up o j h e = λ i. absurd i
    up_to_lem (x ∷ l) up o j h e =
        split (is_own x)
        (λ s. rw (s, up_to) (λ i. absurd i))
        (λ s. rw (s, up_to)
        (λ i. ⊎_elim
        (λ u. (
          inl u,
          rw u (
            eqb-false x.number own s,
            ⊎_elim (λ v. absurd (eqb-false x.number own s (rw v at h)))
                (λ k. rw h at (up.0 o k)) j,
          ),
        ))
        (λ k. let d : Among e l × ((e.number ≡ own → ⊥) × (key p t e.number ≤ key p t own)) =
        up_to_lem l up.1 o (⊎_elim (λ v. absurd (eqb-false x.number own s (rw v at h))) (λ w. w) j) h e k in
        (inr d.0, d.1))
        i))

    -- the tablet's own relay is one of the ring's
    own_relay : (o : Entry) × Among o g.relays × (o.number ≡ own)
    own_relay =
        held_among g.relays own
        (omega (arith, (right_stable p g r t own (has_sits g.tablets 0 t r.tablets.up there)).room))

    pub ahead_full : (e : Entry) → Among e (up_to is_own (order p t g.relays)) → full g.tablets e ≡ true
    unfolding had_passed full
    ahead_full e i =
        let o : (o : Entry) × Among o g.relays × (o.number ≡ own) = own_relay in
        let d : Among e (order p t g.relays) × ((e.number ≡ own → ⊥) × (key p t e.number ≤ key p t own)) =
        up_to_lem (order p t g.relays) (order_sorted p t g.relays r.relays.small) o.0
        (in_order p t g.relays o.0 o.1) o.2 e i in
        let j : Among e g.relays = order_in p t g.relays e d.0 in
        let small : e.number < 2 ^ 32 = r.relays.small e j in
        let own_small : own < 2 ^ 32 = omega (arith, r.relays.small o.0 o.1, o.2) in
        let nearer : key p t e.number < key p t own = let z : key p t e.number ≡ key p t own
        → ⊥ = λ k. d.1.0 (key_apart p t e.number own small own_small k) in omega (arith, d.1.1) in
        let passed : sooner p t e.number own ≡ true = sooner_key p t e.number own small own_small
        ∙ lt-ltb (key p t e.number) (key p t own) nearer in
        eq-eqb (load g.tablets e.number) e.beside
        (split (ltb (load g.tablets e.number) e.beside)
        (λ s. absurd (true_false (sym passed ∙ room_passed p g r e.number
        (omega (
          arith,
          ltb-true (load g.tablets e.number) e.beside s,
          among_held g.relays 0
              r.relays.up e j,
        ))
        (entry t own) (sits_among g.tablets t own (has_sits g.tablets 0 t r.tablets.up there)))))
        (λ s. omega (arith, ltb-false (load g.tablets e.number) e.beside s, within e j)))
