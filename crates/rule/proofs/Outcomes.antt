-- What the sweeps give is the outcome that document 01 defines.
--   enrol_after, enrol_moves, enrol_relay, enrol_passed    of an enrolment
--   withdraw_after, withdraw_moves                         of a withdrawal
--   find_after, find_moves                                 of a find
-- Assumes nothing.
use mathlib.Core.Bool.{true, false}
use mathlib.Core.Path.{◌≡◌, refl, sym, ap, ◌∙◌}
use mathlib.Core.List.{List, [], ◌∷◌}
use mathlib.Core.Logic.{inl, inr}
use mathlib.Core.Option.{some}
use Prim.Native.Nat.{ℕ, ◌≤◌, ◌<◌}
use native.Mathlib.Omega.{arith}
use borrow.Author.Tests.{ltb-false, eq-eqb}
use lib.ListN.{length}
use Rattle.ring.specs.Scheme.{Positions}
use Rattle.ring.specs.declared.TabletNumber.{TabletNumber}
use Rattle.ring.proofs.Tests.{split}
use Rattle.rule.specs.declared.Move.{Move}
use Rattle.rule.specs.declared.Call.TheVariants.{Enrol, Withdraw, Find}
use Rattle.rule.specs.Entry.{Entry, numbers, has, beside_of, insert, delete, total, count, load, first, up_to}
use Rattle.rule.specs.Order.{order}
use Rattle.rule.specs.Rule.{Ring, full, has_room}
use Rattle.rule.specs.Calls.{edited, after, moved, moves, full_ahead, passed, relay_of}
use Rattle.rule.specs.Sweeps.{seated, seats, turn, newcomer, holes}
use Rattle.rule.specs.Stability.{Rising, In}
use Rattle.rule.specs.Facts.{Among, Right}
use Rattle.rule.proofs.Counts.{insert_sits, length_insert, length_delete}
use Rattle.rule.proofs.Sets.{rising_insert}
use Rattle.rule.proofs.Orders.{order_in}
use Rattle.rule.proofs.Placements.{among_held}
use Rattle.rule.proofs.Right.{right_loads}
use Rattle.rule.proofs.Demand3.{has_sits, sits_beside}
use Rattle.rule.proofs.Turns.{turn_placement, distinct_order, distinct_rising, up_to_stop, up_to_go}
use Rattle.rule.proofs.Holes.{holes_placement}
use Rattle.rule.proofs.MoveLists.{Chain, numbers_seated, seated_other, turn_chain, chain_seated, turn_moves, holes_moves}
use Rattle.rule.proofs.Moves.{moved_none}
use Rattle.rule.proofs.Accepted.{after_is}

-- ---- an enrolment

module _ (p : Positions) (g : Ring) (r : Right p g) (t : TabletNumber) (some_number : 0 < t.0)
    (new : In t.0 (numbers g.tablets) → ⊥) (room : length g.tablets < total g.relays) where
  abbrev x : ℕ
  x = t.0

  -- the full relays ahead of the first with room, and the turn over them
  abbrev pub fulls : List Entry
  fulls = up_to (has_room g.tablets) (order p x g.relays)

  abbrev pub chain_to : Entry → List Move
  chain_to f = seats (turn g.tablets (newcomer x) fulls) f.number

  module _ (f : Entry) (h : first (has_room g.tablets) (order p x g.relays) ≡ some f) where
    pub enrol_chain : Chain g.tablets x (chain_to f)
    enrol_chain =
        turn_chain g.tablets x (has_room g.tablets) (order p x g.relays) (newcomer x) f
        (inl (unfold newcomer in (record { walker = refl; from = refl; chain = refl })))
        (distinct_order p x g.relays (distinct_rising g.relays 0 r.relays.up)) h

    pub enrol_after : (after p g (Enrol t)).tablets ≡ seated enrol_chain.rest
        (insert x enrol_chain.seat g.tablets)
    unfolding edited
    enrol_after =
        after_is p g (Enrol t) r.relays (omega (arith, length_insert x 0 g.tablets))
        ∙ sym (turn_placement p g r x some_number new f h)
        ∙ chain_seated g.tablets r.tablets.up x some_number new (chain_to f) enrol_chain

    pub enrol_moves : moves p g (Enrol t) ≡ enrol_chain.rest
    unfolding moves edited
    enrol_moves =
        ap (moved g.tablets) (after_is p g (Enrol t) r.relays (omega (arith, length_insert x 0 g.tablets))
        ∙ sym (turn_placement p g r x some_number new f h))
        ∙ turn_moves g.tablets r.tablets.up x some_number new (chain_to f) enrol_chain

    -- the newcomer's relay is where it sat down first
    pub enrol_relay : relay_of p g (Enrol t) ≡ enrol_chain.seat
    unfolding relay_of
    enrol_relay = ap (λ (l : List Entry). beside_of l x) enrol_after ∙ seat_stays
      where
        up₁ : Rising 0 (numbers (insert x enrol_chain.seat g.tablets))
        up₁ = rising_insert x enrol_chain.seat g.tablets 0 some_number r.tablets.up new

        seat_stays : beside_of (seated enrol_chain.rest (insert x enrol_chain.seat g.tablets)) x
            ≡ enrol_chain.seat
        seat_stays =
            sits_beside (seated enrol_chain.rest (insert x enrol_chain.seat g.tablets)) 0 x enrol_chain.seat
            (rw (numbers_seated enrol_chain.rest (insert x enrol_chain.seat g.tablets)) up₁)
            (seated_other enrol_chain.rest x enrol_chain.up (insert x enrol_chain.seat g.tablets) x
            enrol_chain.seat (omega arith)
            (insert_sits x enrol_chain.seat g.tablets x enrol_chain.seat (inl (refl, refl))))

  -- every relay ahead of the first with room is full
  ahead_full : (l : List Entry) → ((e : Entry) → Among e l → Among e g.relays)
      → count (full g.tablets) (up_to (has_room g.tablets) l) ≡ length (up_to (has_room g.tablets) l)
  ahead_full [] inside = unfold count up_to in refl
  ahead_full (e ∷ l) inside =
      split (has_room g.tablets e)
      (λ o. ap (count (full g.tablets)) (up_to_stop (has_room g.tablets) e l o) ∙ unfold count in refl
      ∙ ap length (sym (up_to_stop (has_room g.tablets) e l o)))
      (λ o. ap (count (full g.tablets)) (up_to_go (has_room g.tablets) e l o)
      ∙ one_more e (up_to (has_room g.tablets) l) (shut e (inside e (inl refl)) o)
      (ahead_full l (λ z j. inside z (inr j)))
      ∙ ap length (sym (up_to_go (has_room g.tablets) e l o)))
    where
      shut : (e : Entry) → Among e g.relays → has_room g.tablets e ≡ false → full g.tablets e ≡ true
      shut e i o = unfold full has_room in (eq-eqb (load g.tablets e.number) e.beside
          (omega (
            arith,
            ltb-false (load g.tablets e.number) e.beside o,
            right_loads p g r
                e.number,
            among_held g.relays 0 r.relays.up e i,
          )))

      one_more : (e : Entry) (l : List Entry) → full g.tablets e ≡ true → count (full g.tablets) l ≡ length l
          → count (full g.tablets) (e ∷ l) ≡ length (e ∷ l)
      one_more e l f h = unfold count in (rw f (omega arith))

  pub enrol_passed : passed p g (Enrol t) ≡ length (up_to (has_room g.tablets) (order p t.0 g.relays))
  unfolding passed full_ahead
  enrol_passed = ahead_full (order p x g.relays) (λ e i. order_in p x g.relays e i)

-- ---- a withdrawal

module _ (p : Positions) (g : Ring) (r : Right p g) (t : TabletNumber) (there : has g.tablets t.0 ≡ true) where
  abbrev pub hole_moves : List Move
  hole_moves = holes p (beside_of g.tablets t.0) (delete t.0 g.tablets)

  less_one : length (delete t.0 g.tablets) ≤ total g.relays
  less_one =
      omega (
        arith,
        r.enough,
        length_delete t.0 (beside_of g.tablets t.0) g.tablets 0 r.tablets.up
            (has_sits g.tablets 0 t.0 r.tablets.up there),
      )

  pub withdraw_after : (after p g (Withdraw t)).tablets ≡ seated hole_moves (delete t.0 g.tablets)
  unfolding edited
  withdraw_after = after_is p g (Withdraw t) r.relays less_one ∙ sym (holes_placement p g r t.0 there)

  pub withdraw_moves : moves p g (Withdraw t) ≡ hole_moves
  unfolding moves
  withdraw_moves =
      ap (moved g.tablets) withdraw_after ∙ holes_moves p g.tablets r.tablets.up t.0
      (beside_of g.tablets t.0)

-- ---- a find

module _ (p : Positions) (g : Ring) (r : Right p g) (t : TabletNumber) where
  pub find_after : (after p g (Find t)).tablets ≡ g.tablets
  unfolding edited
  find_after = after_is p g (Find t) r.relays r.enough ∙ sym r.ruled

  pub find_moves : moves p g (Find t) ≡ []
  unfolding moves
  find_moves =
      ap (moved g.tablets) find_after ∙ moved_none g.tablets g.tablets
      (λ n v i. sits_beside g.tablets 0 n v r.tablets.up i)
