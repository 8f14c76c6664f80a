-- The hole-filling of document 01 ends in the rule's placement of the smaller set, and the numbers of its chain rise.
-- The invariant (`Gap`): everybody sits as if the hole were still taken by who left it. Whoever takes it has a greater number, so that fewer
-- and fewer numbers are left above.
--   withdrawn_placement    it ends in the rule's placement
--   withdrawn_rising       the numbers of its chain rise
-- Assumes nothing.
use mathlib.Core.Bool.{true, false}
use mathlib.Core.Path.{◌≡◌, refl, sym, ap, ◌∙◌}
use mathlib.Core.List.{List, [], ◌∷◌}
use mathlib.Core.Logic.{⊎_elim}
use mathlib.Core.Option.{Option, none, some}
use Prim.Native.Nat.{ℕ, zero, suc, ◌^◌, ◌≤◌, ◌<◌}
use native.Mathlib.Omega.{arith}
use borrow.Author.Tests.{ltb-true, ltb-false, lt-ltb, le-ltb}
use lib.Dec.{ltb}
use lib.ListN.{length}
use Rattle.ring.specs.Scheme.{Positions}
use Rattle.ring.specs.Clockwise.{key}
use Rattle.ring.proofs.Tests.{split}
use Rattle.ring.proofs.Order.{sooner_key, key_apart}
use Rattle.rule.specs.Entry.{Entry, entry, numbers, has, beside_of, insert, delete, count}
use Rattle.rule.specs.Rule.{Ring, placement}
use Rattle.rule.specs.Walks.{sat_down, had_passed, lowest, fill_hole, withdrawn}
use Rattle.rule.specs.Rooms.{fill}
use Rattle.rule.specs.Stability.{Rising, Sits}
use Rattle.rule.specs.Facts.{Table, Right}
use Rattle.rule.proofs.Counts.{above, above_fewer, count_length, length_delete}
use Rattle.rule.proofs.Chain.{later}
use Rattle.rule.proofs.Withdrawal.{Gap, gap_start, gap_step, gap_end}
use Rattle.rule.proofs.Placements.{placement_fill}
use Rattle.rule.proofs.Searches.{sits_among, among_sits, lowest_some, lowest_none, lowest_least}
use Rattle.rule.proofs.Right.{right_stable, held_small, length_numbers}
use Rattle.rule.proofs.Demand3.{has_sits}

-- nobody above n, so nobody who sits is
above_none : (es : List Entry) (n m v : ℕ) → above es n ≤ 0 → Sits es m v → m ≤ n
unfolding above count
above_none [] n m v h i = absurd i
above_none (e ∷ es) n m v h i =
    split (ltb n e.number)
    (λ s. absurd (omega (arith, rw s at h)))
    (λ s. ⊎_elim (λ u. omega (arith, u.0, ltb-false n e.number s))
    (λ j. above_none es n m v (omega (arith, rw s at h)) j) i)

module _ (p : Positions) (rs : List Entry) (t : Table rs) (ts : List ℕ) where
  -- the hole at r, and how many may still take one
  record Filling (steps : ℕ) (es : List Entry) (w r : ℕ) : Type 0 where
    pub gap : Gap (key p) rs ts es w r
    pub bound : above es w ≤ steps

  module _ (es : List Entry) (w r steps : ℕ) (i : Filling steps es w r) where
    r_small : r < 2 ^ 32
    r_small = held_small p rs t r (omega (arith, i.gap.free))

    seat_small : (n v : ℕ) → Sits es n v → v < 2 ^ 32
    seat_small n v j = held_small p rs t v (omega (arith, (i.gap.hole n v j).room))

    -- to have passed is to have the hole earlier in one's order
    passed_key : (n v : ℕ) → Sits es n v → had_passed p r (entry n v) ≡ ltb (key p n r) (key p n v)
    unfolding had_passed
    passed_key n v j = sooner_key p n r v r_small (seat_small n v j)

    nobody : ((n v : ℕ) → Sits es n v → had_passed p r (entry n v) ≡ false) → es ≡ fill (key p) rs ts
    nobody f =
        gap_end (key p) rs (λ q. q < 2 ^ 32) (λ n q s. key_apart p n q s) (held_small p rs t) ts es w r i.gap
        (λ n v j. ltb-false (key p n r) (key p n v) (sym (passed_key n v j) ∙ f n v j))

    module _ (e : Entry) (h : lowest (had_passed p r) es ≡ some e) where
      e_sits : Sits es e.number e.beside
      e_sits = among_sits es e (lowest_some (had_passed p r) es e h).0

      e_passed : key p e.number r < key p e.number e.beside
      e_passed =
          ltb-true (key p e.number r) (key p e.number e.beside)
          (sym (passed_key e.number e.beside e_sits) ∙ (lowest_some (had_passed p r) es e h).1)

      e_later : w < e.number
      e_later =
          later (key p) rs es 0 i.gap.up w r e.number e.beside i.gap.hole i.gap.free e_sits e_passed

      -- the lowest who had passed takes the hole, and leaves one
      taken : (k : ℕ) → steps ≡ suc k → Filling k (insert e.number r (delete e.number es)) e.number e.beside
      taken k s =
          record {
            gap = gap_step (key p) rs ts es w r i.gap e.number e.beside e_sits e_passed
                (λ n v j l. lowest_least (had_passed p r) es e h (entry n v) (sits_among es n v j)
                (passed_key n v j ∙ lt-ltb (key p n r) (key p n v) l));
            bound = omega (
              arith,
              i.bound,
              above_fewer e.number e.beside es 0 i.gap.up e_sits w
                  e.number r e_later (omega arith),
            );
          }

  fill_ends : (steps : ℕ) (es : List Entry) (w r : ℕ) → Filling steps es w r
      → ((fill_hole steps p es r).tablets ≡ fill (key p) rs ts) × Rising w (numbers (fill_hole steps p es r).chain)
  unfolding fill_hole sat_down numbers
  fill_ends zero es w r i = (
    nobody es w r 0 i
        (λ n v j. passed_key es w r 0 i n v j ∙ le-ltb (key p n r) (key p n v)
        (split (ltb (key p n r) (key p n v))
        (λ s. absurd (omega (
          arith,
          above_none es w n v i.bound j,
          later (key p) rs es 0 i.gap.up w r n v
              i.gap.hole i.gap.free j (ltb-true (key p n r) (key p n v) s),
        )))
        (λ s. ltb-false (key p n r) (key p n v) s))),
    tt,
  )
  fill_ends (suc k) es w r i =
      go (lowest (had_passed p r) es) refl (λ e d. fill_ends k (insert e.number r (delete e.number es)) e.number
      e.beside d)
    where
      go : (o : Option Entry) → lowest (had_passed p r) es ≡ o
          → ((e : Entry) → Filling k (insert e.number r (delete e.number es)) e.number e.beside
          → ((fill_hole k p (insert e.number r (delete e.number es)) e.beside).tablets ≡ fill (key p) rs ts)
          × Rising e.number (numbers (fill_hole k p (insert e.number r (delete e.number es))
          e.beside).chain))
          → ((fill_hole (suc k) p es r).tablets ≡ fill (key p) rs ts)
          × Rising w (numbers (fill_hole (suc k) p es r).chain)
      go none h ih =
          rw (h, fill_hole) (
            nobody es w r (suc k) i
                (λ n v j. lowest_none (had_passed p r) es h (entry n v) (sits_among es n v j)),
            tt,
          )
      go (some e) h ih =
          let d : ((fill_hole k p (insert e.number r (delete e.number es)) e.beside).tablets
          ≡ fill (key p) rs ts)
          × Rising e.number (numbers (fill_hole k p (insert e.number r (delete e.number es))
          e.beside).chain) =
          ih e (taken es w r (suc k) i e h k refl) in
          rw (h, fill_hole) (d.0, (e_later es w r (suc k) i e h, d.1))

-- ---- a withdrawal

module _ (p : Positions) (g : Ring) (r : Right p g) (x : ℕ) (there : has g.tablets x ≡ true) where
  x_sits : Sits g.tablets x (beside_of g.tablets x)
  x_sits = has_sits g.tablets 0 x r.tablets.up there

  start : Filling p g.relays r.relays (numbers (delete x g.tablets)) (length g.tablets)
      (delete x g.tablets) x (beside_of g.tablets x)
  unfolding above
  start =
      record {
        gap = gap_start (key p) g.relays g.tablets (right_stable p g r) r.tablets.up x
            (beside_of g.tablets x) x_sits;
        bound = omega (
          arith,
          count_length (λ e. ltb x e.number) (delete x g.tablets),
          length_delete x
              (beside_of g.tablets x) g.tablets 0 r.tablets.up x_sits,
        );
      }

  pub withdrawn_placement : placement p g.relays (numbers (delete x g.tablets))
      ≡ some (withdrawn p g.tablets x).tablets
  unfolding withdrawn
  withdrawn_placement =
      placement_fill p g.relays 0 r.relays.up r.relays.small (numbers (delete x g.tablets))
      (omega (
        arith,
        r.enough,
        length_numbers (delete x g.tablets),
        length_delete x (beside_of g.tablets x)
            g.tablets 0 r.tablets.up x_sits,
      ))
      ∙ ap (λ (l : List Entry). some l)
      (sym (fill_ends p g.relays r.relays (numbers (delete x g.tablets)) (length g.tablets)
      (delete x g.tablets) x (beside_of g.tablets x) start).0)

  -- every number of the chain is above the one that left
  pub withdrawn_rising : Rising x (numbers (withdrawn p g.tablets x).chain)
  unfolding withdrawn
  withdrawn_rising =
      (fill_ends p g.relays r.relays (numbers (delete x g.tablets)) (length g.tablets)
      (delete x g.tablets) x (beside_of g.tablets x) start).1
