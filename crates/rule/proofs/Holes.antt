-- One pass over the tablets by rising number fills the holes that a withdrawal leaves (`holes_placement`).
-- The invariant: everybody sits as if the hole were still taken by who left it (`Gap`); of the numbers up to the last one seen nobody had
-- passed the hole, and the tablets still to come sit where they sat.
--   holes_skip     tablets that had not passed the hole change nothing
--   room_passed    nobody had passed a relay that had room
-- Assumes nothing.
use mathlib.Core.Bool.{true, false}
use mathlib.Core.Path.{◌≡◌, refl, sym, ap, ◌∙◌, subst}
use mathlib.Core.List.{List, [], ◌∷◌, ◌++◌}
use mathlib.Core.Logic.{inl, inr, ⊎_elim}
use Prim.Native.Nat.{ℕ, ◌^◌, ◌≤◌, ◌<◌}
use native.Mathlib.Omega.{arith}
use borrow.Author.Tests.{ltb-true, ltb-false, le-ltb}
use lib.Dec.{ltb}
use Rattle.ring.specs.Scheme.{Positions}
use Rattle.ring.specs.Clockwise.{key}
use Rattle.ring.proofs.Tests.{split}
use Rattle.ring.proofs.Order.{sooner_key, key_apart}
use Rattle.rule.specs.declared.Move.{Move}
use Rattle.rule.specs.Entry.{Entry, entry, numbers, has, beside_of, insert, delete, put, load}
use Rattle.rule.specs.Rule.{Ring}
use Rattle.rule.specs.Calls.{move}
use Rattle.rule.specs.Walks.{had_passed}
use Rattle.rule.specs.Sweeps.{seated, holes}
use Rattle.rule.specs.Rooms.{held, fill}
use Rattle.rule.specs.Stability.{Rising, Sits, Fair}
use Rattle.rule.specs.Facts.{Among, Table, Right}
use Rattle.rule.proofs.Counts.{lower_load, sits_above, sits_insert, insert_sits, sits_delete, delete_sits}
use Rattle.rule.proofs.Sets.{sits_in, rising_delete}
use Rattle.rule.proofs.Puts.{insert_delete}
use Rattle.rule.proofs.Chain.{later}
use Rattle.rule.proofs.Withdrawal.{Gap, gap_start, gap_step, gap_end}
use Rattle.rule.proofs.Placements.{among_above}
use Rattle.rule.proofs.Searches.{sits_among, among_sits}
use Rattle.rule.proofs.Right.{right_stable, held_small}
use Rattle.rule.proofs.Demand3.{has_sits}

-- ---- one step

module _ (p : Positions) (r : ℕ) (e : Entry) (es : List Entry) where
  pub holes_take : had_passed p r e ≡ true → holes p r (e ∷ es) ≡ move e.number e.beside r ∷ holes p e.beside es
  unfolding holes
  holes_take h = rw (h, holes)

  pub holes_pass : had_passed p r e ≡ false → holes p r (e ∷ es) ≡ holes p r es
  unfolding holes
  holes_pass h = rw (h, holes)

pub holes_skip : (p : Positions) (r : ℕ) (xs es : List Entry) → ((e : Entry) → Among e xs → had_passed p r e ≡ false)
    → holes p r (xs ++ es) ≡ holes p r es
holes_skip p r [] es f = refl
holes_skip p r (x ∷ xs) es f = holes_pass p r x (xs ++ es) (f x (inl refl)) ∙ holes_skip p r xs es (λ e i. f e (inr i))

pub holes_none : (p : Positions) (r : ℕ) (es : List Entry) → ((e : Entry) → Among e es → had_passed p r e ≡ false)
    → holes p r es ≡ []
unfolding holes
holes_none p r [] f = refl
holes_none p r (x ∷ es) f = holes_pass p r x es (f x (inl refl)) ∙ holes_none p r es (λ e i. f e (inr i))

-- ---- the pass

module _ (p : Positions) (rs : List Entry) (t : Table rs) (ts : List ℕ) where
  record Holing (es : List Entry) (w r low : ℕ) (l : List Entry) : Type 0 where
    pub gap : Gap (key p) rs ts es w r
    pub up : Rising low (numbers l)
    pub still : (e : Entry) → Among e l → Sits es e.number e.beside
    pub to_come : (n v : ℕ) → Sits es n v → low < n → Among (entry n v) l
    pub seen : (n v : ℕ) → Sits es n v → n ≤ low → key p n v ≤ key p n r

  -- to have passed is to have the hole earlier in one's order
  passed_key : (es : List Entry) (w r : ℕ) → Gap (key p) rs ts es w r → (n v : ℕ) → Sits es n v
      → had_passed p r (entry n v) ≡ ltb (key p n r) (key p n v)
  unfolding had_passed
  passed_key es w r g n v j =
      sooner_key p n r v (held_small p rs t r (omega (arith, g.free)))
      (held_small p rs t v (omega (arith, (g.hole n v j).room)))

  -- whoever passed a hole has a greater number than who left it
  not_passed : (es : List Entry) (w r : ℕ) → Gap (key p) rs ts es w r → (n v : ℕ) → Sits es n v → n ≤ w
      → key p n v ≤ key p n r
  not_passed es w r g n v j l =
      split (ltb (key p n r) (key p n v))
      (λ s. absurd (omega (
        arith,
        later (key p) rs es 0 g.up w r n v g.hole g.free j
            (ltb-true (key p n r) (key p n v) s),
      )))
      (λ s. ltb-false (key p n r) (key p n v) s)

  module _ (es : List Entry) (w r low : ℕ) (e : Entry) (l : List Entry) (i : Holing es w r low (e ∷ l)) where
    e_sits : Sits es e.number e.beside
    e_sits = i.still e (inl refl)

    -- of those still to come the first is the lowest
    first_lowest : (n v : ℕ) → Sits es n v → low < n → e.number ≤ n
    unfolding numbers
    first_lowest n v j h =
        ⊎_elim (λ u. omega (arith, ap (λ (z : Entry). z.number) u))
        (λ k. omega (arith, among_above l e.number i.up.1 (entry n v) k)) (i.to_come n v j h)

    behind : (n v : ℕ) → Sits es n v → e.number < n → Among (entry n v) l
    unfolding numbers
    behind n v j h =
        ⊎_elim (λ u. absurd (omega (arith, ap (λ (z : Entry). z.number) u))) (λ k. k)
        (i.to_come n v j (omega (arith, i.up.0)))

    skipped : had_passed p r e ≡ false → Holing es w r e.number l
    unfolding numbers
    skipped h =
        record {
          gap = i.gap;
          up = i.up.1;
          still = λ x k. i.still x (inr k);
          to_come = behind;
          seen = λ n v j k.
              split (ltb low n)
              (λ s. ⊎_elim
              (λ u. own n v u)
              (λ m. absurd (omega (arith, among_above l e.number i.up.1 (entry n v) m)))
              (i.to_come n v j (ltb-true low n s)))
              (λ s. i.seen n v j (ltb-false low n s));
        }
      where
        own : (n v : ℕ) → entry n v ≡ e → key p n v ≤ key p n r
        own n v u =
            subst (λ (z : Entry). key p z.number z.beside ≤ key p z.number r) (sym u)
            (ltb-false (key p e.number r) (key p e.number e.beside)
            (sym (passed_key es w r i.gap e.number e.beside e_sits) ∙ h))

    took : had_passed p r e ≡ true → Holing (put e.number r es) e.number e.beside e.number l
    unfolding numbers
    took h =
        let better : key p e.number r < key p e.number e.beside =
        ltb-true (key p e.number r) (key p e.number e.beside)
        (sym (passed_key es w r i.gap e.number e.beside e_sits) ∙ h) in
        let same : insert e.number r (delete e.number es) ≡ put e.number r es = insert_delete
        e.number r es 0 i.gap.up (sits_in es e.number e.beside e_sits) in
        let g : Gap (key p) rs ts (insert e.number r (delete e.number es)) e.number e.beside =
        gap_step (key p) rs ts es w r i.gap e.number e.beside e_sits better (λ n v j k. lowest n v j k) in
        rw (← same)
        (record {
          gap = g;
          up = i.up.1;
          still = λ x k. insert_sits e.number r (delete e.number es) x.number x.beside
              (inr (delete_sits e.number es x.number x.beside (i.still x (inr k))
              (λ u. omega (arith, among_above l e.number i.up.1 x k))));
          to_come = λ n v j k. behind n v (old n v j k) k;
          seen = λ n v j k. not_passed (insert e.number r (delete e.number es)) e.number e.beside g n v j k;
        })
      where
        lowest : (n v : ℕ) → Sits es n v → key p n r < key p n v → e.number ≤ n
        lowest n v j k =
            split (ltb low n)
            (λ s. first_lowest n v j (ltb-true low n s))
            (λ s. absurd (omega (arith, i.seen n v j (ltb-false low n s))))

        old : (n v : ℕ) → Sits (insert e.number r (delete e.number es)) n v → e.number < n → Sits es n v
        old n v j k =
            ⊎_elim (λ u. absurd (omega (arith, u.0))) (λ m. sits_delete e.number es n v m)
            (sits_insert e.number r (delete e.number es) n v j)

  holes_end : (l : List Entry) (es : List Entry) (w r low : ℕ) → Holing es w r low l → seated (holes p r l) es
      ≡ fill (key p) rs ts
  unfolding seated
  holes_end [] es w r low i =
      ap (λ (k : List Move). seated k es) (holes_none p r [] (λ e j. absurd j))
      ∙ gap_end (key p) rs (λ q. q < 2 ^ 32) (λ n q s. key_apart p n q s) (held_small p rs t) ts es w r i.gap
      (λ n v j. split (ltb low n) (λ s. absurd (i.to_come n v j (ltb-true low n s)))
      (λ s. i.seen n v j (ltb-false low n s)))
  holes_end (e ∷ l) es w r low i =
      split (had_passed p r e)
      (λ h. ap (λ (k : List Move). seated k es) (holes_take p r e l h) ∙ holes_end l (put e.number r es) e.number
      e.beside e.number (took es w r low e l i h))
      (λ h. ap (λ (k : List Move). seated k es) (holes_pass p r e l h)
      ∙ holes_end l es w r e.number (skipped es w r low e l i h))

-- ---- a withdrawal

module _ (p : Positions) (g : Ring) (r : Right p g) where
  -- nobody had passed a relay that has room
  pub room_passed : (q : ℕ) → load g.tablets q < held g.relays q → (e : Entry) → Among e g.tablets
      → had_passed p q e ≡ false
  unfolding had_passed
  room_passed q h e i =
      let f : Fair (key p) g.relays g.tablets e.number e.beside = right_stable p g r e.number e.beside
      (among_sits g.tablets e i) in
      sooner_key p e.number q e.beside (held_small p g.relays r.relays q (omega arith))
      (held_small p g.relays r.relays e.beside (omega (arith, f.room)))
      ∙ le-ltb (key p e.number q) (key p e.number e.beside)
      (f.least q (omega (arith, lower_load g.tablets q e.number)))

  module _ (x : ℕ) (there : has g.tablets x ≡ true) where
    x_sits : Sits g.tablets x (beside_of g.tablets x)
    x_sits = has_sits g.tablets 0 x r.tablets.up there

    gap : Gap (key p) g.relays (numbers (delete x g.tablets)) (delete x g.tablets) x (beside_of g.tablets x)
    gap =
        gap_start (key p) g.relays g.tablets (right_stable p g r) r.tablets.up x
        (beside_of g.tablets x) x_sits

    -- nobody of a lower number had passed the hole
    pub lower_passed : (e : Entry) → Among e (delete x g.tablets) → e.number ≤ x
        → had_passed p (beside_of g.tablets x) e ≡ false
    lower_passed e i h =
        passed_key p g.relays r.relays (numbers (delete x g.tablets)) (delete x g.tablets) x
        (beside_of g.tablets x) gap e.number e.beside (among_sits (delete x g.tablets) e i)
        ∙ le-ltb (key p e.number (beside_of g.tablets x)) (key p e.number e.beside)
        (not_passed p g.relays r.relays (numbers (delete x g.tablets)) (delete x g.tablets) x
        (beside_of g.tablets x) gap e.number e.beside (among_sits (delete x g.tablets) e i) h)

    pub holes_placement : seated (holes p (beside_of g.tablets x) (delete x g.tablets)) (delete x g.tablets)
        ≡ fill (key p) g.relays (numbers (delete x g.tablets))
    holes_placement =
        holes_end p g.relays r.relays (numbers (delete x g.tablets)) (delete x g.tablets)
        (delete x g.tablets) x (beside_of g.tablets x) 0
        (record {
          gap = gap;
          up = rising_delete x g.tablets 0 r.tablets.up;
          still = λ e i. among_sits (delete x g.tablets) e i;
          to_come = λ n v j h. sits_among (delete x g.tablets) n v j;
          seen = λ n v j h. absurd (omega (
            arith,
            sits_above (delete x g.tablets) 0 n v
                (rising_delete x g.tablets 0 r.tablets.up) j,
          ));
        })
