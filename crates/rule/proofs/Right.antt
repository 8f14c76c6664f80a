-- What right tables are, as facts.
--   right_is, right_from          the test and the facts say the same
--   right_stable, stable_right    right tables are those in which no tablet could sit earlier
--   right_loads                   no relay holds more than its limit
-- Assumes nothing.
use mathlib.Core.Bool.{Bool, true, ◌&&◌}
use mathlib.Core.Path.{◌≡◌, refl, sym, ap, ◌∙◌}
use mathlib.Core.List.{List, [], ◌∷◌}
use mathlib.Core.Logic.{inl, inr, ⊎_elim}
use mathlib.Core.Option.{Option, none, some}
use Prim.Native.Nat.{ℕ, suc, ◌^◌, ◌≤◌, ◌<◌}
use native.Mathlib.Omega.{arith}
use borrow.Author.Tests.{ltb-true, ltb-false, leb-true, eqb-true, eq-eqb, lt-ltb, le-leb}
use lib.Dec.{eqb, ltb, leb}
use lib.ListN.{length}
use Rattle.ring.specs.Scheme.{Positions}
use Rattle.ring.specs.Clockwise.{key}
use Rattle.ring.proofs.Tests.{split, and_left, and_right, true_false}
use Rattle.ring.proofs.Order.{key_apart}
use Rattle.rule.specs.Entry.{Entry, numbers, total, load}
use Rattle.rule.specs.Rule.{Ring, placement, rising, limits_fit, same, is_just, right}
use Rattle.rule.specs.Rooms.{held, less, fill}
use Rattle.rule.specs.Stability.{Rising, Stable}
use Rattle.rule.specs.Facts.{Among, Small, Table, Right}
use Rattle.rule.proofs.Rooms.{Best, total_less}
use Rattle.rule.proofs.Stable.{stable_fill, fill_stable, head_fair, tail_fair}
use Rattle.rule.proofs.Counts.{sits_above}
use Rattle.rule.proofs.Orders.{option_some, option_apart}
use Rattle.rule.proofs.Placements.{held_among, placement_fill, placement_none}
use Rattle.rule.proofs.Withdrawal.{load_held}

-- ---- tests and facts

rising_up : (low : ℕ) (es : List Entry) → rising low es ≡ true → Rising low (numbers es)
unfolding rising numbers
rising_up low [] t = tt
rising_up low (e ∷ es) t =
    let a : Bool = ltb low e.number in
    let b : Bool = leb e.number 4294967295 in
    let c : Bool = rising e.number es in (
      ltb-true low e.number (and_left a (b && c) t),
      rising_up e.number es
          (and_right b c (and_right a (b && c) t)),
    )

rising_small : (low : ℕ) (es : List Entry) → rising low es ≡ true → Small es
unfolding rising
rising_small low [] t x i = absurd i
rising_small low (e ∷ es) t x i =
    let a : Bool = ltb low e.number in
    let b : Bool = leb e.number 4294967295 in
    let c : Bool = rising e.number es in
    ⊎_elim
    (λ u. omega (
      arith,
      leb-true e.number 4294967295 (and_left b c (and_right a (b && c) t)),
      ap
          (λ (z : Entry). z.number) u,
    ))
    (λ j. rising_small e.number es (and_right b c (and_right a (b && c) t)) x j)
    i

rising_from : (low : ℕ) (es : List Entry) → Rising low (numbers es) → Small es → rising low es ≡ true
unfolding rising numbers
rising_from low [] up small = refl
rising_from low (e ∷ es) up small =
    rw (lt-ltb low e.number up.0, le-leb e.number 4294967295 (omega (arith, small e (inl refl))))
    (rising_from e.number es up.1 (λ x i. small x (inr i)))

pub table_is : (es : List Entry) → rising 0 es ≡ true → Table es
table_is es t = record { up = rising_up 0 es t; small = rising_small 0 es t }

pub table_from : (es : List Entry) → Table es → rising 0 es ≡ true
table_from es t = rising_from 0 es t.up t.small

same_is : (xs ys : List Entry) → same xs ys ≡ true → xs ≡ ys
unfolding same
same_is [] [] t = refl
same_is [] (y ∷ ys) t = absurd (true_false (sym t))
same_is (x ∷ xs) [] t = absurd (true_false (sym t))
same_is (x ∷ xs) (y ∷ ys) t =
    let u : Bool = eqb x.number y.number in
    let v : Bool = eqb x.beside y.beside in
    let w : Bool = same xs ys in
    let a : x.number ≡ y.number = eqb-true x.number y.number (and_left u (v && w) t) in
    let b : x.beside ≡ y.beside = eqb-true x.beside y.beside (and_left v w (and_right u (v && w) t)) in
    let c : xs ≡ ys = same_is xs ys (and_right v w (and_right u (v && w) t)) in
    λ i. record { number = a i; beside = b i } ∷ c i

same_from : (xs : List Entry) → same xs xs ≡ true
unfolding same
same_from [] = refl
same_from (x ∷ xs) = rw (eq-eqb x.number x.number refl, eq-eqb x.beside x.beside refl) (same_from xs)

-- ---- right tables

pub length_numbers : (es : List Entry) → length (numbers es) ≡ length es
unfolding numbers
length_numbers [] = refl
length_numbers (e ∷ es) = ap suc (length_numbers es)

-- a placement that is there is the filling, and the limits suffice
pub placed_is : (p : Positions) (rs : List Entry) → Table rs → (ts : List ℕ) (placed : List Entry) → placement p rs ts
    ≡ some placed
    → (length ts ≤ total rs) × (placed ≡ fill (key p) rs ts)
placed_is p rs t ts placed e =
    split (ltb (total rs) (length ts))
    (λ s. absurd (option_apart placed (sym (placement_none p rs 0 t.up t.small ts
    (ltb-true (total rs) (length ts) s)) ∙ e)))
    (λ s. let h : length ts ≤ total rs = ltb-false (total rs) (length ts) s in
    (h, option_some placed (fill (key p) rs ts) (sym e ∙ placement_fill p rs 0 t.up t.small ts h)))

just_is : (o : Option (List Entry)) (ts : List Entry) → is_just o ts ≡ true → o ≡ some ts
unfolding is_just
just_is none ts t = absurd (true_false (sym t))
just_is (some xs) ts t = ap (λ (l : List Entry). some l) (same_is xs ts t)

pub right_is : (p : Positions) (g : Ring) → right p g ≡ true → Right p g
unfolding right
right_is p g t =
    let k₁ : Bool = rising 0 g.relays in
    let k₂ : Bool = limits_fit g.relays in
    let k₃ : Bool = rising 0 g.tablets in
    let k₄ : Bool = is_just (placement p g.relays (numbers g.tablets)) g.tablets in
    let t₁ : (k₂ && (k₃ && k₄)) ≡ true = and_right k₁ (k₂ && (k₃ && k₄)) t in
    let t₂ : (k₃ && k₄) ≡ true = and_right k₂ (k₃ && k₄) t₁ in
    let rs : Table g.relays = table_is g.relays (and_left k₁ (k₂ && (k₃ && k₄)) t) in
    let e : placement p g.relays (numbers g.tablets) ≡ some g.tablets =
    just_is (placement p g.relays (numbers g.tablets)) g.tablets (and_right k₃ k₄ t₂) in
    let d : (length (numbers g.tablets) ≤ total g.relays)
    × (g.tablets ≡ fill (key p) g.relays (numbers g.tablets)) =
    placed_is p g.relays rs (numbers g.tablets) g.tablets e in
    record {
      relays = rs;
      limits = and_left k₂ (k₃ && k₄) t₁;
      tablets = table_is g.tablets (and_left k₃ k₄ t₂);
      enough = omega (arith, d.0, length_numbers g.tablets);
      ruled = d.1;
    }

pub right_from : (p : Positions) (g : Ring) → Right p g → right p g ≡ true
unfolding right is_just
right_from p g r =
    rw (
      table_from g.relays r.relays,
      r.limits,
      table_from g.tablets r.tablets,
      placement_fill p g.relays 0 r.relays.up r.relays.small (numbers g.tablets)
          (omega (arith, r.enough, length_numbers g.tablets)),
    )
    (ap (λ (l : List Entry). same l g.tablets) (sym r.ruled) ∙ same_from g.tablets)

-- ---- stability, both ways

module _ (p : Positions) (rs : List Entry) (t : Table rs) where
  pub held_small : (r : ℕ) → 0 < held rs r → r < 2 ^ 32
  held_small r h =
      let x : (e : Entry) × Among e rs × (e.number ≡ r) = held_among rs r h in omega
      (arith, t.small x.0 x.1, x.2)

pub right_stable : (p : Positions) (g : Ring) → Right p g → Stable (key p) g.relays g.tablets
right_stable p g r =
    rw (← r.ruled) at
    (stable_fill (key p) (numbers g.tablets) 0 g.relays r.tablets.up
    (omega (arith, r.enough, length_numbers g.tablets)))

pub right_loads : (p : Positions) (g : Ring) → Right p g → (q : ℕ) → load g.tablets q ≤ held g.relays q
right_loads p g r q = load_held (key p) g.tablets 0 g.relays r.tablets.up (right_stable p g r) q

-- a stable placement has no more tablets than the limits allow
stable_enough : (k : ℕ → ℕ → ℕ) (ts : List Entry) (low : ℕ) (rs : List Entry) → Rising low (numbers ts) → Stable k rs ts
    → length ts ≤ total rs
unfolding numbers
stable_enough k [] low rs up st = omega arith
stable_enough k (e ∷ ts) low rs up st =
    let b : Best (k e.number) rs e.beside = head_fair k rs e ts up.1
    (st e.number e.beside (inl (refl, refl))) in
    let ih : length ts ≤ total (less e.beside rs) =
    stable_enough k ts e.number (less e.beside rs) up.1
    (λ n v i. tail_fair k rs e ts n v (sits_above ts e.number n v up.1 i) (st n v (inr i))) in
    omega (arith, total_less e.beside rs b.room)

pub stable_right : (p : Positions) (g : Ring) → Table g.relays → limits_fit g.relays ≡ true → Table g.tablets
    → Stable (key p) g.relays g.tablets → Right p g
stable_right p g rs l ts st =
    record {
      relays = rs;
      limits = l;
      tablets = ts;
      enough = stable_enough (key p) g.tablets 0 g.relays ts.up st;
      ruled = fill_stable (key p) (λ r. r < 2 ^ 32) (λ t r q. key_apart p t r q) g.tablets 0 g.relays ts.up
          (held_small p g.relays rs) st;
    }
