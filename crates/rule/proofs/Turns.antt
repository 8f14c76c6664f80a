-- One turn over the full relays ahead of the first with room, in the newcomer's own order, ends in the rule's placement (`turn_placement`).
-- The invariant: all but the walker sit as the rule places them; the relays still ahead hold whom they held; every relay open to the walker
-- is still ahead, and of two such relays the newcomer and the walker meet the same one first.
-- Assumes nothing.
use mathlib.Core.Bool.{Bool, true, false}
use mathlib.Core.Path.{◌≡◌, refl, sym, ap, ◌∙◌, subst}
use mathlib.Core.List.{List, [], ◌∷◌, ◌++◌}
use mathlib.Core.Logic.{inl, inr, ⊎_elim}
use mathlib.Core.Option.{some}
use Prim.Native.Nat.{ℕ, ◌^◌, ◌≤◌, ◌<◌}
use native.Mathlib.Omega.{arith}
use borrow.Author.Tests.{ltb-true, ltb-false, eqb-true, eqb-false}
use lib.Dec.{eqb, ltb}
use Rattle.ring.specs.Scheme.{Positions}
use Rattle.ring.specs.Clockwise.{sooner, key}
use Rattle.ring.proofs.Tests.{split}
use Rattle.ring.proofs.Order.{key_apart, rotation}
use Rattle.rule.specs.declared.Move.{Move}
use Rattle.rule.specs.Entry.{Entry, numbers, insert, delete, put, load, first, up_to}
use Rattle.rule.specs.Order.{queued, order}
use Rattle.rule.specs.Rule.{Ring, has_room}
use Rattle.rule.specs.Calls.{move}
use Rattle.rule.specs.Walks.{greatest}
use Rattle.rule.specs.Sweeps.{seated, seats, Turn, turn_at, turn, newcomer}
use Rattle.rule.specs.Rooms.{held, fill}
use Rattle.rule.specs.Stability.{Rising, In, Sits, lower, Fair}
use Rattle.rule.specs.Facts.{Among, Sorted, Small, Distinct, Table, Right}
use Rattle.rule.proofs.Counts.{lower_load, lower_load_one, load_insert, load_delete, above_sits, sits_above}
use Rattle.rule.proofs.Counts.{sits_insert, insert_sits, sits_delete, delete_sits}
use Rattle.rule.proofs.Sets.{sits_in, insert_in, in_delete, rising_insert}
use Rattle.rule.proofs.Puts.{delete_inserted, insert_delete, delete_insert, in_put, rising_put}
use Rattle.rule.proofs.Enrolment.{Walk, walk_start, walk_evict, walk_settle, evict_open}
use Rattle.rule.proofs.Orders.{in_queued, order_in, in_order, order_sorted, option_some, option_apart}
use Rattle.rule.proofs.Placements.{among_above, among_held, held_among}
use Rattle.rule.proofs.Searches.{greatest_sits, greatest_top}
use Rattle.rule.proofs.Right.{right_stable, right_loads, held_small}

-- ---- seats one after the other

pub seated_append : (cs bs : List Move) (ts : List Entry) → seated (cs ++ bs) ts ≡ seated bs (seated cs ts)
unfolding seated
seated_append [] bs ts = refl
seated_append (a ∷ cs) bs ts = seated_append cs bs (put a.tablet.0 a.new.0 ts)

pub seated_seats : (s : Turn) (r : ℕ) (ts : List Entry) → seated (seats s r) ts
    ≡ put s.walker r (seated s.chain ts)
unfolding seated seats
seated_seats s r ts = seated_append s.chain (move s.walker s.from r ∷ []) ts

-- one number has one seat
sits_one : (es : List Entry) (low n v u : ℕ) → Rising low (numbers es) → Sits es n v → Sits es n u → v ≡ u
unfolding numbers
sits_one [] low n v u up i j = absurd i
sits_one (e ∷ es) low n v u up i j =
    ⊎_elim
    (λ a. ⊎_elim (λ b. sym a.1 ∙ b.1) (λ b. absurd (omega (arith, a.0, sits_above es e.number n u up.1 b)))
    j)
    (λ a. ⊎_elim (λ b. absurd (omega (arith, b.0, sits_above es e.number n v up.1 a)))
    (λ b. sits_one es e.number n v u up.1 a b) j)
    i

-- strictly sorted: equal keys are equal relays
head_less : (p : Positions) (x : ℕ) (c : Entry) (cs : List Entry) → Small (c ∷ cs) → Sorted (key p x) (c ∷ cs)
    → (q : Entry) → Among q cs → (c.number ≡ q.number → ⊥) → key p x c.number < key p x q.number
head_less p x c cs small up q i ne =
    split (ltb (key p x c.number) (key p x q.number))
    (λ s. ltb-true (key p x c.number) (key p x q.number) s)
    (λ s. absurd (ne (key_apart p x c.number q.number (small c (inl refl)) (small q (inr i))
    (omega (arith, up.0 q i, ltb-false (key p x c.number) (key p x q.number) s)))))

-- ---- one step of the turn

pub up_to_stop : (f : Entry → Bool) (c : Entry) (cs : List Entry) → f c ≡ true → up_to f (c ∷ cs) ≡ []
unfolding up_to
up_to_stop f c cs o = rw (o, up_to)

pub up_to_go : (f : Entry → Bool) (c : Entry) (cs : List Entry) → f c ≡ false → up_to f (c ∷ cs) ≡ c ∷ up_to f cs
unfolding up_to
up_to_go f c cs o = rw (o, up_to)

abbrev pub displaced_by : List Entry → Turn → Entry → Turn
displaced_by ts s c = record { walker = greatest ts c.number; from = c.number; chain = seats s c.number }

pub turn_at_yes : (ts : List Entry) (s : Turn) (c : Entry) → ltb s.walker (greatest ts c.number) ≡ true
    → turn_at ts s c ≡ displaced_by ts s c
unfolding turn_at
turn_at_yes ts s c b = rw (b, turn_at)

pub turn_at_no : (ts : List Entry) (s : Turn) (c : Entry) → ltb s.walker (greatest ts c.number) ≡ false
    → turn_at ts s c ≡ s
unfolding turn_at
turn_at_no ts s c b = rw (b, turn_at)

pub turn_none : (ts : List Entry) (s : Turn) → turn ts s [] ≡ s
unfolding turn
turn_none ts s = refl

pub turn_more : (ts : List Entry) (s : Turn) (c : Entry) (cs : List Entry) → turn ts s (c ∷ cs)
    ≡ turn ts (turn_at ts s c) cs
unfolding turn
turn_more ts s c cs = refl

-- one relay more at the end
pub turn_last : (ts : List Entry) (s : Turn) (cs : List Entry) (c : Entry) → turn ts s (cs ++ (c ∷ []))
    ≡ turn_at ts (turn ts s cs) c
unfolding turn
turn_last ts s [] c = refl
turn_last ts s (e ∷ cs) c = turn_last ts (turn_at ts s e) cs c

module _ (p : Positions) (rs : List Entry) (t : Table rs) (ts : List Entry) (up_ts : Rising 0 (numbers ts))
    (loads_ts : (q : ℕ) → load ts q ≤ held rs q) (x : ℕ) where
  -- q is the larger table with everybody who sat down, es the same without w, who walks; the relays ahead are still to come
  record Turning (q es : List Entry) (w : ℕ) (ahead : List Entry) : Type 0 where
    pub without : delete w q ≡ es
    pub walking : Walk (key p) rs ts x es w
    pub up : Rising 0 (numbers q)
    pub there : In w (numbers q)
    pub inside : (e : Entry) → Among e ahead → Among e rs
    pub sorted : Sorted (key p x) ahead
    pub held_still : (e : Entry) → Among e ahead → (n : ℕ) → Sits es n e.number → Sits ts n e.number
    pub holds_still : (e : Entry) → Among e ahead → (n : ℕ) → Sits ts n e.number → Sits es n e.number
    pub loads : (r : ℕ) → load es r ≡ load ts r
    pub open_ahead : (e : Entry) → Among e rs → lower es e.number w < held rs e.number → Among e ahead
    pub agree : (a b : Entry) → Among a ahead → Among b ahead → lower es a.number w < held rs a.number
        → lower es b.number w < held rs b.number
        → key p x a.number < key p x b.number → key p w a.number < key p w b.number

  module _ (q es : List Entry) (w : ℕ) (c : Entry) (cs : List Entry) (i : Turning q es w (c ∷ cs)) where
    small_ahead : Small (c ∷ cs)
    small_ahead e j = t.small e (i.inside e j)

    -- the next relay is the walker's, if it is open to it
    next_fair : lower es c.number w < held rs c.number → Fair (key p) rs es w c.number
    next_fair o =
        record {
          room = o;
          least = λ r k.
              let v : (e : Entry) × Among e rs × (e.number ≡ r) = held_among rs r (omega arith) in
              let o' : lower es v.0.number w < held rs v.0.number = omega
              (arith, ap (λ (n : ℕ). lower es n w) v.2, ap (held rs) v.2) in
              let l : key p w c.number ≤ key p w v.0.number = nearest v.0
              (i.open_ahead v.0 v.1 o') o' in
              rw v.2 at l;
        }
      where
        nearest : (e : Entry) → Among e (c ∷ cs) → lower es e.number w < held rs e.number
            → key p w c.number ≤ key p w e.number
        nearest e j o' =
            split (eqb c.number e.number)
            (λ s. omega (arith, ap (key p w) (eqb-true c.number e.number s)))
            (λ s.
            let ne : c.number ≡ e.number → ⊥ = eqb-false c.number e.number s in
            let j' : Among e cs = ⊎_elim (λ u. absurd (ne (ap (λ (z : Entry). z.number) (sym u)))) (λ j. j) j in
            omega (arith, i.agree c e (inl refl) j o o' (head_less p x c cs small_ahead i.sorted e j' ne)))

    -- nobody at the next relay is greater, and it is full: it is not open, and is passed
    passed : load ts c.number ≡ held rs c.number → greatest ts c.number ≤ w → Turning q es w cs
    passed full low_there =
        record {
          without = i.without;
          walking = i.walking;
          up = i.up;
          there = i.there;
          inside = λ e j. i.inside e (inr j);
          sorted = i.sorted.1;
          held_still = λ e j. i.held_still e (inr j);
          holds_still = λ e j. i.holds_still e (inr j);
          loads = i.loads;
          open_ahead = λ e j o. ⊎_elim (λ u. absurd
              (shut (subst (λ (z : Entry). lower es z.number w < held rs z.number) u o))) (λ v. v)
              (i.open_ahead e j o);
          agree = λ a b ja jb. i.agree a b (inr ja) (inr jb);
        }
      where
        shut : lower es c.number w < held rs c.number → ⊥
        shut o =
            let v : (m : ℕ) × Sits es m c.number × (w ≤ m) = above_sits es c.number w
            (omega (arith, i.loads c.number)) in
            let ne : v.0 ≡ w → ⊥ = λ e. i.walking.out (rw e at (sits_in es v.0 c.number v.1)) in
            omega (arith, v.2, greatest_top ts c.number v.0 (i.held_still c (inl refl) v.0 v.1))

    abbrev g : ℕ
    g = greatest ts c.number

    module _ (full : load ts c.number ≡ held rs c.number) (above_w : w < g) where
      g_sits : Sits es g c.number
      g_sits = i.holds_still c (inl refl) g (greatest_sits ts c.number (omega arith))

      top : (n : ℕ) → Sits es n c.number → n ≤ g
      top n j = greatest_top ts c.number n (i.held_still c (inl refl) n j)

      open_here : lower es c.number w < held rs c.number
      open_here = omega (arith, lower_load_one es c.number w g g_sits (omega arith), i.loads c.number)

      ne_wg : g ≡ w → ⊥
      ne_wg e = omega arith

      abbrev es' : List Entry
      es' = insert w c.number (delete g es)

      -- the table without the new walker
      without' : delete g (put w c.number q) ≡ es'
      without' =
          ap (delete g) (sym (insert_delete w c.number q 0 i.up i.there)
          ∙ ap (insert w c.number) i.without)
          ∙ delete_insert g w c.number es 0 i.walking.up ne_wg

      walk' : Walk (key p) rs ts x es' g
      walk' = walk_evict (key p) rs ts x es w i.walking c.number g (next_fair open_here) g_sits above_w top

      opened : (r : ℕ) → lower es' r g < held rs r → (c.number ≡ r → ⊥) × (key p g c.number ≤ key p g r)
          × (lower es r w < held rs r)
      opened r o =
          evict_open (key p) rs ts x es w i.walking c.number g g_sits above_w top
          (i.loads c.number ∙ full) r o

      -- an open relay comes behind this one in the new walker's order
      behind_here : (e : Entry) → Among e cs → lower es' e.number g < held rs e.number
          → key p g c.number < key p g e.number
      behind_here e j o =
          split (ltb (key p g c.number) (key p g e.number))
          (λ s. ltb-true (key p g c.number) (key p g e.number) s)
          (λ s. absurd ((opened e.number o).0 (key_apart p g c.number e.number (small_ahead c (inl refl))
          (small_ahead e (inr j))
          (omega (arith, (opened e.number o).1, ltb-false (key p g c.number) (key p g e.number) s)))))

      -- relays that come later are others, so whom they hold did not change
      later_other : (e : Entry) → Among e cs → (n : ℕ) → (c.number ≡ e.number → ⊥) → Sits es' n e.number
          → Sits es n e.number
      later_other e j n ne k =
          ⊎_elim (λ u. absurd (ne u.1)) (λ k'. sits_delete g es n e.number k')
          (sits_insert w c.number (delete g es) n e.number k)

      displaced : ((e : Entry) → Among e cs → c.number ≡ e.number → ⊥) → Turning (put w c.number q) es' g cs
      displaced others =
          record {
            without = without';
            walking = walk';
            up = rising_put w c.number q 0 i.up;
            there = in_put w c.number q g (in_delete w q g (rw i.without (sits_in es g c.number g_sits)));
            inside = λ e j. i.inside e (inr j);
            sorted = i.sorted.1;
            held_still = λ e j n k. i.held_still e (inr j) n (later_other e j n (others e j) k);
            holds_still = λ e j n k.
                let k' : Sits es n e.number = i.holds_still e (inr j) n k in
                let ne : n ≡ g → ⊥ = λ u. others e j
                (sits_one es 0 g c.number e.number i.walking.up g_sits (rw u at k')) in
                insert_sits w c.number (delete g es) n e.number (inr (delete_sits g es n e.number k' ne));
            loads = λ r. omega (
              arith,
              load_insert w c.number (delete g es) r,
              load_delete g c.number es 0
                  i.walking.up g_sits r,
              i.loads r,
            );
            open_ahead = λ e j o.
                let v : (c.number ≡ e.number → ⊥) × (key p g c.number ≤ key p g e.number)
                × (lower es e.number w < held rs e.number) = opened e.number o in
                ⊎_elim (λ u. absurd (v.0 (ap (λ (z : Entry). z.number) (sym u)))) (λ j'. j')
                (i.open_ahead e j v.2);
            agree = λ a b ja jb oa ob l.
                rotation p x g c.number a.number b.number (small_ahead c (inl refl)) (small_ahead a (inr ja))
                (small_ahead b (inr jb))
                (head_less p x c cs small_ahead i.sorted a ja (others a ja)) l (behind_here a ja oa)
                (behind_here b jb ob);
          }

  -- ---- the whole turn

  module _ (up₀ : Rising 0 (numbers (insert x 0 ts))) where
    -- the walker sits down at the first relay with room
    settled : (q es : List Entry) (w : ℕ) (c : Entry) (cs : List Entry) → Turning q es w (c ∷ cs) → has_room ts c ≡ true
        → put w c.number q ≡ fill (key p) rs (numbers (insert x 0 ts))
    unfolding has_room
    settled q es w c cs i h =
        let r : load ts c.number < c.beside = ltb-true (load ts c.number) c.beside h in
        let there : held rs c.number ≡ c.beside = among_held rs 0 t.up c (i.inside c (inl refl)) in
        sym (insert_delete w c.number q 0 i.up i.there) ∙ ap (insert w c.number) i.without
        ∙ walk_settle (key p) rs ts x (λ n. n < 2 ^ 32) (λ n a b. key_apart p n a b) (held_small p rs t) es w
        i.walking up₀ c.number
        (next_fair q es w c cs i (omega (arith, lower_load es c.number w, i.loads c.number)))
        (omega (arith, i.loads c.number))

    abbrev ended : Entry → Turn → List Entry → List Entry
    ended f s l = seated (seats (turn ts s l) f.number) (insert x 0 ts)

    turn_ends : (ahead : List Entry) (q es : List Entry) (s : Turn) (f : Entry) → Turning q es s.walker ahead
        → Distinct ahead → q ≡ seated s.chain (insert x 0 ts)
        → first (has_room ts) ahead ≡ some f → ended f s (up_to (has_room ts) ahead)
        ≡ fill (key p) rs (numbers (insert x 0 ts))
    unfolding first
    turn_ends [] q es s f i d e h = absurd (option_apart f h)
    turn_ends (c ∷ cs) q es s f i d e h =
        split (has_room ts c)
        (λ o.
        let u : c ≡ f = option_some c f (rw (o, first) at h) in
        ap (ended f s) (up_to_stop (has_room ts) c cs o) ∙ ap (λ (z : Entry). ended z s []) (sym u) ∙ ended_here c
        ∙ settled q es s.walker c cs i o)
        (λ o.
        let h' : first (has_room ts) cs ≡ some f = rw (o, first) at h in
        let full : load ts c.number ≡ held rs c.number = no_room c (i.inside c (inl refl)) o in
        ap (ended f s) (up_to_go (has_room ts) c cs o) ∙ ap (λ (z : Turn). seated (seats z f.number) (insert x 0 ts))
        (turn_more ts s c (up_to (has_room ts) cs))
        ∙ split (ltb s.walker (greatest ts c.number))
        (λ b. ap (λ (z : Turn). ended f z (up_to (has_room ts) cs)) (turn_at_yes ts s c b)
        ∙ turn_ends cs (put s.walker c.number q)
        (insert s.walker c.number (delete (greatest ts c.number) es)) (displaced_by ts s c) f
        (displaced q es s.walker c cs i full (ltb-true s.walker (greatest ts c.number) b) d.0) d.1
        (sat_down_lem e) h')
        (λ b. ap (λ (z : Turn). ended f z (up_to (has_room ts) cs)) (turn_at_no ts s c b)
        ∙ turn_ends cs q es s f (passed q es s.walker c cs i full
        (ltb-false s.walker (greatest ts c.number) b)) d.1 e h'))
      where
        no_room : (c : Entry) → Among c rs → has_room ts c ≡ false → load ts c.number ≡ held rs c.number
        no_room c j o =
            unfold has_room in (omega (
              arith,
              ltb-false (load ts c.number) c.beside o,
              loads_ts
                  c.number,
              among_held rs 0 t.up c j,
            ))

        sat_down_lem : q ≡ seated s.chain (insert x 0 ts) → put s.walker c.number q ≡ seated (seats s c.number)
            (insert x 0 ts)
        sat_down_lem e = ap (put s.walker c.number) e ∙ sym (seated_seats s c.number (insert x 0 ts))

        ended_here : (c : Entry) → ended c s [] ≡ put s.walker c.number q
        ended_here c =
            unfold turn in (seated_seats s c.number (insert x 0 ts)) ∙ ap (put s.walker c.number) (sym e)

-- ---- an enrolment

-- numbers that rise are distinct, and an order keeps them so
pub distinct_rising : (es : List Entry) (low : ℕ) → Rising low (numbers es) → Distinct es
unfolding numbers
distinct_rising [] low up = tt
distinct_rising (c ∷ cs) low up =
    (λ e j x. omega (arith, among_above cs c.number up.1 e j), distinct_rising cs c.number up.1)

distinct_queued : (p : Positions) (t : ℕ) (e : Entry) (l : List Entry) → Distinct (e ∷ l) → Distinct (queued p t e l)
unfolding queued
distinct_queued p t e [] d = d
distinct_queued p t e (y ∷ l) d =
    split (sooner p t e.number y.number)
    (λ s. rw (s, queued) d)
    (λ s. rw (s, queued) (
      λ z j. ⊎_elim (λ u x. d.0 y (inl refl) (ap (λ (w : Entry). w.number) (sym u) ∙ sym x)) (λ k. d.1.0 z k)
          (in_queued p t e l z j),
      distinct_queued p t e l (λ z j. d.0 z (inr j), d.1.1),
    ))

pub distinct_order : (p : Positions) (t : ℕ) (l : List Entry) → Distinct l → Distinct (order p t l)
unfolding order
distinct_order p t [] d = tt
distinct_order p t (e ∷ l) d =
    distinct_queued p t e (order p t l) (λ z j. d.0 z (order_in p t l z j), distinct_order p t l d.1)

module _ (p : Positions) (g : Ring) (r : Right p g) (x : ℕ) (some_number : 0 < x)
    (new : In x (numbers g.tablets) → ⊥) where
  up₀ : Rising 0 (numbers (insert x 0 g.tablets))
  up₀ = rising_insert x 0 g.tablets 0 some_number r.tablets.up new

  without_x : delete x (insert x 0 g.tablets) ≡ g.tablets
  without_x = delete_inserted x 0 g.tablets new

  start : Turning p g.relays r.relays g.tablets r.tablets.up (right_loads p g r) x
      (insert x 0 g.tablets) g.tablets x (order p x g.relays)
  start =
      record {
        without = without_x;
        walking = walk_start (key p) g.relays g.tablets x (right_stable p g r) r.tablets.up some_number new;
        up = up₀;
        there = insert_in x 0 g.tablets x (inl refl);
        inside = λ e j. order_in p x g.relays e j;
        sorted = order_sorted p x g.relays r.relays.small;
        held_still = λ e j n k. k;
        holds_still = λ e j n k. k;
        loads = λ q. refl;
        open_ahead = λ e j o. in_order p x g.relays e j;
        agree = λ a b ja jb oa ob l. l;
      }

  -- the turn over the relays ahead of the first with room
  pub turn_placement : (f : Entry) → first (has_room g.tablets) (order p x g.relays) ≡ some f
      → seated (seats (turn g.tablets (newcomer x) (up_to (has_room g.tablets) (order p x g.relays)))
      f.number) (insert x 0 g.tablets)
      ≡ fill (key p) g.relays (numbers (insert x 0 g.tablets))
  unfolding newcomer
  turn_placement f h =
      turn_ends p g.relays r.relays g.tablets r.tablets.up (right_loads p g r) x up₀
      (order p x g.relays) (insert x 0 g.tablets) g.tablets
      (newcomer x) f start (distinct_order p x g.relays (distinct_rising g.relays 0 r.relays.up))
      (unfold seated newcomer in refl) h
