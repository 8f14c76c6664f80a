-- The sweeps make the move list: who sits down anew is who moved.
--   moved_seated    tablets that sit down elsewhere, by rising number, are the moves
--   turn_moves      so the chain of an enrolment, behind the newcomer, is the move list
--   holes_moves     and so are those who fill the holes of a withdrawal
-- Assumes nothing.
use mathlib.Core.Bool.{Bool, true, false, and-false}
use mathlib.Core.Path.{◌≡◌, refl, sym, ap, ◌∙◌, subst}
use mathlib.Core.List.{List, [], ◌∷◌, ◌++◌}
use mathlib.Core.Logic.{◌⊎◌, inl, inr, ⊎_elim}
use mathlib.Core.Option.{some}
use Prim.Native.Nat.{ℕ, ◌≤◌, ◌<◌}
use native.Mathlib.Omega.{arith}
use borrow.Author.Tests.{ltb-true, eqb-true, eqb-false, le-ltb}
use lib.Dec.{eqb, ltb}
use Rattle.ring.specs.Scheme.{Positions}
use Rattle.ring.specs.Clockwise.{distance, sooner}
use Rattle.ring.proofs.Tests.{split, true_false}
use Rattle.rule.specs.declared.Move.{Move}
use Rattle.rule.specs.Entry.{Entry, numbers, has, beside_of, insert, delete, put, first, up_to}
use Rattle.rule.specs.Calls.{move, moved}
use Rattle.rule.specs.Walks.{greatest, had_passed}
use Rattle.rule.specs.Sweeps.{seated, Turn, seats, turn, holes}
use Rattle.rule.specs.Stability.{Rising, In, Sits}
use Rattle.rule.specs.Facts.{Among, Distinct}
use Rattle.rule.specs.Moves.{Listed, tablets_listed}
use Rattle.rule.proofs.Sets.{sits_in, insert_in, rising_low, rising_insert, rising_delete}
use Rattle.rule.proofs.Counts.{sits_above, sits_insert, sits_delete}
use Rattle.rule.proofs.Puts.{numbers_put, put_inserted}
use Rattle.rule.proofs.Orders.{option_some, option_apart}
use Rattle.rule.proofs.Searches.{greatest_sits}
use Rattle.rule.proofs.Demand3.{has_in, in_has, sits_beside}
use Rattle.rule.proofs.Moves.{Moves, moved_is, moved_all, moved_rising}
use Rattle.rule.proofs.Turns.{up_to_stop, up_to_go, turn_none, turn_more, turn_at_yes, turn_at_no, displaced_by}
use Rattle.rule.proofs.Holes.{holes_take, holes_pass}

-- ---- move lists by rising tablet

listed_above : (l : List Move) (low : ℕ) → Rising low (tablets_listed l) → (m : Move) → Listed m l → low < m.tablet.0
listed_above [] low up m i = absurd i
listed_above (x ∷ l) low up m (inl u) = omega (arith, up.0, ap (λ (z : Move). z.tablet.0) u)
listed_above (x ∷ l) low up m (inr i) = omega (arith, up.0, listed_above l x.tablet.0 up.1 m i)

listed_behind : (x : Move) (l : List Move) (m : Move) → Listed m (x ∷ l) → x.tablet.0 < m.tablet.0 → Listed m l
listed_behind x l m (inl u) h = absurd (omega (arith, ap (λ (z : Move). z.tablet.0) u))
listed_behind x l m (inr i) h = i

listed_least : (x : Move) (l : List Move) → Rising x.tablet.0 (tablets_listed l) → (m : Move) → Listed m (x ∷ l)
    → x.tablet.0 ≤ m.tablet.0
listed_least x l up m (inl u) = omega (arith, ap (λ (z : Move). z.tablet.0) u)
listed_least x l up m (inr i) = omega (arith, listed_above l x.tablet.0 up m i)

-- two lists of the same moves are one
moves_ext : (k l : List Move) (low : ℕ) → Rising low (tablets_listed k) → Rising low (tablets_listed l)
    → ((m : Move) → Listed m k → Listed m l) → ((m : Move) → Listed m l → Listed m k) → k ≡ l
moves_ext [] [] low u v f g = refl
moves_ext [] (y ∷ l) low u v f g = absurd (g y (inl refl))
moves_ext (x ∷ k) [] low u v f g = absurd (f x (inl refl))
moves_ext (x ∷ k) (y ∷ l) low u v f g =
    let a : y.tablet.0 ≤ x.tablet.0 = listed_least y l v.1 x (f x (inl refl)) in
    let b : x.tablet.0 ≤ y.tablet.0 = listed_least x k u.1 y (g y (inl refl)) in
    let e : x ≡ y = ⊎_elim (λ s. s) (λ i. absurd (omega (arith, listed_above l y.tablet.0 v.1 x i)))
    (f x (inl refl)) in
    let ih : k ≡ l = moves_ext k l x.tablet.0 u.1
    (rising_low (tablets_listed l) y.tablet.0 x.tablet.0 b v.1)
    (λ m i. listed_behind y l m (f m (inr i)) (omega (arith, listed_above k x.tablet.0 u.1 m i)))
    (λ m i. listed_behind x k m (g m (inr i)) (omega (arith, listed_above l y.tablet.0 v.1 m i))) in
    λ i. e i ∷ ih i

-- ---- sitting down

sits_put : (n v : ℕ) (es : List Entry) (low : ℕ) → Rising low (numbers es) → (m w : ℕ) → Sits (put n v es) m w
    → ((m ≡ n) × (w ≡ v)) ⊎ (Sits es m w × (m ≡ n → ⊥))
unfolding put numbers
sits_put n v [] low up m w = λ i. absurd i
sits_put n v (e ∷ es) low up m w =
    split (eqb e.number n)
    (λ s. rw (s, put)
    (λ i. ⊎_elim (λ u. inl (sym u.0, sym u.1))
    (λ j. inr (inr j, λ x. omega (arith, sits_above es e.number m w up.1 j, eqb-true e.number n s))) i))
    (λ s. rw (s, put)
    (λ i. ⊎_elim (λ u. inr (inl u, λ x. eqb-false e.number n s (u.0 ∙ x)))
    (λ j. ⊎_elim (λ u. inl u) (λ u. inr (inr u.0, u.1)) (sits_put n v es e.number up.1 m w j)) i))

put_sits : (n v : ℕ) (es : List Entry) → In n (numbers es) → Sits (put n v es) n v
unfolding put numbers
put_sits n v [] i = absurd i
put_sits n v (e ∷ es) i =
    split (eqb e.number n)
    (λ s. rw (s, put) (inl (refl, refl)))
    (λ s. rw (s, put) (inr (put_sits n v es (⊎_elim (λ u. absurd (eqb-false e.number n s (sym u))) (λ j. j) i))))

put_other : (n v : ℕ) (es : List Entry) (m w : ℕ) → Sits es m w → (m ≡ n → ⊥) → Sits (put n v es) m w
unfolding put
put_other n v [] m w = λ i d. absurd i
put_other n v (e ∷ es) m w =
    split (eqb e.number n)
    (λ s. rw (s, put) (λ i d. ⊎_elim (λ u. absurd (d (sym u.0 ∙ eqb-true e.number n s))) (λ j. inr j) i))
    (λ s. rw (s, put) (λ i d. ⊎_elim (λ u. inl u) (λ j. inr (put_other n v es m w j d)) i))

pub numbers_seated : (ms : List Move) (es : List Entry) → numbers (seated ms es) ≡ numbers es
unfolding seated
numbers_seated [] es = refl
numbers_seated (m ∷ ms) es =
    numbers_seated ms (put m.tablet.0 m.new.0 es) ∙ numbers_put m.tablet.0 m.new.0 es

-- who sits at the end is one who sat down, or sat there before
sits_seated : (ms : List Move) (es : List Entry) → Rising 0 (numbers es) → (n v : ℕ) → Sits (seated ms es) n v
    → ((m : Move) × Listed m ms × (m.tablet.0 ≡ n) × (m.new.0 ≡ v)) ⊎ Sits es n v
unfolding seated
sits_seated [] es up n v i = inr i
sits_seated (m ∷ ms) es up n v i =
    ⊎_elim
    (λ u. inl (u.0, inr u.1, u.2, u.3))
    (λ j. ⊎_elim (λ u. inl (m, inl refl, sym u.0, sym u.1)) (λ u. inr u.0)
    (sits_put m.tablet.0 m.new.0 es 0 up n v j))
    (sits_seated ms (put m.tablet.0 m.new.0 es) (rw (numbers_put m.tablet.0 m.new.0 es) up) n v i)

-- who is not in the list stays
pub seated_other : (ms : List Move) (low : ℕ) → Rising low (tablets_listed ms) → (es : List Entry) (n v : ℕ) → n ≤ low
    → Sits es n v → Sits (seated ms es) n v
unfolding seated
seated_other [] low up es n v h i = i
seated_other (m ∷ ms) low up es n v h i =
    seated_other ms m.tablet.0 up.1 (put m.tablet.0 m.new.0 es) n v (omega (arith, up.0))
    (put_other m.tablet.0 m.new.0 es n v i (λ x. omega (arith, up.0)))

seated_sits : (ms : List Move) (low : ℕ) → Rising low (tablets_listed ms) → (es : List Entry) (m : Move) → Listed m ms
    → In m.tablet.0 (numbers es) → Sits (seated ms es) m.tablet.0 m.new.0
unfolding seated
seated_sits [] low up es m i j = absurd i
seated_sits (x ∷ ms) low up es m (inl u) j =
    subst (λ (z : Move). Sits (seated ms (put x.tablet.0 x.new.0 es)) z.tablet.0 z.new.0) (sym u)
    (seated_other ms x.tablet.0 up.1 (put x.tablet.0 x.new.0 es) x.tablet.0 x.new.0 (omega arith)
    (put_sits x.tablet.0 x.new.0 es (subst (λ (z : Move). In z.tablet.0 (numbers es)) u j)))
seated_sits (x ∷ ms) low up es m (inr i) j =
    seated_sits ms x.tablet.0 up.1 (put x.tablet.0 x.new.0 es) m i
    (rw (numbers_put x.tablet.0 x.new.0 es) j)

-- ---- who sits down is who moved

-- tablets of an old table and of the one that is changed, each to another relay than its own
pub record Honest (old es : List Entry) (m : Move) : Type 0 where
  pub was : has old m.tablet.0 ≡ true
  pub from : beside_of old m.tablet.0 ≡ m.old.0
  pub there : In m.tablet.0 (numbers es)
  pub other : m.old.0 ≡ m.new.0 → ⊥

pub moved_seated : (old es : List Entry) (ms : List Move) → Rising 0 (numbers es) → Rising 0 (tablets_listed ms)
    → ((m : Move) → Listed m ms → Honest old es m) → ((n v : ℕ) → Sits es n v → has old n ≡ true → beside_of old n ≡ v)
    → moved old (seated ms es) ≡ ms
moved_seated old es ms up ups honest same =
    moves_ext (moved old (seated ms es)) ms 0 (moved_rising old (seated ms es) 0 (rw (numbers_seated ms es) up)) ups to
    from
  where
    to : (m : Move) → Listed m (moved old (seated ms es)) → Listed m ms
    to m i =
        let v : Moves old (seated ms es) m = moved_is old (seated ms es) m i in
        ⊎_elim
        (λ u. subst (λ (z : Move). Listed z ms) (is_it m v u.0 u.1 u.2 u.3) u.1)
        (λ j. absurd (v.other (v.from ∙ same m.tablet.0 m.new.0 j v.was)))
        (sits_seated ms es up m.tablet.0 m.new.0 v.to)
      where
        is_it : (m : Move) → Moves old (seated ms es) m → (s : Move) → Listed s ms → s.tablet.0 ≡ m.tablet.0
            → s.new.0 ≡ m.new.0 → s ≡ m
        is_it m v s i a b =
            let o : s.old.0 ≡ m.old.0 = sym (honest s i).from ∙ ap (beside_of old) a ∙ sym v.from in
            λ k. move (a k) (o k) (b k)

    from : (m : Move) → Listed m ms → Listed m (moved old (seated ms es))
    from m i =
        let h : Honest old es m = honest m i in
        let l : Listed (move m.tablet.0 (beside_of old m.tablet.0) m.new.0) (moved old (seated ms es)) =
        moved_all old (seated ms es) m.tablet.0 m.new.0 h.was (seated_sits ms 0 ups es m i h.there)
        (λ e. h.other (sym h.from ∙ e)) in
        subst (λ (z : Move). Listed z (moved old (seated ms es))) (λ k. move m.tablet.0 (h.from k) m.new.0) l

-- ---- the chain of an enrolment

-- the numbers of a list, and one more behind them
rising_snoc : (l : List ℕ) (low w n : ℕ) → Rising low (l ++ (w ∷ [])) → w < n → Rising low ((l ++ (w ∷ [])) ++ (n ∷ []))
rising_snoc [] low w n up h = (up.0, (h, tt))
rising_snoc (x ∷ l) low w n up h = (up.0, rising_snoc l x w n up.1 h)

tablets_more : (l : List Move) (m : Move) → tablets_listed (l ++ (m ∷ [])) ≡ tablets_listed l ++ (m.tablet.0 ∷ [])
tablets_more [] m = refl
tablets_more (x ∷ l) m = ap (λ (k : List ℕ). x.tablet.0 ∷ k) (tablets_more l m)

listed_more : (l : List Move) (m x : Move) → Listed x (l ++ (m ∷ [])) → Listed x l ⊎ (x ≡ m)
listed_more [] m x (inl u) = inr u
listed_more [] m x (inr i) = absurd i
listed_more (y ∷ l) m x (inl u) = inl (inl u)
listed_more (y ∷ l) m x (inr i) = ⊎_elim (λ j. inl (inr j)) (λ u. inr u) (listed_more l m x i)

-- the newcomer sits down first, and everybody behind it left another relay than the one it comes to
pub record Chain (ts : List Entry) (x : ℕ) (ms : List Move) : Type 0 where
  pub seat : ℕ
  pub rest : List Move
  pub is : ms ≡ move x 0 seat ∷ rest
  pub up : Rising x (tablets_listed rest)
  pub sat : (m : Move) → Listed m rest → Sits ts m.tablet.0 m.old.0
  pub other : (m : Move) → Listed m rest → m.old.0 ≡ m.new.0 → ⊥

module _ (ts : List Entry) (x : ℕ) where
  -- while the newcomer itself walks, and while another does
  pub record Fresh (s : Turn) : Type 0 where
    pub walker : s.walker ≡ x
    pub from : s.from ≡ 0
    pub chain : s.chain ≡ []

  pub record Linked (s : Turn) (ahead : List Entry) : Type 0 where
    pub before : Chain ts x s.chain
    pub up : Rising x (tablets_listed before.rest ++ (s.walker ∷ []))
    pub sat : Sits ts s.walker s.from
    pub other : (e : Entry) → Among e ahead → s.from ≡ e.number → ⊥

  -- one more sits down
  chain_more : (s : Turn) (ahead : List Entry) → Linked s ahead → (c : Entry) → Among c ahead
      → Chain ts x (seats s c.number)
  unfolding seats
  chain_more s ahead l c i =
      record {
        seat = l.before.seat;
        rest = l.before.rest ++ (move s.walker s.from c.number ∷ []);
        is = ap (λ (k : List Move). k ++ (move s.walker s.from c.number ∷ [])) l.before.is;
        up = rw (tablets_more l.before.rest (move s.walker s.from c.number)) l.up;
        sat = λ m j. ⊎_elim (λ k. l.before.sat m k)
            (λ u. subst (λ (z : Move). Sits ts z.tablet.0 z.old.0) (sym u) l.sat)
            (listed_more l.before.rest _ m j);
        other = λ m j. ⊎_elim (λ k. l.before.other m k)
            (λ u. subst (λ (z : Move). z.old.0 ≡ z.new.0 → ⊥) (sym u) (l.other c i))
            (listed_more l.before.rest _ m j);
      }

  chain_first : (s : Turn) → Fresh s → (r : ℕ) → Chain ts x (seats s r)
  unfolding seats
  chain_first s f r =
      record {
        seat = r;
        rest = [];
        is = rw (f.chain, f.walker, f.from) refl;
        up = tt;
        sat = λ m i. absurd i;
        other = λ m i. absurd i;
      }

  chain_end : (s : Turn) (ahead : List Entry) → Fresh s ⊎ Linked s ahead → (c : Entry) → Among c ahead
      → Chain ts x (seats s c.number)
  chain_end s ahead (inl f) c i = chain_first s f c.number
  chain_end s ahead (inr l) c i = chain_more s ahead l c i

  displaced_linked : (s : Turn) (c : Entry) (cs : List Entry) → Fresh s ⊎ Linked s (c ∷ cs)
      → ((e : Entry) → Among e cs → c.number ≡ e.number → ⊥) → s.walker < greatest ts c.number
      → Linked (displaced_by ts s c) cs
  unfolding chain_end chain_first chain_more
  displaced_linked s c cs k others h =
      record {
        before = chain_end s (c ∷ cs) k c (inl refl);
        up = rises k;
        sat = greatest_sits ts c.number (omega arith);
        other = others;
      }
    where
      rises : (k : Fresh s ⊎ Linked s (c ∷ cs))
          → Rising x (tablets_listed (chain_end s (c ∷ cs) k c (inl refl)).rest ++ (greatest ts c.number ∷ []))
      rises (inl f) = (omega (arith, f.walker), tt)
      rises (inr l) =
          rw (tablets_more l.before.rest (move s.walker s.from c.number))
          (rising_snoc (tablets_listed l.before.rest) x s.walker (greatest ts c.number) l.up h)

  further : (s : Turn) (c : Entry) (cs : List Entry) → Fresh s ⊎ Linked s (c ∷ cs) → Fresh s ⊎ Linked s cs
  further s c cs (inl f) = inl f
  further s c cs (inr l) =
      inr (record { before = l.before; up = l.up; sat = l.sat; other = λ e i. l.other e (inr i) })

  module _ (f : Entry → Bool) where
    pub turn_chain : (ahead : List Entry) (s : Turn) (c : Entry) → Fresh s ⊎ Linked s ahead → Distinct ahead
        → first f ahead ≡ some c → Chain ts x (seats (turn ts s (up_to f ahead)) c.number)
    unfolding first
    turn_chain [] s c k d h = absurd (option_apart c h)
    turn_chain (e ∷ cs) s c k d h =
        split (f e)
        (λ o.
        let u : e ≡ c = option_some e c (rw (o, first) at h) in
        subst (λ (l : List Entry). Chain ts x (seats (turn ts s l) c.number)) (sym (up_to_stop f e cs o))
        (subst (λ (z : Turn). Chain ts x (seats z c.number)) (sym (turn_none ts s))
        (subst (λ (z : Entry). Chain ts x (seats s z.number)) u (chain_end s (e ∷ cs) k e (inl refl)))))
        (λ o.
        let h' : first f cs ≡ some c = rw (o, first) at h in
        subst (λ (l : List Entry). Chain ts x (seats (turn ts s l) c.number)) (sym (up_to_go f e cs o))
        (subst (λ (z : Turn). Chain ts x (seats z c.number)) (sym (turn_more ts s e (up_to f cs)))
        (split (ltb s.walker (greatest ts e.number))
        (λ b. subst (λ (z : Turn). Chain ts x (seats (turn ts z (up_to f cs)) c.number)) (sym (turn_at_yes ts s e b))
        (turn_chain cs (displaced_by ts s e) c (inr
        (displaced_linked s e cs k d.0 (ltb-true s.walker (greatest ts e.number) b))) d.1 h'))
        (λ b. subst (λ (z : Turn). Chain ts x (seats (turn ts z (up_to f cs)) c.number)) (sym (turn_at_no ts s e b))
        (turn_chain cs s c (further s e cs k) d.1 h')))))

-- the move list of an enrolment is its chain behind the newcomer
module _ (ts : List Entry) (up : Rising 0 (numbers ts)) (x : ℕ) (some_number : 0 < x)
    (new : In x (numbers ts) → ⊥) where
  pub chain_seated : (ms : List Move) (c : Chain ts x ms) → seated ms (insert x 0 ts)
      ≡ seated c.rest (insert x c.seat ts)
  chain_seated ms c =
      ap (λ (k : List Move). seated k (insert x 0 ts)) c.is
      ∙ unfold seated in (ap (seated c.rest) (put_inserted x c.seat 0 ts new))

  pub turn_moves : (ms : List Move) (c : Chain ts x ms) → moved ts (seated ms (insert x 0 ts)) ≡ c.rest
  turn_moves ms c =
      ap (moved ts) (chain_seated ms c)
      ∙ moved_seated ts (insert x c.seat ts) c.rest (rising_insert x c.seat ts 0 some_number up new)
      (rising_low (tablets_listed c.rest) x 0 (omega arith) c.up)
      (λ m i.
      let s : Sits ts m.tablet.0 m.old.0 = c.sat m i in
      let n : In m.tablet.0 (numbers ts) = sits_in ts m.tablet.0 m.old.0 s in
      record {
        was = in_has ts m.tablet.0 n;
        from = sits_beside ts 0 m.tablet.0 m.old.0 up s;
        there = insert_in x c.seat ts m.tablet.0 (inr n);
        other = c.other m i;
      })
      (λ n v j h. ⊎_elim
      (λ u. absurd (new (has_in ts x (ap (has ts) u.0 ∙ h))))
      (λ k. sits_beside ts 0 n v up k) (sits_insert x c.seat ts n v j))

-- ---- those who fill holes

module _ (p : Positions) where
  holes_rising : (l : List Entry) (low r : ℕ) → Rising low (numbers l) → Rising low (tablets_listed (holes p r l))
  unfolding numbers
  holes_rising [] low r up = unfold holes in tt
  holes_rising (e ∷ l) low r up =
      split (had_passed p r e)
      (λ h. subst (λ (k : List Move). Rising low (tablets_listed k)) (sym (holes_take p r e l h))
      (up.0, holes_rising l e.number e.beside up.1))
      (λ h. subst (λ (k : List Move). Rising low (tablets_listed k)) (sym (holes_pass p r e l h))
      (rising_low (tablets_listed (holes p r l)) e.number low (omega (arith, up.0))
      (holes_rising l e.number r up.1)))

  -- nobody had passed its own relay
  not_own : (t r : ℕ) → sooner p t r r ≡ false
  unfolding sooner
  not_own t r =
      rw (le-ltb (distance p t r) (distance p t r) (omega arith), le-ltb r r (omega arith))
      (and-false (eqb (distance p t r) (distance p t r)))

  holes_sat : (l : List Entry) (r : ℕ) (m : Move) → Listed m (holes p r l) → Sits l m.tablet.0 m.old.0
      × (m.old.0 ≡ m.new.0 → ⊥)
  holes_sat [] r m i = absurd (unfold holes in i)
  holes_sat (e ∷ l) r m i =
      split (had_passed p r e)
      (λ h. ⊎_elim
      (λ u. subst (λ (z : Move). Sits (e ∷ l) z.tablet.0 z.old.0 × (z.old.0 ≡ z.new.0 → ⊥)) (sym u)
      (inl (refl, refl), λ x. other h x))
      (λ j. deeper (holes_sat l e.beside m j))
      (subst (λ (k : List Move). Listed m k) (holes_take p r e l h) i))
      (λ h. deeper (holes_sat l r m (subst (λ (k : List Move). Listed m k) (holes_pass p r e l h) i)))
    where
      deeper : Sits l m.tablet.0 m.old.0 × (m.old.0 ≡ m.new.0 → ⊥) → Sits (e ∷ l) m.tablet.0 m.old.0
          × (m.old.0 ≡ m.new.0 → ⊥)
      deeper v = (inr v.0, v.1)

      other : had_passed p r e ≡ true → e.beside ≡ r → ⊥
      other h x =
          unfold had_passed in (true_false (sym h ∙ ap (λ (z : ℕ). sooner p e.number r z) x ∙ not_own e.number r))

  pub holes_moves : (ts : List Entry) → Rising 0 (numbers ts) → (x r : ℕ)
      → moved ts (seated (holes p r (delete x ts)) (delete x ts)) ≡ holes p r (delete x ts)
  holes_moves ts up x r =
      let up' : Rising 0 (numbers (delete x ts)) = rising_delete x ts 0 up in
      moved_seated ts (delete x ts) (holes p r (delete x ts)) up' (holes_rising (delete x ts) 0 r up')
      (λ m i.
      let s : Sits (delete x ts) m.tablet.0 m.old.0 × (m.old.0 ≡ m.new.0 → ⊥) = holes_sat
      (delete x ts) r m i in
      let j : Sits ts m.tablet.0 m.old.0 = sits_delete x ts m.tablet.0 m.old.0 s.0 in
      record {
        was = in_has ts m.tablet.0 (sits_in ts m.tablet.0 m.old.0 j);
        from = sits_beside ts 0 m.tablet.0 m.old.0 up j;
        there = sits_in (delete x ts) m.tablet.0 m.old.0 s.0;
        other = s.1;
      })
      (λ n v j h. sits_beside ts 0 n v up (sits_delete x ts n v j))
