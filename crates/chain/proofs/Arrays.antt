-- The arrays of a turn, one relay after the other.
--   way_some                only a tablet that is there gives way
--   greatest_last           the greatest tablet at a relay, from the places that the survey kept
--   keeps_start, keeps_visited, keeps_end   the state of a turn: at its start, over one more relay, at its end
-- Assumes nothing.
use mathlib.Core.Bool.{Bool, true, false, cond}
use mathlib.Core.Path.{◌≡◌, refl, sym, ap, ◌∙◌}
use mathlib.Core.List.{List, [], ◌∷◌, ◌++◌}
use Prim.Native.Nat.{ℕ, zero, suc, ◌+◌, ◌-◌, ◌≤◌, ◌<◌}
use native.Mathlib.Omega.{arith}
use native.Mathlib.Numerals.{add-one}
use borrow.Author.Tests.{eqb-false, eq-eqb, ne_eqb, le-ltb}
use lib.Dec.{eqb, ltb}
use lib.ListN.{length, get_or, set, length-set, get_or-replicate}
use lib.Seq.{get_or-set_same, get_or-set_other}
use Rattle.ring.specs.Scheme.{Positions}
use Rattle.ring.proofs.Tests.{split, true_false}
use Rattle.rule.specs.Entry.{Entry}
use Rattle.rule.specs.Calls.{move}
use Rattle.rule.specs.Walks.{greatest}
use Rattle.rule.specs.Sweeps.{Turn, seats, turn_at, newcomer}
use Rattle.rule.proofs.Turns.{turn_at_yes, turn_at_no, displaced_by}
use Rattle.tables.specs.Table.{relay_number, tablet_number, tablet_relay}
use Rattle.tables.specs.Placement.{relay_for}
use Rattle.tables.proofs.Loops.{stored}
use Rattle.survey.specs.Seats.{last_after}
use Rattle.meaning.specs.Meaning.{places, tablets_in}
use Rattle.meaning.specs.Rising.{Rises}
use Rattle.meaning.proofs.Places.{ascending_apart, ascending_fewer}
use Rattle.meaning.proofs.More.{greatest_more}
use Rattle.meaning.proofs.Placed.{Found}
use Rattle.meaning.proofs.Right.{right_found}
use Rattle.chain.specs.Chain.{name_at, from_at, link_at, chain_of}
use Rattle.chain.specs.Visit.{gives_way, Visited}
use Rattle.chain.specs.declared.Chain.{Chain}

-- the state of a turn: c sat down, and the next walks
pub record Turned (x : ℕ) (rs ts place seat : List ℕ) (n m c : ℕ) (s : Turn) : Type 0 where
  pub walker : s.walker ≡ name_at x ts place c
  pub from : s.from ≡ from_at rs seat c
  pub chain : s.chain ≡ chain_of x rs ts place seat c
  pub places : (i : ℕ) → 0 < i → i ≤ c → get_or place i 0 < m
  pub relays : (i : ℕ) → i < c → get_or seat i 0 < n

-- ---- one visit

pub way_some : (ts : List ℕ) (w l : ℕ) → gives_way ts w l ≡ true → 0 < l
unfolding gives_way
way_some ts w l h =
    split (eqb l 0)
    (λ s. absurd (true_false (sym (rw s at h))))
    (λ s. let z : l ≡ 0 → ⊥ = eqb-false l 0 s in omega arith)

-- ---- the greatest tablet at a relay

-- the number at the place before l; 0 where l is 0
unfoldable pub number_before : List ℕ → ℕ → ℕ
number_before ts l = cond (eqb l 0) 0 (tablet_number ts (l - 1))

number_before_lem : (ts : List ℕ) (l : ℕ) → 0 < l → number_before ts l ≡ tablet_number ts (l - 1)
unfolding number_before
number_before_lem ts l h = rw (ne_eqb l 0 (λ (e : l ≡ 0). omega arith))

pub way_greatest : (ts : List ℕ) (w l : ℕ) → gives_way ts w l ≡ ltb w (number_before ts l)
unfolding gives_way number_before
way_greatest ts w l = split (eqb l 0) (λ s. rw s (sym (le-ltb w 0 (omega arith)))) (λ s. rw s)

module _ {p : Positions} {rs ts : List ℕ} {n m : ℕ} (r : Rises p rs ts n m) where
  last_length : (j : ℕ) → length (last_after p rs ts n j) ≡ 256
  unfolding last_after
  last_length zero = refl
  last_length (suc j) = length-set (last_after p rs ts n j) (relay_for p rs ts n j) (suc j) ∙ last_length j

  few : n ≤ 256
  few = r.relays_fit.few

  last_none : (i : ℕ) → i < n → get_or (last_after p rs ts n 0) i 0 ≡ 0
  unfolding last_after
  last_none i c = get_or-replicate 256 i 0 0 (omega (arith, few))

  -- one more tablet: its relay's entry is its own place, and the others stay
  last_more : (P : ℕ → ℕ → Type 0) (j : ℕ) → j < m → P (relay_for p rs ts n j) (suc j) → (i : ℕ)
      → ((i ≡ relay_for p rs ts n j → ⊥) → P i (get_or (last_after p rs ts n j) i 0))
      → P i (get_or (last_after p rs ts n (suc j)) i 0)
  unfolding last_after
  last_more P j h here i other =
      stored P (last_after p rs ts n j) (relay_for p rs ts n j)
      (omega (arith, last_length j, (right_found r j h).below, few)) here i other

  pub last_within : (j : ℕ) → j ≤ m → (i : ℕ) → i < n → get_or (last_after p rs ts n j) i 0 ≤ j
  last_within zero h i c = omega (arith, last_none i c)
  last_within (suc j) h i c =
      last_more (λ x v. v ≤ suc j) j h (omega arith) i
      (λ d. let z : get_or (last_after p rs ts n j) i 0 ≤ j = last_within j (omega arith) i c in omega arith)

  greatest_upto : (j : ℕ) → j ≤ m → (i : ℕ) → i < n → greatest (tablets_in ts j) (relay_number rs i) ≡ number_before ts
      (get_or (last_after p rs ts n j) i 0)
  greatest_upto zero h i c = start ∙ ap (number_before ts) (sym (last_none i c))
    where
      start : greatest (tablets_in ts 0) (relay_number rs i) ≡ number_before ts 0
      start = unfold places greatest number_before in refl
  greatest_upto (suc j) h i c =
      let f : Found p rs ts n j = right_found r j h in
      ap (λ (z : ℕ). greatest (tablets_in ts z) (relay_number rs i)) (sym (add-one j))
      ∙ greatest_more (tablet_number ts) (tablet_relay ts) j (relay_number rs i)
      (ascending_fewer (j + 1) (omega arith) r.tablets)
      ∙ last_more (λ x v. x ≡ i → cond (eqb (tablet_relay ts j) (relay_number rs i)) (tablet_number ts j)
      (greatest (tablets_in ts j) (relay_number rs i)) ≡ number_before ts v) j h
      (λ e. rw (eq-eqb (tablet_relay ts j) (relay_number rs i) (sym f.is ∙ ap (relay_number rs) e))
      (sym (number_before_lem ts (suc j) (omega arith) ∙ ap (tablet_number ts) (omega arith))))
      i
      (λ d e. rw (ne_eqb (tablet_relay ts j) (relay_number rs i)
      (λ (w : tablet_relay ts j ≡ relay_number rs i). d
      (sym (ascending_apart r.relays (relay_for p rs ts n j) i f.below c (f.is ∙ w)))))
      (greatest_upto j (omega arith) i c))
      refl

  pub greatest_last : (i : ℕ) → i < n → (last : List ℕ) → last ≡ last_after p rs ts n m
      → greatest (tablets_in ts m) (relay_number rs i) ≡ number_before ts (get_or last i 0)
  greatest_last i c last e =
      greatest_upto m (omega arith) i c ∙ ap (λ (l : List ℕ). number_before ts (get_or l i 0)) (sym e)

-- ---- the state of a turn

-- an array that is written or stays
pub same_size : (b : Bool) (a : List ℕ) (i v : ℕ) {z : List ℕ} → z ≡ cond b (set a i v) a → length z ≡ length a
same_size true a i v e = ap length e ∙ length-set a i v
same_size false a i v e = ap length e

module _ (x : ℕ) (rs ts : List ℕ) where
  name_ext : (place place' : List ℕ) (c : ℕ) → (0 < c → get_or place' c 0 ≡ get_or place c 0) → name_at x ts place' c
      ≡ name_at x ts place c
  unfolding name_at
  name_ext place place' zero h = refl
  name_ext place place' (suc c) h = ap (tablet_number ts) (h (omega arith))

  from_ext : (seat seat' : List ℕ) (c : ℕ) → ((i : ℕ) → i < c → get_or seat' i 0 ≡ get_or seat i 0) → from_at rs seat' c
      ≡ from_at rs seat c
  unfolding from_at
  from_ext seat seat' zero h = refl
  from_ext seat seat' (suc c) h = ap (relay_number rs) (h c (omega arith))

  move_ext : (place place' seat seat' : List ℕ) (c : ℕ) → (0 < c → get_or place' c 0 ≡ get_or place c 0)
      → ((i : ℕ) → i < suc c → get_or seat' i 0 ≡ get_or seat i 0)
      → link_at x rs ts place' seat' c ≡ link_at x rs ts place seat c
  unfolding link_at
  move_ext place place' seat seat' c hp hs =
      let a = name_ext place place' c hp in
      let b = from_ext seat seat' c (λ i k. hs i (omega arith)) in
      let d = ap (relay_number rs) (hs c (omega arith)) in
      λ i. move (a i) (b i) (d i)

  chain_ext : (place place' seat seat' : List ℕ) (c : ℕ) → ((i : ℕ) → 0 < i → i < c → get_or place' i 0 ≡ get_or place i 0)
      → ((i : ℕ) → i < c → get_or seat' i 0 ≡ get_or seat i 0)
      → chain_of x rs ts place' seat' c ≡ chain_of x rs ts place seat c
  unfolding chain_of
  chain_ext place place' seat seat' zero hp hs = refl
  chain_ext place place' seat seat' (suc c) hp hs =
      rw (
        chain_ext place place' seat seat' c (λ i a b. hp i a (omega arith))
            (λ i b. hs i (omega arith)),
        move_ext place place' seat seat' c (λ a. hp c a (omega arith)) hs,
      )

  pub keeps_start : (place seat : List ℕ) (n m : ℕ) → Turned x rs ts place seat n m 0 (newcomer x)
  unfolding name_at from_at chain_of newcomer
  keeps_start place seat n m =
      record {
        walker = refl;
        from = refl;
        chain = refl;
        places = λ i a b. absurd (omega arith);
        relays = λ i a. absurd
            (omega arith);
      }

  module _ (place seat : List ℕ) (n m c : ℕ) (s : Turn) (k : Turned x rs ts place seat n m c s)
      (lp : length place ≡ 256)
      (ls : length seat ≡ 256) (hc : c < 256) (r : ℕ) (hr : r < n) where
    -- the walker sits down at relay r
    sat : (place' : List ℕ) → ((i : ℕ) → i ≤ c → get_or place' i 0 ≡ get_or place i 0)
        → seats s (relay_number rs r) ≡ chain_of x rs ts place' (set seat c r) (suc c)
    unfolding seats chain_of link_at
    sat place' hp =
        let same : (i : ℕ) → i < c → get_or (set seat c r) i 0 ≡ get_or seat i 0 = λ i l. get_or-set_other seat c i r 0
        (λ (e : i ≡ c). omega arith) in
        let a : s.chain ≡ chain_of x rs ts place' (set seat c r) c =
        k.chain ∙ sym (chain_ext place place' seat (set seat c r) c (λ i z l. hp i (omega arith)) same) in
        let w : s.walker ≡ name_at x ts place' c = k.walker
        ∙ sym (name_ext place place' c (λ z. hp c (omega arith))) in
        let f : s.from ≡ from_at rs (set seat c r) c = k.from ∙ sym (from_ext seat (set seat c r) c same) in
        let e : relay_number rs r ≡ relay_number rs (get_or (set seat c r) c 0) = ap (relay_number rs)
        (sym (get_or-set_same seat c r 0 (omega arith))) in
        λ i. a i ++ (move (w i) (f i) (e i) ∷ [])

    pub keeps_end : seats s (relay_number rs r) ≡ chain_of x rs ts place (set seat c r) (c + 1)
    keeps_end = sat place (λ i l. refl) ∙ ap (chain_of x rs ts place (set seat c r)) (sym (add-one c))

    -- the tablet at place l - 1 gave way
    gave_way : c + 1 < 256 → (T : List Entry) (e : Entry) (l : ℕ) → 0 < l → l ≤ m → e.number ≡ relay_number rs r
        → greatest T e.number ≡ tablet_number ts (l - 1)
        → Turned x rs ts (set place (c + 1) (l - 1)) (set seat c r) n m (c + 1) (displaced_by T s e)
    unfolding name_at from_at
    gave_way hc' T e l hl hm en eg =
        let here : get_or (set place (c + 1) (l - 1)) (c + 1) 0 ≡ l - 1 = get_or-set_same place (c + 1) (l - 1) 0
        (omega arith) in
        let other : (i : ℕ) → i ≤ c → get_or (set place (c + 1) (l - 1)) i 0 ≡ get_or place i 0 =
        λ i h. get_or-set_other place (c + 1) i (l - 1) 0 (λ (z : i ≡ c + 1). omega arith) in
        let seat_here : get_or (set seat c r) c 0 ≡ r = get_or-set_same seat c r 0 (omega arith) in
        rw (add-one c)
        (record {
          walker = eg ∙ ap (tablet_number ts) (sym (rw (add-one c) at here));
          from = en ∙ ap (relay_number rs) (sym seat_here);
          chain = ap (seats s) en ∙ sat (set place (suc c) (l - 1)) (λ i h. rw (add-one c) at (other i h));
          places = λ i a b. stored_place i a b;
          relays = λ i a. stored_seat i a;
        })
      where
        stored_place : (i : ℕ) → 0 < i → i ≤ suc c → get_or (set place (suc c) (l - 1)) i 0 < m
        stored_place i a b =
            stored (λ y v. 0 < y → y ≤ suc c → v < m) place (suc c) (omega arith) (λ p q. omega arith) i
            (λ d p q. k.places i p (omega arith)) a b

        stored_seat : (i : ℕ) → i < suc c → get_or (set seat c r) i 0 < n
        stored_seat i a =
            stored (λ y v. y < suc c → v < n) seat c (omega arith) (λ p. hr) i (λ d p. k.relays i (omega arith)) a

module _ (x : ℕ) (rs ts : List ℕ) (n m : ℕ) (a z : Chain) (s : Turn)
    (k : Turned x rs ts a.place a.seat n m a.others s) where
  pub keeps_visited : length a.place ≡ 256 → length a.seat ≡ 256 → a.others + 1 < 256 → (r : ℕ) → r < n
      → (T : List Entry) (e : Entry) (l : ℕ) → l ≤ m → e.number ≡ relay_number rs r
      → greatest T e.number ≡ number_before ts l
      → (w : ℕ) → w ≡ s.walker → Visited (gives_way ts w l) a z r l
      → Turned x rs ts z.place z.seat n m z.others (turn_at T s e)
  keeps_visited lp ls hc r hr T e l hm en eg w ew v =
      let b : gives_way ts w l ≡ ltb s.walker (greatest T e.number) =
      way_greatest ts w l ∙ ap (λ (z : ℕ). ltb z (number_before ts l)) ew ∙ ap (ltb s.walker) (sym eg) in
      split (gives_way ts w l)
      (λ y.
      let some_one : 0 < l = way_some ts w l y in
      let g : Turned x rs ts (set a.place (a.others + 1) (l - 1)) (set a.seat a.others r) n m (a.others + 1) (displaced_by T s e) =
      gave_way x rs ts a.place a.seat n m a.others s k lp ls (omega arith) r hr hc T e l some_one hm en
      (eg ∙ number_before_lem ts l some_one) in
      rw (turn_at_yes T s e (sym b ∙ y), v.seats, v.places, v.count, y) g)
      (λ y. rw (turn_at_no T s e (sym b ∙ y), v.seats, v.places, v.count, y) k)
