-- Those who fill the holes sit down.
--   sit_start, sit_on             one after the other
--   filled_from                   and the tablet that left is taken out
-- Assumes nothing.
use Rattle.std.proofs.Common.{◌≡◌, ℕ, suc, ◌+◌, ◌-◌, ◌<◌, ◌≤◌, eqb, List, [], ◌∷◌, ◌++◌, length, get_or, take, sym, refl, ap, ◌∙◌, add-one, arith, length-take-le, take-suc, eqb-true}
use borrow.Author.Tests.{eqb-false}
use Rattle.ring.proofs.Tests.{split}
use Rattle.rule.specs.declared.Move.{Move}
use Rattle.rule.specs.Entry.{Entry, delete, put}
use Rattle.rule.specs.Calls.{move}
use Rattle.rule.specs.Sweeps.{seated}
use Rattle.rule.proofs.Puts.{delete_hit, delete_miss, put_hit, put_miss}
use Rattle.tables.specs.Table.{tablet_places, tablet_number, tablet_relay, places_of}
use Rattle.meaning.specs.Meaning.{tablets_in}
use Rattle.write.specs.Tables.{listed}
use Rattle.place.specs.MoveList.{set_move}
use Rattle.write.specs.Wrote.{WroteEntries, Climbs}
use Rattle.place.specs.Places.{SetBeside}
use Rattle.write.specs.Places.{TookOut}
use Rattle.write.proofs.Listed.{listed_none, listed_more, length_listed}
use Rattle.holes.specs.Holes.{Climbing}
use Rattle.holes.specs.Filled.{moves_of, Fillers, MovedUp, Filled}

-- ---- one more

-- the relay that the last of these leaves, r where there is none
pub left_by : List ℕ → ℕ → List ℕ → ℕ
left_by ts r [] = r
left_by ts r (j ∷ js) = left_by ts (tablet_relay ts j) js

module _ (ts : List ℕ) where
  left_more : (r : ℕ) (js : List ℕ) (j : ℕ) → left_by ts r (js ++ (j ∷ [])) ≡ tablet_relay ts j
  unfolding left_by
  left_more r [] j = refl
  left_more r (k ∷ js) j = left_more (tablet_relay ts k) js j

  moves_more : (r : ℕ) (js : List ℕ) (j : ℕ)
      → moves_of ts r (js ++ (j ∷ [])) ≡ moves_of ts r js
      ++ (move (tablet_number ts j) (tablet_relay ts j) (left_by ts r js) ∷ [])
  unfolding moves_of left_by
  moves_more r [] j = refl
  moves_more r (k ∷ js) j =
      ap (λ (l : List Move). move (tablet_number ts k) (tablet_relay ts k) r ∷ l) (moves_more (tablet_relay ts k) js j)

  pub length_moves : (r : ℕ) (js : List ℕ) → length (moves_of ts r js) ≡ length js
  unfolding moves_of
  length_moves r [] = refl
  length_moves r (j ∷ js) = ap suc (length_moves (tablet_relay ts j) js)

seated_more : (ms : List Move) (m : Move) (es : List Entry) → seated (ms ++ (m ∷ [])) es
    ≡ put m.tablet.0 m.new.0 (seated ms es)
unfolding seated
seated_more [] m es = refl
seated_more (x ∷ ms) m es = seated_more ms m (put x.tablet.0 x.new.0 es)

-- ---- the loop

module _ (ts ms : List ℕ) (m : ℕ) (places : List ℕ) (r : ℕ) where
  -- the moves of the first c
  abbrev firsts : ℕ → List Move
  firsts c = moves_of ts r (take c places)

  pub record Sitting (tablets moves : List ℕ) (new c : ℕ) : Type 0 where
    pub within : c ≤ length places
    pub size : length tablets ≡ length ts
    pub entries : tablets_in tablets m ≡ seated (moves_of ts r (take c places)) (tablets_in ts m)
    pub numbers : (i : ℕ) → tablet_number tablets i ≡ tablet_number ts i
    pub behind : (i : ℕ) → m ≤ i → tablet_relay tablets i ≡ tablet_relay ts i
    pub still : (d : ℕ) → c ≤ d → d < length places → tablet_relay tablets (get_or places d 0) ≡ tablet_relay ts (get_or places d 0)
    pub list : moves ≡ listed (moves_of ts r (take c places)) ms
    pub left : new ≡ left_by ts r (take c places)

  pub sit_start : Sitting ts ms r 0
  unfolding moves_of seated left_by
  sit_start =
      record {
        within = omega arith;
        size = refl;
        entries = refl;
        numbers = λ i. refl;
        behind = λ i h. refl;
        still = λ d h k. refl;
        list = listed_none ms;
        left = refl;
      }

  module _ (f : Fillers ts ms m places) {tablets moves : List ℕ} {new c : ℕ}
      (s : Sitting tablets moves new c) where
    pub sit_climbs : Climbs (tablet_number tablets) m
    sit_climbs = record { up = λ i l h k. rw (s.numbers i, s.numbers l) (f.numbers.up i l h k) }

    pub sit_there : m ≤ tablet_places tablets
    unfolding places_of
    sit_there = omega (arith, s.size, f.there)

    pub sit_long : length moves ≡ length ms
    sit_long =
        ap length s.list ∙ length_listed (firsts c) ms
        (omega (
          arith,
          length_moves ts r (take c places),
          length-take-le c places
              (omega (arith, s.within)),
          s.within,
          f.long,
        ))

    module _ (h : c < length places) {j : ℕ} (ej : j ≡ get_or places c 0) {t old : ℕ} (et : t ≡ tablet_number tablets j)
        (eo : old ≡ tablet_relay tablets j)
        {moves' : List ℕ} (em : moves' ≡ set_move moves c t old new) {tablets' : List ℕ}
        (es : WroteEntries tablets tablets' m (put (tablet_number tablets j) new (tablets_in tablets m))
        × SetBeside tablet_number tablet_relay tablets tablets' j new) where
      abbrev J : ℕ
      J = get_or places c 0

      abbrev one : Move
      one = move (tablet_number ts J) (tablet_relay ts J) (left_by ts r (take c places))

      inside : c < length places
      inside = omega arith

      next : take (c + 1) places ≡ take c places ++ (J ∷ [])
      next = ap (λ (k : ℕ). take k places) (add-one c) ∙ take-suc places c 0 inside

      grown : moves_of ts r (take (c + 1) places) ≡ firsts c ++ (one ∷ [])
      grown = ap (moves_of ts r) next ∙ moves_more ts r (take c places) J

      same_tablet : t ≡ tablet_number ts J
      same_tablet = et ∙ ap (tablet_number tablets) ej ∙ s.numbers J

      same_old : old ≡ tablet_relay ts J
      same_old = eo ∙ ap (tablet_relay tablets) ej ∙ s.still c (omega arith) h

      apart : (d : ℕ) → c < d → d < length places → get_or places d 0 ≡ j → ⊥
      apart d k l e = omega (arith, f.up c d k l)

      pub sit_on : Sitting tablets' moves' old (c + 1)
      sit_on =
          record {
            within = omega arith;
            size = es.0.size ∙ s.size;
            entries =
                es.0.entries
                ∙ ap (λ (x : ℕ). put x new (tablets_in tablets m)) (sym et ∙ same_tablet)
                ∙ ap (λ (x : ℕ). put (tablet_number ts J) x (tablets_in tablets m)) s.left
                ∙ ap (put (tablet_number ts J) (left_by ts r (take c places))) s.entries
                ∙ sym (seated_more (firsts c) one (tablets_in ts m))
                ∙ ap (λ (l : List Move). seated l (tablets_in ts m)) (sym grown);
            numbers = λ i. es.1.numbers i ∙ s.numbers i;
            behind = λ i k. es.0.beside i k ∙ s.behind i k;
            still = λ d k l. es.1.besides (get_or places d 0) (apart d (omega arith) l) ∙ s.still d (omega arith) l;
            list =
                listed_more (firsts c) ms one s.list
                (sym (length_moves ts r (take c places) ∙ length-take-le c places (omega (arith, inside))))
                (omega (arith, f.long)) (em ∙ rw (same_tablet, same_old, s.left))
                ∙ ap (λ (l : List Move). listed l ms) (sym grown);
            left = same_old ∙ sym (ap (left_by ts r) next ∙ left_more ts r (take c places) J);
          }

-- ---- the tablet that left

delete_put : (g n v : ℕ) (es : List Entry) → (n ≡ g → ⊥) → delete g (put n v es) ≡ put n v (delete g es)
delete_put g n v [] d = unfold delete put in refl
delete_put g n v (e ∷ es) d =
    split (eqb e.number n)
    (λ s. let z : e.number ≡ n = eqb-true e.number n s in
    ap (delete g) (put_hit n v e es z)
    ∙ delete_miss g 0 (record { number = n; beside = v }) es d
    ∙ sym (ap (put n v) (delete_miss g 0 e es (λ w. d (sym z ∙ w))) ∙ put_hit n v e (delete g es) z))
    (λ s. let z : e.number ≡ n → ⊥ = eqb-false e.number n s in
    split (eqb e.number g)
    (λ u. let w : e.number ≡ g = eqb-true e.number g u in
    ap (delete g) (put_miss n v e es z) ∙ delete_hit g 0 e (put n v es) w ∙ sym (ap (put n v) (delete_hit g 0 e es w)))
    (λ u. let w : e.number ≡ g → ⊥ = eqb-false e.number g u in
    ap (delete g) (put_miss n v e es z)
    ∙ delete_miss g 0 e (put n v es) w
    ∙ ap (λ (l : List Entry). e ∷ l) (delete_put g n v es d)
    ∙ sym (ap (put n v) (delete_miss g 0 e es w) ∙ put_miss n v e (delete g es) z)))

module _ (ts : List ℕ) (x : ℕ) where
  -- none of these places has tablet x
  Others : List ℕ → Type 0
  Others [] = Unit {0}
  Others (j ∷ js) = (tablet_number ts j ≡ x → ⊥) × Others js

  others_of : (places : List ℕ) → ((c : ℕ) → c < length places → tablet_number ts (get_or places c 0) ≡ x → ⊥)
      → Others places
  unfolding Others
  others_of [] h = tt
  others_of (j ∷ places) h = (h 0 (omega arith), others_of places (λ c k. h (suc c) (omega arith)))

  delete_seated : (js : List ℕ) (r : ℕ) (es : List Entry) → Others js → delete x (seated (moves_of ts r js) es)
      ≡ seated (moves_of ts r js) (delete x es)
  unfolding seated moves_of Others
  delete_seated [] r es o = refl
  delete_seated (j ∷ js) r es o =
      delete_seated js (tablet_relay ts j) (put (tablet_number ts j) r es) o.1
      ∙ ap (seated (moves_of ts (tablet_relay ts j) js)) (delete_put x (tablet_number ts j) r es o.0)

module _ {ts ms : List ℕ} {m : ℕ} {places : List ℕ} {at : ℕ} (f : Fillers ts ms m places) (h : at < m)
    (k : Climbing places at m) (r : ℕ)
    {mid : List ℕ} (s : MovedUp ts mid m (moves_of ts r places)) where
  pub filled_climbs : Climbs (tablet_number mid) m
  filled_climbs = record { up = λ i l u v. rw (s.numbers i, s.numbers l) (f.numbers.up i l u v) }

  pub filled_there : m ≤ tablet_places mid
  unfolding places_of
  filled_there = omega (arith, s.wrote.size, f.there)

  taken : {after : List ℕ} → TookOut tablet_number tablet_relay mid after (m - 1)
      (delete (tablet_number mid at) (tablets_in mid m))
      → Filled ts after m at (moves_of ts r places)
  taken t =
      record {
        took =
            record {
              size = t.size ∙ s.wrote.size;
              entries =
                  t.entries
                  ∙ ap (λ (x : ℕ). delete x (tablets_in mid m)) (s.numbers at)
                  ∙ ap (delete (tablet_number ts at)) s.wrote.entries
                  ∙ delete_seated ts (tablet_number ts at) places r (tablets_in ts m) others;
              number = t.number;
              beside = t.beside;
              numbers = λ i l. t.numbers i l ∙ s.numbers i;
              besides = λ i l. t.besides i l ∙ s.wrote.beside i (omega arith);
            };
      }
    where
      others : Others ts (tablet_number ts at) places
      others =
          others_of ts (tablet_number ts at) places
          (λ c l e. omega (arith, f.numbers.up at (get_or places c 0) (k.above c l) (k.below c l)))

  pub filled_from : {after moves : List ℕ} → TookOut tablet_number tablet_relay mid after (m - 1)
      (delete (tablet_number mid at) (tablets_in mid m))
      → moves ≡ listed (moves_of ts r places) ms → r ≡ tablet_relay ts at
      → Filled ts after m at (moves_of ts (tablet_relay ts at) places)
      × (moves ≡ listed (moves_of ts (tablet_relay ts at) places) ms)
  filled_from t l e = rw (← e) (taken t, l)
