-- The sweep for those who move.
--   seek_on, seek_found                          the search for the next that had passed a hole
--   next_at_once                                 nobody had passed a relay with room
--   movers_pass, movers_take                     one tablet
--   sweep_start, sweep_on, sweep_end             from hole to hole
-- Assumes nothing.
use Rattle.std.proofs.Common.{◌≡◌, ℕ, zero, suc, ◌+◌, ◌-◌, ◌<◌, ◌≤◌, true, false, eqb, ltb, List, [], ◌∷◌, ◌++◌, length, get_or, take, set, sym, refl, ap, ◌∙◌, append_assoc, append-nil, add-one, arith, length-set, length-take-le, get_or-set_other, get_or-set_same, take-suc-set, ltb-false, ltb-true, eqb-true}
use borrow.Author.Tests.{eqb-false}
use lib.Seq.{get_or-take}
use Rattle.ring.specs.Most.{most_relays}
use Rattle.ring.proofs.Tests.{split}
use Rattle.row.specs.Row.{slot_room}
use Rattle.survey.specs.declared.Survey.{Survey}
use Rattle.holes.specs.Holes.{passed_at, movers, Sweeps, Next, Climbing, MoversAre}
use Rattle.holes.proofs.Few.{last_of, last_above, last_below, fewer, fewer_most, fewer_more}

-- ---- the search

module _ (v : Survey) (i : ℕ) where
  -- nobody behind place i had passed the relay of the tablet there, as far as place j
  pub record Seeking (j : ℕ) : Type 0 where
    pub low : i < j
    pub high : j ≤ v.m
    pub skipped : (l : ℕ) → i < l → l < j → passed_at v.home v.slot i l ≡ false

  module _ {j : ℕ} (s : Seeking j) where
    pub seek_on : j < v.m → passed_at v.home v.slot i j ≡ false → Seeking (j + 1)
    seek_on h e =
        record {
          low = omega (arith, s.low);
          high = omega arith;
          skipped = λ l a b. split (ltb l j)
              (λ u. s.skipped l a (ltb-true l j u))
              (λ u. let z : l ≡ j = omega (arith, ltb-false l j u) in ap (passed_at v.home v.slot i) z ∙ e);
        }

    pub seek_found : passed_at v.home v.slot i j ≡ true → Next v i j
    seek_found e = record { low = s.low; high = s.high; skipped = s.skipped; passed = λ h. e }

pub next_at_once : {v : Survey} → Sweeps v → (i : ℕ) → i < v.m → 0 < slot_room v.keys v.room (get_or v.slot i 0)
    → Next v i v.m
next_at_once s i h o =
    record { low = h; high = omega arith; skipped = λ j a b. s.roomy i j h b o; passed = λ c. absurd (omega arith) }

-- ---- who moves

module _ (home slot : List ℕ) where
  pub movers_pass : (i j left : ℕ) → passed_at home slot i j ≡ false → movers home slot i j (suc left)
      ≡ movers home slot i (suc j) left
  unfolding movers
  movers_pass i j left e = rw (e, movers)

  pub movers_take : (i j left : ℕ) → passed_at home slot i j ≡ true → movers home slot i j (suc left)
      ≡ j ∷ movers home slot j (suc j) left
  unfolding movers
  movers_take i j left e = rw (e, movers)

  movers_skip : (i d j left : ℕ) → ((l : ℕ) → j ≤ l → l < j + d → passed_at home slot i l ≡ false)
      → movers home slot i j (d + left) ≡ movers home slot i (j + d) left
  movers_skip i zero j left h =
      let a : zero + left ≡ left = omega arith in
      let b : j + zero ≡ j = omega arith in
      rw (a, b)
  movers_skip i (suc d) j left h =
      let a : suc d + left ≡ suc (d + left) = omega arith in
      let b : j + suc d ≡ suc j + d = omega arith in
      rw (a, b)
      (movers_pass i j (d + left) (h j (omega arith) (omega arith))
      ∙ movers_skip i d (suc j) left (λ l x y. h l (omega arith) (omega arith)))

-- nobody up to the next moves
movers_next : (v : Survey) (i r : ℕ) → Next v i r → movers v.home v.slot i (suc i) (v.m - suc i)
    ≡ movers v.home v.slot i r (v.m - r)
movers_next v i r x =
    let a : v.m - suc i ≡ (r - suc i) + (v.m - r) = omega (arith, x.low, x.high) in
    let b : suc i + (r - suc i) ≡ r = omega (arith, x.low) in
    ap (movers v.home v.slot i (suc i)) a
    ∙ movers_skip v.home v.slot i (r - suc i) (suc i) (v.m - r) (λ l c d. x.skipped l c (omega arith))
    ∙ ap (λ (z : ℕ). movers v.home v.slot i z (v.m - r)) b

-- ---- the chain so far

-- the first so many places rise, between two
pub record Noted (places : List ℕ) (count low high : ℕ) : Type 0 where
  pub above : (c : ℕ) → c < count → low < get_or places c 0
  pub below : (c : ℕ) → c < count → get_or places c 0 < high
  pub up : (c d : ℕ) → c < d → d < count → get_or places c 0 < get_or places d 0

noted_climbs : {places : List ℕ} {count low high : ℕ} → count ≤ length places → Noted places count low high
    → Climbing (take count places) low high
noted_climbs {places} {count} h s =
    record {
      above = λ c k. rw (at c (omega (arith, size))) (s.above c (omega (arith, size)));
      below = λ c k. rw (at c (omega (arith, size))) (s.below c (omega (arith, size)));
      up = λ c d k e. rw (at c (omega (arith, size)), at d (omega (arith, size))) (s.up c d k (omega (arith, size)));
    }
  where
    size : length (take count places) ≡ count
    size = length-take-le count places h

    at : (c : ℕ) → c < count → get_or (take count places) c 0 ≡ get_or places c 0
    at c k = get_or-take count places c 0 k

climbing_more : (places : List ℕ) (count low j high : ℕ) → count < length places → low < j → j < high
    → Noted places count low j → Noted (set places count j) (count + 1) low high
climbing_more places count low j high h l t s =
    record {
      above = λ c k. split (eqb c count)
          (λ u. let z : c ≡ count = eqb-true c count u in rw z (omega (arith, here)))
          (λ u. omega (arith, other c (eqb-false c count u), s.above c (omega (arith, eqb-false c count u))));
      below = λ c k. split (eqb c count)
          (λ u. let z : c ≡ count = eqb-true c count u in rw z (omega (arith, here)))
          (λ u. omega (arith, other c (eqb-false c count u), s.below c (omega (arith, eqb-false c count u))));
      up = λ c d k e. split (eqb d count)
          (λ u. let z : d ≡ count = eqb-true d count u in
          rw z (omega (arith, here, other c (λ (w : c ≡ count). omega arith), s.below c (omega arith))))
          (λ u. let w : d ≡ count → ⊥ = eqb-false d count u in
          omega (arith, other c (λ (y : c ≡ count). omega arith), other d w, s.up c d k (omega arith)));
    }
  where
    here : get_or (set places count j) count 0 ≡ j
    here = get_or-set_same places count j 0 h

    other : (c : ℕ) → (c ≡ count → ⊥) → get_or (set places count j) c 0 ≡ get_or places c 0
    other c d = get_or-set_other places count c j 0 d

module _ (v : Survey) (at : ℕ) where
  -- So many moved, and the last of them, or the tablet that leaves, is the last leaver; place j is the next to move, or all are seen. The
  -- relays left before have their last tablets before that of the leaver's.
  pub record Swept (places : List ℕ) (count j : ℕ) : Type 0 where
    pub leaver : ℕ
    pub inside : leaver < v.m
    pub from : at ≤ leaver
    pub next : Next v leaver j
    pub size : length places ≡ most_relays
    pub climbs : Noted places count at j
    pub are : take count places ++ movers v.home v.slot leaver (suc leaver) (v.m - suc leaver) ≡ movers v.home v.slot at (suc at)
        (v.m - suc at)
    pub few : count < fewer (last_of v.slot v.m) most_relays (last_of v.slot v.m (get_or v.slot leaver 0))

  -- fewer moved than there are relays
  pub swept_few : {places : List ℕ} {count j : ℕ} → Swept places count j → count < most_relays
  swept_few w = omega (arith, w.few, fewer_most (last_of v.slot v.m) most_relays (last_of v.slot v.m (get_or v.slot w.leaver 0)))

  module _ (s : Sweeps v) where
    pub sweep_start : {places : List ℕ} {j : ℕ} → at < v.m → length places ≡ most_relays → Next v at j
        → Swept places 0 j
    sweep_start {places} {j} h e x =
        record {
          leaver = at;
          inside = h;
          from = omega arith;
          next = x;
          size = e;
          climbs = record {
            above = λ c l. absurd (omega arith);
            below = λ c l. absurd
                (omega arith);
            up = λ c d l f. absurd (omega arith);
          };
          are = refl;
          few = omega (
            arith,
            fewer_more (last_of v.slot v.m) most_relays 0 (get_or v.slot at 0) (s.slots at h)
                (omega (arith, last_above v.slot v.m (get_or v.slot at 0) at h refl)),
          );
        }

    module _ {places : List ℕ} {count j : ℕ} (w : Swept places count j) where
      taken : j < v.m → movers v.home v.slot w.leaver (suc w.leaver) (v.m - suc w.leaver) ≡ j ∷ movers v.home v.slot j
          (suc j) (v.m - suc j)
      taken h =
          let a : v.m - j ≡ suc (v.m - suc j) = omega arith in
          movers_next v w.leaver j w.next
          ∙ ap (movers v.home v.slot w.leaver j) a
          ∙ movers_take v.home v.slot w.leaver j (v.m - suc j) (w.next.passed h)

      pub sweep_on : {r : ℕ} → j < v.m → Next v j r → Swept (set places count j) (count + 1) r
      sweep_on {r} h x =
          let k : ℕ = get_or v.slot w.leaver 0 in
          let fits : count < length places = omega (arith, swept_few w, w.size) in
          let rest : List ℕ = movers v.home v.slot j (suc j) (v.m - suc j) in
          record {
            leaver = j;
            inside = h;
            from = omega (arith, w.from, w.next.low);
            next = x;
            size = length-set places count j ∙ w.size;
            climbs = climbing_more places count at j r fits (omega (arith, w.from, w.next.low)) x.low w.climbs;
            are =
                ap (λ (z : ℕ). take z (set places count j) ++ rest) (add-one count)
                ∙ ap (λ (l : List ℕ). l ++ rest) (take-suc-set places count j fits)
                ∙ append_assoc (take count places) (j ∷ []) rest
                ∙ ap (λ (l : List ℕ). take count places ++ l) (sym (taken h))
                ∙ w.are;
            few = omega (
              arith,
              w.few,
              fewer_more (last_of v.slot v.m) most_relays (last_of v.slot v.m k) (get_or v.slot j 0) (s.slots j h)
                  (omega (
                    arith,
                    last_below v.slot v.m k j
                        (λ l a b e. s.shut w.leaver j l w.inside (w.next.passed h) a b e),
                    last_above v.slot v.m
                        (get_or v.slot j 0) j h refl,
                  )),
            );
          }

      pub sweep_end : v.m ≤ j → MoversAre v at (record { count = count; places = places })
      sweep_end h =
          let z : j ≡ v.m = omega (arith, w.next.high) in
          let a : v.m - j ≡ 0 = omega arith in
          let none : movers v.home v.slot w.leaver (suc w.leaver) (v.m - suc w.leaver) ≡ [] =
          movers_next v w.leaver j w.next ∙ ap (movers v.home v.slot w.leaver j) a
          ∙ unfold movers in refl in
          record {
            size = w.size;
            few = omega (arith, swept_few w);
            climbs = noted_climbs (omega (arith, w.size, swept_few w)) (rw z at w.climbs);
            are = sym (append-nil (take count places)) ∙ ap (λ (l : List ℕ). take count places ++ l) (sym none)
                ∙ w.are;
          }
