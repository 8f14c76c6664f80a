-- Lent tables are right, as the loops find out, exactly where they fit and their entries are right by document 01.
--   same_test         two tests that follow from one another are one
--   right_meaning     the two tests are one
--   right_rises       what right tables give to a loop
--   right_found       each tablet's relay is found, and is the one written there
--   right_room        the room that the first tablets leave
-- Assumes nothing.
use mathlib.Core.Bool.{Bool, true, false, ◌&&◌}
use mathlib.Core.Path.{◌≡◌, refl, sym, ap}
use mathlib.Core.List.{List}
use Prim.Native.Nat.{ℕ, ◌-◌, ◌≤◌, ◌<◌}
use native.Mathlib.Omega.{arith}
use borrow.Author.Tests.{ltb-true, ltb-false}
use lib.Dec.{ltb}
use lib.ListN.{get_or}
use Rattle.ring.specs.Most.{top_number, most_relays, most_tablets, most_limit}
use Rattle.ring.specs.Scheme.{Positions, positions}
use Rattle.ring.proofs.Tests.{split, and_left, and_right}
use Rattle.rule.specs.Entry.{Entry, load}
use Rattle.rule.specs.Rule as Rule
use Rattle.rule.specs.Facts.{Right}
use Rattle.rule.proofs.Right as Right
use Rattle.tables.specs.Table.{relay_places, relay_number, relay_limit, is_whole, tablet_places, tablet_number, tablet_relay}
use Rattle.tables.specs.Shape.{relays_used, tablets_used, relay_fits, tablet_fits, shape, table_shape, used_in}
use Rattle.tables.specs.Placement as Lent
use Rattle.tables.proofs.Shaped.{used_most}
use Rattle.meaning.specs.Meaning.{tablets_in, ring_of, fit_tables, tables_right, Words}
use Rattle.meaning.specs.Rising.{Ruled, Rises}
use Rattle.meaning.proofs.Places.{length_places, table_places, places_table, limits_places, places_limits}
use Rattle.meaning.proofs.Words.{relay_number_word, tablet_number_word, tablet_relay_word, relay_beyond, tablet_beyond}
use Rattle.meaning.proofs.Fit.{Fit, whole_relays, whole_tablets, right_fit, right_ruled}
use Rattle.meaning.proofs.Shapes.{Shaped, shape_is, shape_from, rest_is, rest_from}
use Rattle.meaning.proofs.Run.{run_room}
use Rattle.meaning.proofs.Placed.{Found, found_seated, placed_is, ruled_found, placed_from}

-- what both tests come to
record Facts (p : Positions) (rs ts : List ℕ) (n m : ℕ) : Type 0 where
  pub relays_fit : relay_fits rs ≡ true
  pub tablets_fit : tablet_fits ts ≡ true
  pub relays : Shaped most_limit (relay_number rs) (relay_limit rs) n (relay_places rs)
  pub tablets : Shaped top_number (tablet_number ts) (tablet_relay ts) m (tablet_places ts)
  pub ruled : Ruled p rs ts n m

-- two tests that follow from one another are one
pub same_test : (a b : Bool) → (a ≡ true → b ≡ true) → (b ≡ true → a ≡ true) → a ≡ b
same_test true b f g = sym (f refl)
same_test false true f g = g refl
same_test false false f g = refl

module _ (p : Positions) (rs ts : List ℕ) where
  abbrev n : ℕ
  n = relays_used rs

  abbrev m : ℕ
  m = tablets_used ts

  n_most : n ≤ relay_places rs
  unfolding used_in
  n_most = used_most (relay_number rs) (relay_places rs)

  m_most : m ≤ tablet_places ts
  unfolding used_in
  m_most = used_most (tablet_number ts) (tablet_places ts)

  facts_few : Facts p rs ts n m → n ≤ most_relays
  facts_few f = omega (arith, n_most, (whole_relays rs f.relays_fit).1)

  facts_lent : Facts p rs ts n m → Lent.right p rs ts ≡ true
  unfolding Lent.right table_shape
  facts_lent f =
      rw (
        f.relays_fit,
        f.tablets_fit,
        shape_from most_limit (relay_number rs) (relay_limit rs) n (relay_places rs) n_most f.relays,
        shape_from top_number (tablet_number ts) (tablet_relay ts) m (tablet_places ts) m_most f.tablets,
      )
      (placed_from p rs ts n m (facts_few f) f.relays.numbers f.tablets.numbers f.ruled)

  facts_ring : Facts p rs ts n m → Right p (ring_of rs ts)
  unfolding ring_of
  facts_ring f =
      record {
        relays = table_places (relay_limit rs) f.relays.numbers;
        limits = limits_places (relay_number rs) (relay_limit rs) n f.relays.beside;
        tablets = table_places (tablet_relay ts) f.tablets.numbers;
        enough = omega (arith, f.ruled.enough, length_places (tablet_number ts) (tablet_relay ts) m);
        ruled = f.ruled.filled;
      }

  facts_rule : Facts p rs ts n m → (fit_tables rs ts && Rule.right p (ring_of rs ts)) ≡ true
  unfolding fit_tables
  facts_rule f =
      rw (
        f.relays_fit,
        f.tablets_fit,
        rest_from (relay_number rs) (relay_limit rs) n (relay_places rs) f.relays.rest,
        rest_from (tablet_number ts) (tablet_relay ts) m (tablet_places ts) f.tablets.rest,
      )
      (Right.right_from p (ring_of rs ts) (facts_ring f))

  facts_rises : Facts p rs ts n m → Rises p rs ts n m
  facts_rises f =
      let fr : (is_whole rs ≡ true) × (relay_places rs ≤ most_relays) = whole_relays rs f.relays_fit in
      let ft : (is_whole ts ≡ true) × (tablet_places ts ≤ most_tablets) = whole_tablets ts f.tablets_fit in
      record {
        relays_fit = omega (arith, n_most);
        tablets_fit = omega (arith, m_most);
        relays = f.relays.numbers;
        tablets = f.tablets.numbers;
        limits = f.relays.beside;
        relays_rest = λ i h. split (ltb i (relay_places rs))
            (λ s. f.relays.rest i h (ltb-true i (relay_places rs) s))
            (λ s. relay_beyond rs i fr.0 (ltb-false i (relay_places rs) s));
        tablets_rest = λ j h. split (ltb j (tablet_places ts))
            (λ s. f.tablets.rest j h (ltb-true j (tablet_places ts) s))
            (λ s. tablet_beyond ts j ft.0 (ltb-false j (tablet_places ts) s));
        relay_table = table_places (relay_limit rs) f.relays.numbers;
        tablet_table = table_places (tablet_relay ts) f.tablets.numbers;
        ruled = f.ruled;
        ring = facts_ring f;
      }

  module _ (wr : Words rs) (wt : Words ts) where
    lent_facts : Lent.right p rs ts ≡ true → Facts p rs ts n m
    unfolding Lent.right table_shape
    lent_facts e =
        let k₁ : Bool = relay_fits rs in
        let k₂ : Bool = shape most_limit (relay_number rs) (relay_limit rs) n (relay_places rs) in
        let k₃ : Bool = tablet_fits ts in
        let k₄ : Bool = shape top_number (tablet_number ts) (tablet_relay ts) m (tablet_places ts) in
        let k₅ : Bool = Lent.placed p rs ts n m in
        let r : (k₁ && k₂) ≡ true = and_left (k₁ && k₂) ((k₃ && k₄) && k₅) e in
        let e₁ : ((k₃ && k₄) && k₅) ≡ true = and_right (k₁ && k₂) ((k₃ && k₄) && k₅) e in
        let t : (k₃ && k₄) ≡ true = and_left (k₃ && k₄) k₅ e₁ in
        let sr : Shaped most_limit (relay_number rs) (relay_limit rs) n (relay_places rs) =
        shape_is most_limit (relay_number rs) (relay_limit rs) n (relay_places rs) (relay_number_word wr)
        (and_right k₁ k₂ r) in
        let fr : k₁ ≡ true = and_left k₁ k₂ r in
        record {
          relays_fit = fr;
          tablets_fit = and_left k₃ k₄ t;
          relays = sr;
          tablets = shape_is top_number (tablet_number ts) (tablet_relay ts) m (tablet_places ts) (tablet_number_word wt)
              (and_right k₃ k₄ t);
          ruled = placed_is p rs ts n m (omega (arith, n_most, (whole_relays rs fr).1)) sr.numbers
              (and_right (k₃ && k₄) k₅ e₁);
        }

    rule_facts : Fit rs ts → Rule.right p (ring_of rs ts) ≡ true → Facts p rs ts n m
    unfolding ring_of
    rule_facts f e =
        let r : Right p (ring_of rs ts) = Right.right_is p (ring_of rs ts) e in
        record {
          relays_fit = f.relays;
          tablets_fit = f.tablets;
          relays =
              record {
                numbers = places_table (relay_number rs) (relay_limit rs) n r.relays;
                beside = places_limits (relay_number rs) (relay_limit rs) n r.limits;
                rest = rest_is (relay_number rs) (relay_limit rs) n (relay_places rs) f.relays_rest;
              };
          tablets =
              record {
                numbers = places_table (tablet_number ts) (tablet_relay ts) m r.tablets;
                beside = λ j h. omega (arith, tablet_relay_word wt j);
                rest = rest_is (tablet_number ts) (tablet_relay ts) m (tablet_places ts) f.tablets_rest;
              };
          ruled = record {
            enough = omega (arith, r.enough, length_places (tablet_number ts) (tablet_relay ts) m);
            filled = r.ruled;
          };
        }

-- ---- the laws

module _ (s : ℕ) (rs ts : List ℕ) (wr : Words rs) (wt : Words ts) where
  right_facts : tables_right s rs ts ≡ true → Facts (positions s) rs ts (relays_used rs) (tablets_used ts)
  right_facts ok = rule_facts (positions s) rs ts wr wt (right_fit rs ts s ok) (right_ruled rs ts s ok)

  pub right_meaning : Lent.right (positions s) rs ts ≡ tables_right s rs ts
  unfolding tables_right
  right_meaning =
      same_test (Lent.right (positions s) rs ts) (tables_right s rs ts)
      (λ e. facts_rule (positions s) rs ts (lent_facts (positions s) rs ts wr wt e))
      (λ e. facts_lent (positions s) rs ts (right_facts e))

  pub right_rises : tables_right s rs ts ≡ true → Rises (positions s) rs ts (relays_used rs) (tablets_used ts)
  right_rises e = facts_rises (positions s) rs ts (right_facts e)

module _ {p : Positions} {rs ts : List ℕ} {n m : ℕ} (r : Rises p rs ts n m) where
  -- each tablet's relay is found, and is the one written there
  pub right_found : (j : ℕ) → j < m → Found p rs ts n j
  right_found = ruled_found p rs ts n m r.relays_fit.few r.relays r.tablets r.ruled

  -- the room that the first k tablets leave is the limits less the loads
  pub right_room : (k : ℕ) → k ≤ m → (i : ℕ) → i < n → get_or (Lent.room_after p rs ts n k) i 0 ≡ relay_limit rs i - load
      (tablets_in ts k) (relay_number rs i)
  right_room k h i l =
      omega (
        arith,
        run_room p rs ts n r.relays_fit.few r.relays k (omega (arith, r.ruled.enough)) i l,
        ap (λ (x : List Entry). load x (relay_number rs i))
            (found_seated p rs ts n k (λ j u. right_found j (omega arith))),
      )
