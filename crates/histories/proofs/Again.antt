-- The paper's table of some entries, read again, is these entries.
--   ring_again, fit_again, lengths_again     both tables of a ring: they mean that ring, fit, and are as long as they were
-- Assumes nothing.
use mathlib.Core.Bool.{true, ◌&&◌}
use mathlib.Core.List.{List}
use mathlib.Core.Path.{◌≡◌, ◌∙◌}
use Prim.Native.Nat.{ℕ, zero, suc, ◌+◌, ◌*◌, ◌-◌, ◌/◌, ◌%◌, ◌≤◌, ◌<◌}
use native.Mathlib.Omega.{arith}
use borrow.Author.Tests.{eqb-true, lt-ltb}
use lib.Dec.{eqb, leb}
use lib.ListN.{length, get_or, replicate, length-append, length-replicate, get_or-replicate, get_or-append}
use lib.Seq.{get_or-append-add}
use Rattle.ring.specs.Most.{most_relays, most_tablets}
use Rattle.ring.proofs.Tests.{and_left}
use Rattle.rule.specs.Entry.{Entry}
use Rattle.rule.specs.Rule.{Ring}
use Rattle.rule.specs.Facts.{Table}
use Rattle.tables.specs.Table.{relay_places, is_whole, tablet_places, beside_in, number_in, places_of}
use Rattle.tables.specs.Shape.{used, relay_fits, tablet_fits, fits_in, used_in}
use Rattle.meaning.specs.Meaning.{places, rest_unused, ring_of, fit_tables}
use Rattle.meaning.specs.Ascending.{Ascending}
use Rattle.meaning.proofs.Places.{places_ext, places_table}
use Rattle.meaning.proofs.Shapes.{rest_from}
use Rattle.write.specs.Tables.{flat, filled, relay_table, tablet_table}
use Rattle.place.proofs.Sets.{first_of, second_of}
use Rattle.write.proofs.Filled.{length_flat}
use Rattle.roster.proofs.Blocks.{flat_places}

-- ---- how many places are in use

module _ (f : ℕ → ℕ) (n : ℕ) (some : (i : ℕ) → i < n → 0 < f i) where
  used_first : (k : ℕ) → k ≤ n → used f k ≡ k
  unfolding used
  used_first zero h = omega arith
  used_first (suc k) h = rw (lt-ltb 0 (f k) (some k (omega arith))) (omega (arith, used_first k (omega arith)))

  used_rest : (d : ℕ) → ((i : ℕ) → n ≤ i → i < n + d → f i ≡ 0) → used f (n + d) ≡ n
  unfolding used
  used_rest zero z =
      let a : n + 0 ≡ n = omega arith in
      rw a (used_first n (omega arith))
  used_rest (suc d) z =
      let a : n + suc d ≡ suc (n + d) = omega arith in
      let b : f (n + d) ≡ 0 = z (n + d) (omega arith) (omega arith) in
      rw (a, b) (omega (arith, used_rest d (λ i l h. z i l (omega arith))))

  used_is : (most : ℕ) → n ≤ most → ((i : ℕ) → n ≤ i → i < most → f i ≡ 0) → used f most ≡ n
  used_is most h z =
      let a : most ≡ n + (most - n) = omega arith in
      rw a (used_rest (most - n) (λ i l k. z i l (omega arith)))

-- ---- one table, two numbers to a place

record Again (l : List ℕ) (es : List Entry) (len : ℕ) : Type 0 where
  pub size : length l ≡ len
  pub entries : places (first_of l) (second_of l) (used (first_of l) (length l / 2)) ≡ es
  pub rest : rest_unused (first_of l) (second_of l) (used (first_of l) (length l / 2)) (length l / 2) ≡ true

module _ (es : List Entry) (len : ℕ) (room : length es ≤ len / 2) (whole : len % 2 ≡ 0) where
  abbrev rest : List ℕ
  rest = replicate (len - length (flat es)) 0

  length_filled : length (filled len (flat es)) ≡ len
  unfolding filled
  length_filled =
      omega (arith, length-append (flat es) rest, length-replicate {A = ℕ} (len - length (flat es)) 0, length_flat es)

  front : (i : ℕ) → i < 2 * length es → get_or (filled len (flat es)) i 0 ≡ get_or (flat es) i 0
  unfolding filled
  front i h = get_or-append (flat es) rest 0 i (omega (arith, length_flat es))

  behind : (i : ℕ) → 2 * length es ≤ i → i < len → get_or (filled len (flat es)) i 0 ≡ 0
  unfolding filled
  behind i h k =
      let j : ℕ = i - length (flat es) in
      let a : i ≡ length (flat es) + j = omega (arith, length_flat es) in
      rw a (get_or-append-add (flat es) rest j 0 ∙ get_or-replicate (len - length (flat es)) j 0 0
      (omega (arith, length_flat es)))

  entries_again : places (first_of (filled len (flat es))) (second_of (filled len (flat es))) (length es) ≡ es
  entries_again =
      places_ext (first_of (filled len (flat es))) (second_of (filled len (flat es))) (first_of (flat es))
      (second_of (flat es)) (length es)
      (λ i h. front (2 * i) (omega arith)) (λ i h. front (2 * i + 1) (omega arith))
      ∙ flat_places es

  zeros_again : (i : ℕ) → length es ≤ i → i < len / 2 → (first_of (filled len (flat es)) i ≡ 0)
      × (second_of (filled len (flat es)) i ≡ 0)
  zeros_again i h k = (behind (2 * i) (omega arith) (omega arith), behind (2 * i + 1) (omega arith) (omega arith))

  module _ (t : Table es) where
    ascending_again : Ascending (first_of (filled len (flat es))) (length es)
    ascending_again =
        places_table (first_of (filled len (flat es))) (second_of (filled len (flat es))) (length es) (rw entries_again t)

    used_again : used (first_of (filled len (flat es))) (len / 2) ≡ length es
    used_again =
        used_is (first_of (filled len (flat es))) (length es) ascending_again.numbered (len / 2) room
        (λ i h k. (zeros_again i h k).0)

    -- as long as it is to be, with as many places in use as there are entries, these entries in them, and zeros behind
    table_again : Again (filled len (flat es)) es len
    table_again =
        record {
          size = length_filled;
          entries = rw (length_filled, used_again) entries_again;
          rest = rw (length_filled, used_again)
              (rest_from (first_of (filled len (flat es))) (second_of (filled len (flat es))) (length es)
              (len / 2) zeros_again);
        }

-- ---- the two tables of a ring

even : (rs : List ℕ) (most : ℕ) → (eqb (length rs % 2) 0 && leb (length rs / 2) most) ≡ true → length rs % 2 ≡ 0
even rs most h = eqb-true (length rs % 2) 0 (and_left (eqb (length rs % 2) 0) (leb (length rs / 2) most) h)

-- whole places and not too many, in a list of the same length
fits_again : (rs l : List ℕ) (most : ℕ) → length l ≡ length rs → (eqb (length rs % 2) 0 && leb (length rs / 2) most)
    ≡ true
    → (eqb (length l % 2) 0 && leb (length l / 2) most) ≡ true
fits_again rs l most e h = rw e h

module _ (rs ts : List ℕ) (g : Ring) (relays_fit_lem : relay_fits rs ≡ true) (tablets_fit_lem : tablet_fits ts ≡ true)
    (relays : Table g.relays) (tablets : Table g.tablets)
    (relays_room : length g.relays ≤ relay_places rs) (tablets_room : length g.tablets ≤ tablet_places ts) where
  abbrev rs' : List ℕ
  rs' = relay_table (length rs) g

  abbrev ts' : List ℕ
  ts' = tablet_table (length ts) g

  relays_again : Again rs' g.relays (length rs)
  unfolding relay_table fits_in is_whole places_of
  relays_again = table_again g.relays (length rs) relays_room (even rs most_relays relays_fit_lem) relays

  tablets_again : Again ts' g.tablets (length ts)
  unfolding tablet_table fits_in is_whole places_of
  tablets_again = table_again g.tablets (length ts) tablets_room (even ts most_tablets tablets_fit_lem) tablets

  pub ring_again : ring_of rs' ts' ≡ g
  unfolding ring_of used_in places_of number_in beside_in
  ring_again = λ i. record { relays = relays_again.entries i; tablets = tablets_again.entries i }

  pub fit_again : fit_tables rs' ts' ≡ true
  unfolding fit_tables fits_in is_whole used_in places_of number_in beside_in
  fit_again =
      rw (
        fits_again rs rs' most_relays relays_again.size relays_fit_lem,
        fits_again ts ts' most_tablets
            tablets_again.size tablets_fit_lem,
        relays_again.rest,
      )
      tablets_again.rest

  pub lengths_again : (length rs' ≡ length rs) × (length ts' ≡ length ts)
  lengths_again = (relays_again.size, tablets_again.size)
