-- The ring and the homes of one relay table, from those of another.
--   surveyed_homes                  from a survey of right tables
--   taken_homes, put_homes          with one relay taken out, and put in
--   kept_homes                      with the same relays
-- Assumes nothing.
use mathlib.Core.List.{List}
use mathlib.Core.Path.{◌≡◌, sym, ap, ◌∙◌}
use Prim.Native.Nat.{ℕ, ◌+◌, ◌*◌, ◌^◌, ◌≤◌, ◌<◌}
use native.Mathlib.Decide.{dec_lt}
use native.Mathlib.Omega.{arith}
use lib.ListN.{get_or}
use Rattle.ring.specs.Most.{most_relays}
use Rattle.ring.specs.Scheme.{Positions}
use Rattle.tables.specs.Table.{relay_number, tablet_number}
use Rattle.tables.specs.Placement.{relay_positions}
use Rattle.tables.proofs.Loops.{array_at}
use Rattle.order.specs.Keys.{ring_key, slot_relay, Ordered}
use Rattle.home.specs.Home.{key_at, Home}
use Rattle.survey.specs.declared.Survey.{Survey}
use Rattle.survey.specs.Seats.{HomeByte, Surveyed}
use Rattle.nearest.specs.Nearest.{itself, round, HomeAt}
use Rattle.ring_edit.specs.declared.Around.{Around}
use Rattle.ring_edit.specs.Shift.{skip}
use Rattle.ring_edit.specs.Homes.{Homes, TakenOut, PutIn}
use Rattle.ring_edit.proofs.Skips.{skip_below}
use Rattle.ring_edit.proofs.Less.{Lessened, less_ordered, less_home}
use Rattle.ring_edit.proofs.More.{Grown, more_ordered}
use Rattle.ring_edit.proofs.Further.{more_home}

-- the position of the relay at place i
position_at : (p : Positions) (rs : List ℕ) (n i : ℕ) → n ≤ most_relays → i < n → get_or (relay_positions p rs n) i 0
    ≡ p.relay_at (relay_number rs i)
unfolding relay_positions
position_at p rs n i h l = array_at (λ k. p.relay_at (relay_number rs k)) n i h l

-- ---- from a survey

byte_home : {keys : List ℕ} {n q x : ℕ} → n ≤ most_relays → HomeByte keys n q x → HomeAt keys n q x
byte_home {n = n} {x = x} few b = elim (dec_lt b.slot most_relays) [
  | yes d ↦ record { slot = b.slot; home = b.home; enters = itself (omega (arith, b.is)) }
  | no d ↦ record {
    slot = b.slot;
    home = b.home;
    enters = round (omega (arith, b.home.begins.within))
        (omega (arith, b.is, b.home.begins.within));
  }
]

module _ {p : Positions} {rs ts : List ℕ} {n m : ℕ} {s : Survey} (few : n ≤ most_relays) (v : Surveyed p rs ts n m s) where
  pub surveyed_homes : ((t : ℕ) → t < m → p.tablet_at (tablet_number ts t) < 2 ^ 32)
      → Homes p rs ts n m s.keys s.home
  surveyed_homes small =
      record {
        ordered = v.ordered;
        size = v.seats.homes;
        small = small;
        from = λ t h. byte_home few
            (v.seats.from t h);
      }

-- ---- one relay taken out

pub taken_homes : {p : Positions} {rs own ts : List ℕ} {n m at : ℕ} {keys home : List ℕ} {r : Around} → n < most_relays
    → Homes p rs ts (n + 1) m keys home
    → TakenOut n m at keys home r → ((i : ℕ) → i < n → relay_number own i ≡ relay_number rs (skip at i))
    → Homes p own ts n m r.keys r.home
taken_homes {p} {rs} {own} {ts} {n} {m} {at} {keys} {home} {r} few o t same = record {
  ordered = less_ordered lessened;
  size = t.moved.size ∙ o.size;
  small = o.small;
  from = λ j h. rw (t.moved.moved j h) (less_home lessened (o.from j h));
}
  where
    lessened : Lessened (relay_positions p rs (n + 1)) (relay_positions p own n) keys r.keys n t.slot at
    lessened = record {
      few = few;
      ordered = o.ordered;
      below = t.below;
      is = t.is;
      keys_less = t.shorter;
      positions = λ i h.
          position_at p own n i (omega arith) h ∙ ap p.relay_at (same i h)
          ∙ sym (position_at p rs (n + 1) (skip at i) (omega arith) (skip_below at i n h));
    }

-- ---- one relay put in

pub put_homes : {p : Positions} {rs own ts : List ℕ} {n m at q : ℕ} {s : Survey} {r : Around} → n < most_relays
    → at ≤ n → q < 2 ^ 32
    → Surveyed p rs ts n m s → PutIn p ts n m at q s.keys s.home r
    → ((j : ℕ) → j < m → p.tablet_at (tablet_number ts j) < 2 ^ 32)
    → ((i : ℕ) → i < n → relay_number own (skip at i) ≡ relay_number rs i)
    → q ≡ p.relay_at (relay_number own at) → Homes p own ts (n + 1) m r.keys r.home
put_homes {p} {rs} {own} {ts} {n} {m} {at} {q} {s} {r = r} few within small v t smalls same here =
    record {
      ordered = more_ordered grown;
      size = t.moved.size ∙ v.seats.homes;
      small = smalls;
      from = λ j h. rw (t.moved.moved j h)
          (more_home grown (p.tablet_at (tablet_number ts j)) (smalls j h) (get_or s.home j 0) (own_home (v.seats.from j h)));
    }
  where
    grown : Grown (relay_positions p rs n) (relay_positions p own (n + 1)) s.keys r.keys n t.slot at q
    grown = record {
      few = few;
      ordered = v.ordered;
      within = within;
      small = small;
      from = t.from;
      keys_more = t.longer;
      positions = λ i h.
          position_at p own (n + 1) (skip at i) (omega arith) (skip_below at i n h) ∙ ap p.relay_at (same i h)
          ∙ sym (position_at p rs n i (omega arith) h);
      newcomer = position_at p own (n + 1) at (omega arith) (omega arith) ∙ sym here;
    }

    -- there are fewer relays than the most, so a byte has room for every home
    own_home : {z x : ℕ} → HomeByte s.keys n z x → Home s.keys n (key_at z) x
    own_home {z} {x} b = let e : x ≡ b.slot = omega (arith, b.is, b.home.begins.within) in rw e b.home

-- ---- the same relays

ordered_same : {position position' keys : List ℕ} {n : ℕ} → ((i : ℕ) → i < n → get_or position' i 0 ≡ get_or position i 0)
    → Ordered position n keys
    → Ordered position' n keys
unfolding ring_key
ordered_same {keys = keys} e o = record {
  holds = record {
    size = o.holds.size;
    small = λ i h. rw (e i h) (o.holds.small i h);
    relay = o.holds.relay;
    key = λ k h. o.holds.key k h ∙ ap (λ (x : ℕ). x * 2 ^ 32 + slot_relay keys k)
        (sym (e (slot_relay keys k) (o.holds.relay k h)));
    every = o.holds.every;
    apart = o.holds.apart;
  };
  rises = o.rises;
}

pub kept_homes : {p : Positions} {rs own ts : List ℕ} {n m : ℕ} {keys home : List ℕ} → n ≤ most_relays
    → ((i : ℕ) → i < n → relay_number own i ≡ relay_number rs i)
    → Homes p rs ts n m keys home → Homes p own ts n m keys home
kept_homes {p} {rs} {own} {n = n} few same o = record {
  ordered = ordered_same (λ i h. position_at p own n i few h ∙ ap p.relay_at (same i h)
      ∙ sym (position_at p rs n i few h)) o.ordered;
  size = o.size;
  small = o.small;
  from = o.from;
}
