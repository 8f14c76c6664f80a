-- One relay less: the others in ring order, and the homes.
--   less_line       a slot before and afterwards
--   less_ordered    the keys are in ring order
--   less_home       and a home that lay behind the relay's slot is one slot nearer
-- Assumes nothing.
use mathlib.Core.List.{List}
use mathlib.Core.Path.{◌≡◌, sym, ap, ◌∙◌}
use Prim.Native.Nat.{ℕ, ◌+◌, ◌-◌, ◌*◌, ◌^◌, ◌≤◌, ◌<◌}
use native.Mathlib.Decide.{dec_lt}
use native.Mathlib.Omega.{arith}
use borrow.Author.Tests.{lt-ltb, le-ltb}
use lib.ListN.{get_or}
use Rattle.ring.specs.Most.{most_relays}
use Rattle.order.specs.Keys.{ring_key, slot_relay, Slot, Ordered}
use Rattle.home.specs.Home.{key_at, Home}
use Rattle.nearest.specs.Nearest.{Enters, itself, round, HomeAt}
use Rattle.ring_edit.specs.Shift.{skip, KeysLess}
use Rattle.ring_edit.specs.Homes.{home_less}
use Rattle.ring_edit.proofs.Skips.{Skip, low, high, skip_cases, skip_off, skip_one, skip_up, skip_below, Skipped, at, off, skipped}
use Rattle.ring_edit.proofs.Lines.{Line, key_place, key_lowered}

-- n + 1 relays in ring order at these positions, n of them without the one at slot s and place `out`
pub record Lessened (position position' keys keys' : List ℕ) (n s out : ℕ) : Type 0 where
  pub few : n < most_relays
  pub ordered : Ordered position (n + 1) keys
  pub below : s < n + 1
  pub is : slot_relay keys s ≡ out
  pub keys_less : KeysLess n s out keys keys'
  pub positions : (i : ℕ) → i < n → get_or position' i 0 ≡ get_or position (skip out i) 0

module _ {position position' keys keys' : List ℕ} {n s out : ℕ} (l : Lessened position position' keys keys' n s out)
  where
    out_below : out < n + 1
    out_below = rw (← l.is) (l.ordered.holds.relay s l.below)

    pub less_line : (k : ℕ) → k < n → Line position' keys' keys n s out k
    unfolding ring_key slot_relay
    less_line k h =
        go (skipped out n (slot_relay keys (skip s k)) out_below
        (l.ordered.holds.relay (skip s k) (skip_below s k n h)))
      where
        go : Skipped out n (slot_relay keys (skip s k)) → Line position' keys' keys n s out k
        go (at e) =
            absurd (skip_off s k (l.ordered.holds.apart.one (skip s k) s (skip_below s k n h) l.below
            (e ∙ sym l.is)))
        go (off i b e) =
            let was : get_or keys (skip s k) 0 ≡ get_or position' i 0 * 2 ^ 32 + skip out i =
            l.ordered.holds.key (skip s k) (skip_below s k n h) ∙ ap (ring_key position) e
            ∙ ap (λ (q : ℕ). q * 2 ^ 32 + skip out i) (sym (l.positions i b)) in
            let new : get_or keys' k 0 ≡ get_or position' i 0 * 2 ^ 32 + i =
            l.keys_less.others k h ∙ key_lowered out (get_or keys (skip s k) 0) (get_or position' i 0) i
            (omega (arith, skip_below out i n b, l.few)) was in
            record {
              place = i;
              below = b;
              relay = key_place (get_or keys' k 0) (get_or position' i 0) i (omega (arith, l.few)) new;
              moved = e;
              key = new;
              raised = was;
            }

    relay_moved : (k : ℕ) (h : k < n) → skip out (slot_relay keys' k) ≡ slot_relay keys (skip s k)
    relay_moved k h = ap (skip out) (less_line k h).relay ∙ sym (less_line k h).moved

    pub less_ordered : Ordered position' n keys'
    unfolding ring_key
    less_ordered = record {
      holds = record {
        size = l.keys_less.size;
        small = λ i h. rw (l.positions i h) (l.ordered.holds.small (skip out i) (skip_below out i n h));
        relay = λ k h. rw (less_line k h).relay (less_line k h).below;
        key = λ k h. rw (less_line k h).relay (less_line k h).key;
        every = every;
        apart = record {
          one = λ k m h i e.
              skip_one s k m (l.ordered.holds.apart.one (skip s k) (skip s m) (skip_below s k n h)
              (skip_below s m n i)
              (sym (relay_moved k h) ∙ ap (skip out) e ∙ relay_moved m i));
        };
      };
      rises = record {
        up = λ k m d h.
            let a = less_line k (omega arith) in
            let b = less_line m h in
            let u : get_or keys (skip s k) 0 ≤ get_or keys (skip s m) 0 =
            l.ordered.rises.up (skip s k) (skip s m) (skip_up s k m d) (skip_below s m n h) in
            rises k m a b u;
      };
    }
      where
        every : (i : ℕ) → i < n → Slot keys' n i
        every i h = go (l.ordered.holds.every (skip out i) (skip_below out i n h))
          where
            go : Slot keys (n + 1) (skip out i) → Slot keys' n i
            go t = pick (skipped s n t.slot l.below t.below)
              where
                pick : Skipped s n t.slot → Slot keys' n i
                pick (at e) = absurd (skip_off out i (sym t.is ∙ ap (slot_relay keys) e ∙ l.is))
                pick (off k b e) = record {
                  slot = k;
                  below = b;
                  is = skip_one out (slot_relay keys' k) i (relay_moved k b ∙ ap (slot_relay keys) (sym e) ∙ t.is);
                }

        rises : (k m : ℕ) (a : Line position' keys' keys n s out k) (b : Line position' keys' keys n s out m)
            → get_or keys (skip s k) 0 ≤ get_or keys (skip s m) 0 → get_or keys' k 0 ≤ get_or keys' m 0
        rises k m a b u = go (skip_cases out a.place) (skip_cases out b.place)
          where
            go : Skip out a.place → Skip out b.place → get_or keys' k 0 ≤ get_or keys' m 0
            go (low c d) (low e f) = omega (arith, a.key, b.key, a.raised, b.raised)
            go (low c d) (high e f) = omega (arith, a.key, b.key, a.raised, b.raised, l.few, a.below, b.below)
            go (high c d) (low e f) = omega (arith, a.key, b.key, a.raised, b.raised)
            go (high c d) (high e f) = omega (arith, a.key, b.key, a.raised, b.raised)

    -- ---- homes

    less_near : (q h : ℕ) → h ≤ s → Home keys (n + 1) (key_at q) h → Home keys' n (key_at q) h
    less_near q h b o = record {
      begins = record {
        within = omega (arith, l.below);
        passed = λ k d.
            let a = less_line k (omega (arith, l.below)) in
            pass k d a (skip_cases s k) (skip_cases out a.place);
      };
      ahead = λ k d e. let a = less_line k e in more k d e a (skip_cases s k) (skip_cases out a.place);
    }
      where
        pass : (k : ℕ) → k < h → (a : Line position' keys' keys n s out k) → Skip s k → Skip out a.place
            → get_or keys' k 0 < key_at q
        pass k d a (low c e) (low f g) = omega (arith, a.key, a.raised, o.begins.passed (skip s k) (omega arith))
        pass k d a (low c e) (high f g) = omega (arith, a.key, a.raised, o.begins.passed (skip s k) (omega arith))
        pass k d a (high c e) _ = absurd (omega arith)

        more : (k : ℕ) → h ≤ k → k < n → (a : Line position' keys' keys n s out k) → Skip s k → Skip out a.place
            → key_at q ≤ get_or keys' k 0
        more k d i a (low c e) (low f g) =
            omega (arith, a.key, a.raised, o.ahead (skip s k) (omega arith) (omega arith))
        more k d i a (low c e) (high f g) =
            omega (arith, a.key, a.raised, l.few, a.below, o.ahead (skip s k) (omega arith) (omega arith))
        more k d i a (high c e) (low f g) =
            omega (arith, a.key, a.raised, o.ahead (skip s k) (omega arith) (omega arith))
        more k d i a (high c e) (high f g) =
            omega (arith, a.key, a.raised, l.few, a.below, o.ahead (skip s k) (omega arith) (omega arith))

    less_far : (q h : ℕ) → s < h → Home keys (n + 1) (key_at q) h → Home keys' n (key_at q) (h - 1)
    less_far q h b o = record {
      begins = record {
        within = omega (arith, o.begins.within);
        passed = λ k d.
            let a = less_line k (omega (arith, o.begins.within)) in
            pass k d a (skip_cases s k) (skip_cases out a.place);
      };
      ahead = λ k d e. let a = less_line k e in more k d e a (skip_cases s k) (skip_cases out a.place);
    }
      where
        pass : (k : ℕ) → k < h - 1 → (a : Line position' keys' keys n s out k) → Skip s k → Skip out a.place
            → get_or keys' k 0 < key_at q
        pass k d a (low c e) (low f g) = omega (arith, a.key, a.raised, o.begins.passed (skip s k) (omega arith))
        pass k d a (low c e) (high f g) = omega (arith, a.key, a.raised, o.begins.passed (skip s k) (omega arith))
        pass k d a (high c e) (low f g) = omega (arith, a.key, a.raised, o.begins.passed (skip s k) (omega arith))
        pass k d a (high c e) (high f g) = omega (arith, a.key, a.raised, o.begins.passed (skip s k) (omega arith))

        more : (k : ℕ) → h - 1 ≤ k → k < n → (a : Line position' keys' keys n s out k) → Skip s k → Skip out a.place
            → key_at q ≤ get_or keys' k 0
        more k d i a (low c e) _ = absurd (omega arith)
        more k d i a (high c e) (low f g) =
            omega (arith, a.key, a.raised, o.ahead (skip s k) (omega arith) (omega arith))
        more k d i a (high c e) (high f g) =
            omega (arith, a.key, a.raised, l.few, a.below, o.ahead (skip s k) (omega arith) (omega arith))

    pub less_home : {q x : ℕ} → HomeAt keys (n + 1) q x → HomeAt keys' n q (home_less s x)
    unfolding home_less
    less_home {q} {x} o = go o.enters (dec_lt s o.slot)
      where
        go : Enters (n + 1) o.slot x → Dec (s < o.slot) → HomeAt keys' n q (home_less s x)
        go (itself e) (yes d) = record {
          slot = o.slot - 1;
          home = less_far q o.slot d o.home;
          enters = itself (rw (lt-ltb s x (omega arith)) (omega arith));
        }
        go (itself e) (no d) =
            record {
              slot = o.slot;
              home = less_near q o.slot (omega arith) o.home;
              enters = itself
                  (rw (le-ltb s x (omega arith)) e);
            }
        go (round e z) (yes d) = record {
          slot = o.slot - 1;
          home = less_far q o.slot d o.home;
          enters = round (omega arith) (rw (le-ltb s x (omega arith)) z);
        }
        go (round e z) (no d) = absurd (omega (arith, l.below))
