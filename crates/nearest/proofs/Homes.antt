-- From the slot that a position comes to first to the home that a walk by keys finds.
--   nearest_home    the first slot by distance is the home, and the first of all where the home is past the last
-- Assumes nothing.
use mathlib.Core.List.{List}
use mathlib.Core.Path.{◌≡◌, refl}
use Prim.Native.Nat.{ℕ, ◌+◌, ◌*◌, ◌/◌, ◌^◌, ◌≤◌, ◌<◌}
use native.Mathlib.Decide.{dec_lt}
use native.Mathlib.Omega.{arith}
use lib.ListN.{get_or}
use Rattle.ring.specs.Most.{most_relays}
use Rattle.ring.specs.Clockwise.{clockwise, distance}
use Rattle.order.specs.Keys.{ring_key, slot_relay, KeysRise, Ordered}
use Rattle.home.specs.Home.{key_at}
use Rattle.nearest.specs.Nearest.{Nearest, itself, round, HomeAt}
use Rattle.nearest.proofs.Nearer.{behind_is}

module _ {position keys : List ℕ} {n t k : ℕ} (few : n ≤ most_relays) (ring : Ordered position n keys)
    (below : t < 2 ^ 32)
    (o : Nearest keys n t k) where
  rises : KeysRise n keys
  rises = ring.rises

  small : (l : ℕ) → l < n → get_or keys l 0 < 2 ^ 64
  unfolding ring_key
  small l c =
      omega (
        arith,
        ring.holds.key l c,
        ring.holds.relay l c,
        ring.holds.small (slot_relay keys l)
            (ring.holds.relay l c),
      )

  -- slot l is no nearer
  behind : (l : ℕ) → l < n → clockwise t (get_or keys k 0 / 2 ^ 32) * 2 ^ 32 + k ≤ clockwise t
      (get_or keys l 0 / 2 ^ 32) * 2 ^ 32 + l
  unfolding distance
  behind l c = behind_is keys t k l (omega (arith, o.inside)) (omega arith) (o.first l c)

  pub nearest_home : HomeAt keys n t k
  unfolding clockwise
  nearest_home = go (dec_lt (get_or keys k 0) (key_at t))
    where
      go : Dec (get_or keys k 0 < key_at t) → HomeAt keys n t k
      go (no a) = record {
        slot = k;
        home = record {
          begins = record {
            within = omega (arith, o.inside);
            passed = λ l c. let b : k < n = omega (arith, o.inside) in omega
                (arith, behind l (omega arith), rises.up l k c b, small k b);
          };
          ahead = λ l c d. onward l c d (dec_lt k l);
        };
        enters = itself refl;
      }
        where
          onward : (l : ℕ) → k ≤ l → l < n → Dec (k < l) → key_at t ≤ get_or keys l 0
          onward l c d (yes b) = omega (arith, rises.up k l b d)
          onward l c d (no b) = let e : l ≡ k = omega arith in rw e (omega arith)
      go (yes a) = record {
        slot = n;
        home = record {
          begins = record { within = omega arith; passed = λ l c. omega (arith, behind l c, small l c) };
          ahead = λ l c d. absurd (omega arith);
        };
        enters = round refl (lowest (dec_lt 0 k));
      }
        where
          lowest : Dec (0 < k) → k ≡ 0
          lowest (yes b) =
              absurd (omega (arith, behind 0 (omega (arith, o.inside)), rises.up 0 k b (omega (arith, o.inside))))
          lowest (no b) = omega arith
