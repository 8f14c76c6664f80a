-- The slot that a position comes to first, one slot after the other.
--   behind_is, behind_from     that a slot does not stand ahead of another, in numbers
--   scanned_one, scanned_closer, scanned_stays, scanned_end    the first of one slot, of one more, which is nearer or not, and of all
-- Assumes nothing.
use mathlib.Core.Bool.{false}
use mathlib.Core.List.{List}
use mathlib.Core.Path.{◌≡◌, sym, ◌∙◌}
use Prim.Native.Nat.{ℕ, ◌+◌, ◌-◌, ◌*◌, ◌^◌, ◌≤◌, ◌<◌}
use native.Mathlib.Decide.{dec_lt}
use native.Mathlib.Omega.{arith}
use borrow.Author.Tests.{ltb-false, le-ltb}
use Rattle.ring.specs.Most.{most_relays}
use Rattle.ring.specs.Clockwise.{distance, sooner, key}
use Rattle.ring.proofs.Order.{sooner_key}
use Rattle.nearest.specs.Nearest.{in_slots, Nearest}

module _ (keys : List ℕ) (t k l : ℕ) (hk : k < most_relays) (hl : l < most_relays) where
  pub behind_is : sooner (in_slots keys) t l k ≡ false → distance (in_slots keys) t k * 2 ^ 32 + k ≤ distance
      (in_slots keys) t l * 2 ^ 32 + l
  unfolding key
  behind_is e =
      ltb-false (key (in_slots keys) t l) (key (in_slots keys) t k)
      (sym (sooner_key (in_slots keys) t l k (omega arith) (omega arith)) ∙ e)

  pub behind_from : distance (in_slots keys) t k * 2 ^ 32 + k ≤ distance (in_slots keys) t l * 2 ^ 32 + l
      → sooner (in_slots keys) t l k ≡ false
  unfolding key
  behind_from h =
      sooner_key (in_slots keys) t l k (omega arith) (omega arith)
      ∙ le-ltb (key (in_slots keys) t l) (key (in_slots keys) t k) h

-- of the first k of n slots t comes to `first` first, and `least` is how far that is; the first slot is looked at even where there is none
pub record Scanned (keys : List ℕ) (n t first least k : ℕ) : Type 0 where
  pub some : 0 < k
  pub within : k ≤ n + (1 - n)
  pub far : least ≡ distance (in_slots keys) t first
  pub nearest : Nearest keys k t first

module _ {keys : List ℕ} {n t : ℕ} where
  pub scanned_one : (d : ℕ) → d ≡ distance (in_slots keys) t 0 → Scanned keys n t 0 d 1
  scanned_one d e = record {
    some = omega arith;
    within = omega arith;
    far = e;
    nearest = record {
      inside = omega arith;
      first = λ l c. let z : l ≡ 0 = omega arith in rw z
          (behind_from keys t 0 0 (omega arith) (omega arith) (omega arith));
    };
  }

  module _ (few : n ≤ most_relays) {first least k : ℕ} (o : Scanned keys n t first least k) (on : k < n) (d : ℕ)
      (e : d ≡ distance (in_slots keys) t k) where
    inside : first < k
    inside = omega (arith, o.some, o.nearest.inside)

    pub scanned_closer : d < least → Scanned keys n t k d (k + 1)
    scanned_closer h =
        record {
          some = omega arith;
          within = omega arith;
          far = e;
          nearest = record { inside = omega arith; first = λ l c. go l c (dec_lt l k) };
        }
      where
        go : (l : ℕ) → l < k + 1 → Dec (l < k) → sooner (in_slots keys) t l k ≡ false
        go l c (yes a) =
            let was = behind_is keys t first l (omega (arith, inside)) (omega arith) (o.nearest.first l a) in
            behind_from keys t k l (omega arith) (omega arith) (omega (arith, o.far, inside))
        go l c (no a) =
            let z : l ≡ k = omega arith in rw z (behind_from keys t k k (omega arith) (omega arith) (omega arith))

    pub scanned_stays : least ≤ d → Scanned keys n t first least (k + 1)
    scanned_stays h = record {
      some = omega arith;
      within = omega arith;
      far = o.far;
      nearest = record { inside = omega (arith, inside); first = λ l c. go l c (dec_lt l k) };
    }
      where
        go : (l : ℕ) → l < k + 1 → Dec (l < k) → sooner (in_slots keys) t l first ≡ false
        go l c (yes a) = o.nearest.first l a
        go l c (no a) =
            let z : l ≡ k = omega arith in rw z (behind_from keys t first k (omega (arith, inside)) (omega arith)
            (omega (arith, o.far, inside)))

  pub scanned_end : {first least k : ℕ} → n ≤ k → Scanned keys n t first least k → Nearest keys n t first
  scanned_end h o =
      record { inside = omega (arith, o.nearest.inside, o.within); first = λ l c. o.nearest.first l (omega arith) }
