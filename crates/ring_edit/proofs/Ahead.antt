-- The new relay at slot s, and the relay that was there before, which is behind it now: which of the two a tablet comes to first, if its
-- home was there.
--   after_on, after_round, more_before, more_behind, more_here    the two definitions by cases
--   old_first    past the new relay the old one, round the top of the ring
--   new_first    on this side of it the new one
--   new_alone    where there was no relay, the new one is both
-- Assumes nothing.
use mathlib.Core.Bool.{Bool, true, false, cond}
use mathlib.Core.List.{List}
use mathlib.Core.Path.{◌≡◌, sym, ap, ◌∙◌}
use Prim.Native.Nat.{ℕ, ◌+◌, ◌-◌, ◌*◌, ◌/◌, ◌%◌, ◌^◌, ◌≤◌, ◌<◌}
use native.Mathlib.Decide.{dec_lt}
use native.Mathlib.Omega.{arith}
use borrow.Author.Tests.{lt-ltb, le-ltb}
use lib.Dec.{ltb}
use lib.ListN.{get_or}
use Rattle.ring.specs.Most.{most_relays}
use Rattle.ring.specs.Clockwise.{clockwise, distance, sooner, key}
use Rattle.ring.proofs.Order.{sooner_key}
use Rattle.ring.proofs.Round.{clockwise_on, clockwise_round}
use Rattle.home.specs.Home.{key_at, Home}
use Rattle.nearest.specs.Nearest.{in_slots}
use Rattle.ring_edit.specs.Shift.{skip}
use Rattle.ring_edit.specs.Homes.{slot_after, home_more}
use Rattle.ring_edit.proofs.Skips.{skip_low, skip_high, skip_below}
use Rattle.ring_edit.proofs.More.{Grown, more_line}

pub after_on : (n s : ℕ) → s < n → slot_after n s ≡ s + 1
unfolding slot_after
after_on n s h = rw (lt-ltb s n h)

pub after_round : (n s : ℕ) → n ≤ s → slot_after n s ≡ 0
unfolding slot_after
after_round n s h = rw (le-ltb s n h)

-- ---- by where the home was

module _ (keys : List ℕ) (s k t h : ℕ) where
  pub more_before : h < s → home_more keys s k t h ≡ h
  unfolding home_more
  more_before c = rw (lt-ltb h s c)

  pub more_behind : s < h → home_more keys s k t h ≡ (h + 1) % most_relays
  unfolding home_more
  more_behind c = rw (le-ltb h s (omega arith), lt-ltb s h c)

  pub more_here : (b : Bool) → h ≡ s → sooner (in_slots keys) t k s ≡ b → home_more keys s k t h
      ≡ cond b ((h + 1) % most_relays) h
  unfolding home_more
  more_here b e p = rw (le-ltb h s (omega arith), le-ltb s h (omega arith), p)

-- ---- there: which of the two comes first

module _ {position position' keys keys' : List ℕ} {n s new q : ℕ} (l : Grown position position' keys keys' n s new q)
    (t : ℕ) where
  -- where slot k of the new ring stands, and how far that is with the slot
  abbrev at : ℕ → ℕ
  at k = get_or keys' k 0 / 2 ^ 32

  abbrev far : ℕ → ℕ
  far k = clockwise t (at k) * 2 ^ 32 + k

  sooner_far : (k m : ℕ) → k < 2 ^ 32 → m < 2 ^ 32 → sooner (in_slots keys') t k m ≡ ltb (far k) (far m)
  unfolding key distance
  sooner_far k m = sooner_key (in_slots keys') t k m

  new_at : at s ≡ q
  new_at = omega (arith, l.keys_more.one, l.within, l.few)

  -- the relay that was at slot k has its old position
  old_at : (k : ℕ) → k < n → at (skip s k) ≡ get_or keys k 0 / 2 ^ 32
  old_at k h =
      let a = more_line l k h in
      omega (arith, a.key, a.raised, a.below, skip_below new a.place n a.below, l.few)

  pub new_alone : n ≡ 0 → sooner (in_slots keys') t (slot_after n s) s ≡ false
  new_alone e =
      let z : s ≡ 0 = omega (arith, l.from.begins.within) in
      rw (after_round n s (omega arith), z) (sooner_far 0 0 (omega arith) (omega arith)
      ∙ le-ltb (far 0) (far 0) (omega arith))

  module _ (small : t < 2 ^ 32) (o : Home keys n (key_at t) s) where
    few : s < 2 ^ 32 - 1
    few = omega (arith, l.from.begins.within, l.few)

    -- the old home stands at t or past it, or round the top of the ring, before t
    old_near : (b : s < n) → far (s + 1) ≡ (get_or keys s 0 / 2 ^ 32 - t) * 2 ^ 32 + (s + 1)
    old_near b =
        let a = more_line l s b in
        let e : at (s + 1) ≡ get_or keys s 0 / 2 ^ 32 = ap at (sym (skip_high s s (omega arith))) ∙ old_at s b in
        let c : clockwise t (at (s + 1)) ≡ at (s + 1) - t =
        clockwise_on t (at (s + 1)) (omega (arith, o.ahead s (omega arith) b))
        (omega (arith, a.key, a.below, l.few, l.ordered.holds.small a.place a.below)) in
        omega (arith, c, e)

    old_round : n ≤ s → 0 < n → far 0 ≡ (get_or keys 0 0 / 2 ^ 32 + (2 ^ 32 - t)) * 2 ^ 32
    old_round b d =
        let e : at 0 ≡ get_or keys 0 0 / 2 ^ 32 = ap at (sym (skip_low s 0 (omega arith))) ∙ old_at 0 d in
        let c : clockwise t (at 0) ≡ at 0 + (2 ^ 32 - t) = clockwise_round t (at 0)
        (omega (arith, o.begins.passed 0 (omega arith))) small in
        omega (arith, c, e)

    pub old_first : q < t → 0 < n → sooner (in_slots keys') t (slot_after n s) s ≡ true
    old_first c d = go (dec_lt s n)
      where
        new_far : far s ≡ (q + (2 ^ 32 - t)) * 2 ^ 32 + s
        new_far =
            let z : clockwise t q ≡ q + (2 ^ 32 - t) = clockwise_round t q c small in omega
            (arith, ap (clockwise t) new_at)

        go : Dec (s < n) → sooner (in_slots keys') t (slot_after n s) s ≡ true
        go (yes b) =
            let a = more_line l s b in
            rw (after_on n s b)
            (sooner_far (s + 1) s (omega (arith, few)) (omega (arith, few))
            ∙ lt-ltb (far (s + 1)) (far s)
            (omega (
              arith,
              old_near b,
              new_far,
              a.key,
              a.below,
              l.few,
              l.ordered.holds.small a.place
                  a.below,
            )))
        go (no b) =
            rw (after_round n s (omega arith))
            (sooner_far 0 s (omega arith) (omega (arith, few))
            ∙ lt-ltb (far 0) (far s) (omega (
              arith,
              old_round (omega arith) d,
              new_far,
              l.from.begins.passed 0
                  (omega arith),
            )))

    pub new_first : t ≤ q → sooner (in_slots keys') t (slot_after n s) s ≡ false
    new_first c = go (dec_lt s n) (dec_lt 0 n)
      where
        new_far : far s ≡ (q - t) * 2 ^ 32 + s
        new_far =
            let z : clockwise t q ≡ q - t = clockwise_on t q c l.small in omega (arith, ap (clockwise t) new_at)

        go : Dec (s < n) → Dec (0 < n) → sooner (in_slots keys') t (slot_after n s) s ≡ false
        go (yes b) _ =
            rw (after_on n s b)
            (sooner_far (s + 1) s (omega (arith, few)) (omega (arith, few))
            ∙ le-ltb (far (s + 1)) (far s) (omega (arith, old_near b, new_far, l.from.ahead s (omega arith) b)))
        go (no b) (yes d) =
            rw (after_round n s (omega arith))
            (sooner_far 0 s (omega arith) (omega (arith, few))
            ∙ le-ltb (far 0) (far s) (omega (arith, old_round (omega arith) d, new_far, few, l.small)))
        go (no b) (no d) = new_alone (omega arith)
