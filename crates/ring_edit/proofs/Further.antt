-- One relay more, and the homes.
--   more_home    a home is one slot further on where it stands behind the new relay's slot, or there and comes first
-- Assumes nothing.
use mathlib.Core.Bool.{true, false}
use mathlib.Core.List.{List}
use mathlib.Core.Path.{◌≡◌, refl}
use Prim.Native.Nat.{ℕ, ◌+◌, ◌%◌, ◌^◌, ◌≤◌, ◌<◌}
use native.Mathlib.Decide.{dec_lt}
use native.Mathlib.Omega.{arith}
use lib.ListN.{get_or}
use Rattle.ring.specs.Most.{most_relays}
use Rattle.home.specs.Home.{key_at, Home}
use Rattle.nearest.specs.Nearest.{Enters, itself, round, HomeAt}
use Rattle.ring_edit.specs.Shift.{skip}
use Rattle.ring_edit.specs.Homes.{slot_after, home_more}
use Rattle.ring_edit.proofs.Skips.{Skip, low, high, skip_cases, Skipped, at, off, skipped}
use Rattle.ring_edit.proofs.Lines.{Line}
use Rattle.ring_edit.proofs.More.{Grown, new_below, more_line}
use Rattle.ring_edit.proofs.Ahead.{more_before, more_behind, more_here, old_first, new_first, new_alone}

module _ {position position' keys keys' : List ℕ} {n s new q : ℕ} (l : Grown position position' keys keys' n s new q)
  where
    -- a tablet at position t, whose home was h, on this side of the new relay, or past it
    more_near : (t h : ℕ) → h ≤ s → (h ≡ s → t ≤ q) → Home keys n (key_at t) h → Home keys' (n + 1) (key_at t) h
    more_near t h b c o = record {
      begins = record {
        within = omega (arith, o.begins.within);
        passed = λ u d. pass u d (skipped s n u (new_below l) (omega (arith, o.begins.within)));
      };
      ahead = λ u d e. more u d (skipped s n u (new_below l) e);
    }
      where
        pass : (u : ℕ) → u < h → Skipped s n u → get_or keys' u 0 < key_at t
        pass u d (at e) = absurd (omega arith)
        pass u d (off k i e) = let a = more_line l k i in rw e (go a (skip_cases s k) (skip_cases new a.place))
          where
            go : (a : Line position keys keys' n s new k) → Skip s k → Skip new a.place
                → get_or keys' (skip s k) 0 < key_at t
            go a (low f g) (low v w) = omega (arith, a.key, a.raised, o.begins.passed k (omega arith))
            go a (low f g) (high v w) =
                omega (arith, a.key, a.raised, a.below, l.few, o.begins.passed k (omega arith))
            go a (high f g) _ = absurd (omega arith)

        more : (u : ℕ) → h ≤ u → Skipped s n u → key_at t ≤ get_or keys' u 0
        more u d (at e) = rw (e, l.keys_more.one) (go (dec_lt h s))
          where
            go : Dec (h < s) → key_at t ≤ key_at q + new
            go (yes f) =
                omega (
                  arith,
                  o.ahead h (omega arith) (omega (arith, l.from.begins.within)),
                  l.from.begins.passed h
                      f,
                )
            go (no f) = omega (arith, c (omega arith))
        more u d (off k i e) = let a = more_line l k i in rw e (go a (skip_cases s k) (skip_cases new a.place))
          where
            go : (a : Line position keys keys' n s new k) → Skip s k → Skip new a.place
                → key_at t ≤ get_or keys' (skip s k) 0
            go a (low f g) (low v w) = omega (arith, a.key, a.raised, o.ahead k (omega arith) i)
            go a (low f g) (high v w) = omega (arith, a.key, a.raised, o.ahead k (omega arith) i)
            go a (high f g) (low v w) = omega (arith, a.key, a.raised, o.ahead k (omega arith) i)
            go a (high f g) (high v w) = omega (arith, a.key, a.raised, o.ahead k (omega arith) i)

    more_far : (t h : ℕ) → s ≤ h → (h ≡ s → q < t) → Home keys n (key_at t) h → Home keys' (n + 1) (key_at t) (h + 1)
    more_far t h b c o = record {
      begins = record {
        within = omega (arith, o.begins.within);
        passed = λ u d. pass u d (skipped s n u (new_below l) (omega (arith, o.begins.within)));
      };
      ahead = λ u d e. more u d (skipped s n u (new_below l) e);
    }
      where
        pass : (u : ℕ) → u < h + 1 → Skipped s n u → get_or keys' u 0 < key_at t
        pass u d (at e) = rw (e, l.keys_more.one) (go (dec_lt s h))
          where
            go : Dec (s < h) → key_at q + new < key_at t
            go (yes f) =
                omega (arith, o.begins.passed s f, l.from.ahead s (omega arith) (omega (arith, o.begins.within)))
            go (no f) = omega (arith, c (omega arith), l.within, l.few)
        pass u d (off k i e) = let a = more_line l k i in rw e (go a (skip_cases s k) (skip_cases new a.place))
          where
            go : (a : Line position keys keys' n s new k) → Skip s k → Skip new a.place
                → get_or keys' (skip s k) 0 < key_at t
            go a (low f g) (low v w) = omega (arith, a.key, a.raised, o.begins.passed k (omega arith))
            go a (low f g) (high v w) =
                omega (arith, a.key, a.raised, a.below, l.few, o.begins.passed k (omega arith))
            go a (high f g) (low v w) = omega (arith, a.key, a.raised, o.begins.passed k (omega arith))
            go a (high f g) (high v w) =
                omega (arith, a.key, a.raised, a.below, l.few, o.begins.passed k (omega arith))

        more : (u : ℕ) → h + 1 ≤ u → Skipped s n u → key_at t ≤ get_or keys' u 0
        more u d (at e) = absurd (omega arith)
        more u d (off k i e) = let a = more_line l k i in rw e (go a (skip_cases s k) (skip_cases new a.place))
          where
            go : (a : Line position keys keys' n s new k) → Skip s k → Skip new a.place
                → key_at t ≤ get_or keys' (skip s k) 0
            go a (low f g) _ = absurd (omega arith)
            go a (high f g) (low v w) = omega (arith, a.key, a.raised, o.ahead k (omega arith) i)
            go a (high f g) (high v w) = omega (arith, a.key, a.raised, o.ahead k (omega arith) i)

    -- where a walk enters the ring from a home one slot further on
    enters_next : (h : ℕ) → h ≤ n → Enters (n + 1) (h + 1) ((h + 1) % most_relays)
    enters_next h b =
        elim (dec_lt (h + 1) most_relays) [
          | yes d ↦ itself (omega arith)
          | no d ↦ round (omega (arith, l.few))
              (omega (arith, l.few))
        ]

    pub more_home : (t : ℕ) → t < 2 ^ 32 → (h : ℕ) → Home keys n (key_at t) h
        → HomeAt keys' (n + 1) t (home_more keys' s (slot_after n s) t h)
    more_home t small h o = go (dec_lt h s) (dec_lt s h) (dec_lt q t) (dec_lt 0 n)
      where
        further : s ≤ h → (h ≡ s → q < t) → HomeAt keys' (n + 1) t ((h + 1) % most_relays)
        further b c = record { slot = h + 1; home = more_far t h b c o; enters = enters_next h o.begins.within }

        go : Dec (h < s) → Dec (s < h) → Dec (q < t) → Dec (0 < n)
            → HomeAt keys' (n + 1) t (home_more keys' s (slot_after n s) t h)
        go (yes a) _ _ _ =
            rw (more_before keys' s (slot_after n s) t h a)
            (record { slot = h; home = more_near t h (omega arith) (λ e. absurd (omega arith)) o; enters = itself refl })
        go (no a) (yes b) _ _ =
            rw (more_behind keys' s (slot_after n s) t h b) (further (omega arith) (λ e. absurd (omega arith)))
        go (no a) (no b) (yes c) (yes d) =
            let e : h ≡ s = omega arith in
            rw (more_here keys' s (slot_after n s) t h true e (old_first l t small (rw e at o) c d))
            (further (omega arith) (λ _. c))
        go (no a) (no b) (yes c) (no d) =
            let e : h ≡ s = omega arith in
            rw (more_here keys' s (slot_after n s) t h false e (new_alone l t (omega arith)))
            (record {
              slot = h + 1;
              home = more_far t h (omega arith) (λ _. c) o;
              enters = round (omega (arith, o.begins.within))
                  (omega (arith, o.begins.within));
            })
        go (no a) (no b) (no c) _ =
            let e : h ≡ s = omega arith in
            rw (more_here keys' s (slot_after n s) t h false e (new_first l t small (rw e at o) (omega arith)))
            (record { slot = h; home = more_near t h (omega arith) (λ _. omega arith) o; enters = itself refl })
