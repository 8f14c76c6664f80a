-- One relay more: all in ring order.
--   more_line       a slot before and afterwards
--   more_ordered    the keys are in ring order
-- Assumes nothing.
use mathlib.Core.List.{List}
use mathlib.Core.Path.{◌≡◌, refl, sym, ap, ◌∙◌}
use Prim.Native.Nat.{ℕ, ◌+◌, ◌*◌, ◌^◌, ◌≤◌, ◌<◌}
use native.Mathlib.Omega.{arith}
use lib.ListN.{get_or}
use Rattle.ring.specs.Most.{most_relays}
use Rattle.order.specs.Keys.{ring_key, slot_relay, Slot, Ordered}
use Rattle.home.specs.Home.{key_at, Home}
use Rattle.ring_edit.specs.Shift.{skip, KeysMore}
use Rattle.ring_edit.proofs.Skips.{Skip, low, high, skip_cases, skip_off, skip_one, skip_below, Skipped, at, off, skipped}
use Rattle.ring_edit.proofs.Lines.{Line, key_place, key_raised}

-- n relays in ring order at these positions, and with them one at slot s, place `new` and position q
pub record Grown (position position' keys keys' : List ℕ) (n s new q : ℕ) : Type 0 where
  pub few : n < most_relays
  pub ordered : Ordered position n keys
  pub within : new ≤ n
  pub small : q < 2 ^ 32
  pub from : Home keys n (key_at q + new) s
  pub keys_more : KeysMore n s new (key_at q + new) keys keys'
  pub positions : (i : ℕ) → i < n → get_or position' (skip new i) 0 ≡ get_or position i 0
  pub newcomer : get_or position' new 0 ≡ q

module _ {position position' keys keys' : List ℕ} {n s new q : ℕ} (l : Grown position position' keys keys' n s new q)
  where
    pub new_below : s < n + 1
    new_below = omega (arith, l.from.begins.within)

    pub more_line : (k : ℕ) → k < n → Line position keys keys' n s new k
    unfolding ring_key slot_relay
    more_line k h =
        let i : ℕ = slot_relay keys k in
        let b : i < n = l.ordered.holds.relay k h in
        let was : get_or keys k 0 ≡ get_or position i 0 * 2 ^ 32 + i = l.ordered.holds.key k h in
        let up : get_or keys' (skip s k) 0 ≡ get_or position i 0 * 2 ^ 32 + skip new i =
        l.keys_more.others k h ∙ key_raised new (get_or keys k 0) (get_or position i 0) i (omega (arith, l.few)) was in
        record {
          place = i;
          below = b;
          relay = refl;
          moved = key_place (get_or keys' (skip s k) 0) (get_or position i 0) (skip new i)
              (omega (arith, skip_below new i n b, l.few)) up;
          key = was;
          raised = up;
        }

    -- the new relay
    one_relay : slot_relay keys' s ≡ new
    unfolding slot_relay
    one_relay = key_place (get_or keys' s 0) q new (omega (arith, l.within, l.few)) l.keys_more.one

    -- a slot: the new relay's, or another's
    module _ (t : ℕ) (h : t < n + 1) where
      slot_relay_lem : slot_relay keys' t < n + 1
      slot_relay_lem = go (skipped s n t new_below h)
        where
          go : Skipped s n t → slot_relay keys' t < n + 1
          go (at e) = rw (e, one_relay) (omega (arith, l.within))
          go (off k b e) = rw (e, (more_line k b).moved) (skip_below new (more_line k b).place n (more_line k b).below)

      slot_key : get_or keys' t 0 ≡ ring_key position' (slot_relay keys' t)
      unfolding ring_key
      slot_key = go (skipped s n t new_below h)
        where
          go : Skipped s n t → get_or keys' t 0 ≡ get_or position' (slot_relay keys' t) 0 * 2 ^ 32 + slot_relay keys' t
          go (at e) = rw (e, one_relay, l.newcomer) l.keys_more.one
          go (off k b e) =
              let a = more_line k b in
              rw (e, a.moved, l.positions a.place a.below) a.raised

    apart : (t u : ℕ) → t < n + 1 → u < n + 1 → slot_relay keys' t ≡ slot_relay keys' u → t ≡ u
    apart t u h i e = go (skipped s n t new_below h) (skipped s n u new_below i)
      where
        go : Skipped s n t → Skipped s n u → t ≡ u
        go (at d) (at f) = d ∙ sym f
        go (at d) (off m b f) =
            let a = more_line m b in
            absurd (skip_off new a.place (sym a.moved ∙ ap (slot_relay keys') (sym f) ∙ sym e
            ∙ ap (slot_relay keys') d ∙ one_relay))
        go (off k b d) (at f) =
            let a = more_line k b in
            absurd (skip_off new a.place (sym a.moved ∙ ap (slot_relay keys') (sym d) ∙ e ∙ ap (slot_relay keys') f
            ∙ one_relay))
        go (off k b d) (off m c f) =
            let v = more_line k b in
            let w = more_line m c in
            let same : v.place ≡ w.place =
            skip_one new v.place w.place (sym v.moved ∙ ap (slot_relay keys') (sym d) ∙ e ∙ ap (slot_relay keys') f
            ∙ w.moved) in
            d ∙ ap (skip s) (l.ordered.holds.apart.one k m b c (v.relay ∙ same ∙ sym w.relay)) ∙ sym f

    every : (i : ℕ) → i < n + 1 → Slot keys' (n + 1) i
    every i h = go (skipped new n i (omega (arith, l.within)) h)
      where
        go : Skipped new n i → Slot keys' (n + 1) i
        go (at e) = record { slot = s; below = new_below; is = one_relay ∙ sym e }
        go (off j b e) =
            let t = l.ordered.holds.every j b in
            let a = more_line t.slot t.below in
            record {
              slot = skip s t.slot;
              below = skip_below s t.slot n t.below;
              is = a.moved ∙ ap (skip new) (sym a.relay ∙ t.is) ∙ sym e;
            }

    small : (i : ℕ) → i < n + 1 → get_or position' i 0 < 2 ^ 32
    small i h = go (skipped new n i (omega (arith, l.within)) h)
      where
        go : Skipped new n i → get_or position' i 0 < 2 ^ 32
        go (at e) = rw (e, l.newcomer) l.small
        go (off j b e) = rw (e, l.positions j b) (l.ordered.holds.small j b)

    rises : (t u : ℕ) → t < u → u < n + 1 → get_or keys' t 0 ≤ get_or keys' u 0
    rises t u d h = go (skipped s n t new_below (omega arith)) (skipped s n u new_below h)
      where
        go : Skipped s n t → Skipped s n u → get_or keys' t 0 ≤ get_or keys' u 0
        go (at e) (at f) = absurd (omega arith)
        go (at e) (off m b f) =
            let a = more_line m b in rw (e, f, l.keys_more.one) (ahead a (skip_cases s m) (skip_cases new a.place))
          where
            ahead : (a : Line position keys keys' n s new m) → Skip s m → Skip new a.place
                → key_at q + new ≤ get_or keys' (skip s m) 0
            ahead a (low c g) _ = absurd (omega arith)
            ahead a (high c g) (low v w) = omega (arith, a.key, a.raised, l.from.ahead m c b)
            ahead a (high c g) (high v w) = omega (arith, a.key, a.raised, l.from.ahead m c b)
        go (off k b e) (at f) =
            let a = more_line k b in rw (e, f, l.keys_more.one) (behind a (skip_cases s k) (skip_cases new a.place))
          where
            behind : (a : Line position keys keys' n s new k) → Skip s k → Skip new a.place
                → get_or keys' (skip s k) 0 ≤ key_at q + new
            behind a (low c g) (low v w) = omega (arith, a.key, a.raised, l.from.begins.passed k c)
            behind a (low c g) (high v w) = omega (arith, a.key, a.raised, l.from.begins.passed k c)
            behind a (high c g) _ = absurd (omega arith)
        go (off k b e) (off m c f) =
            let v = more_line k b in
            let w = more_line m c in
            rw (e, f) (both v w (skip_cases s k) (skip_cases s m) (skip_cases new v.place) (skip_cases new w.place))
          where
            between : k < m → (v : Line position keys keys' n s new k) (w : Line position keys keys' n s new m)
                → Skip new v.place
                → Skip new w.place → get_or keys' (skip s k) 0 ≤ get_or keys' (skip s m) 0
            between z v w (low g a) (low i b) =
                omega (arith, v.key, v.raised, w.key, w.raised, l.ordered.rises.up k m z c)
            between z v w (low g a) (high i b) =
                omega (arith, v.key, v.raised, w.key, w.raised, l.ordered.rises.up k m z c)
            between z v w (high g a) (low i b) =
                omega (
                  arith,
                  v.key,
                  v.raised,
                  w.key,
                  w.raised,
                  l.ordered.rises.up k m z c,
                  v.below,
                  w.below,
                  l.few,
                )
            between z v w (high g a) (high i b) =
                omega (arith, v.key, v.raised, w.key, w.raised, l.ordered.rises.up k m z c)

            both : (v : Line position keys keys' n s new k) (w : Line position keys keys' n s new m) → Skip s k → Skip s m
                → Skip new v.place → Skip new w.place → get_or keys' (skip s k) 0 ≤ get_or keys' (skip s m) 0
            both v w (low g x) (low i y) = between (omega arith) v w
            both v w (low g x) (high i y) = between (omega arith) v w
            both v w (high g x) (low i y) = between (omega arith) v w
            both v w (high g x) (high i y) = between (omega arith) v w

    pub more_ordered : Ordered position' (n + 1) keys'
    more_ordered = record {
      holds = record {
        size = l.keys_more.size;
        small = small;
        relay = slot_relay_lem;
        key = slot_key;
        every = every;
        apart = record { one = apart };
      };
      rises = record { up = rises };
    }
