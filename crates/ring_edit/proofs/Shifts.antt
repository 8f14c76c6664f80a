-- Keys and homes moved, one after another.
--   unmet_none, unmet_more                                 a look for a relay's slot
--   moved_none, moved_more, moved_all                      homes moved one after another, or keys
--   moved_down, less_keys, moved_up, more_keys             keys moved by a slot, and one left out or put among them
-- Assumes nothing.
use mathlib.Core.List.{List, ◌++◌}
use mathlib.Core.Path.{◌≡◌, refl, ap, ◌∙◌}
use Prim.Native.Nat.{ℕ, ◌+◌, ◌-◌, ◌≤◌, ◌<◌}
use native.Mathlib.Nat.{not-suc-le-zero}
use native.Mathlib.Omega.{arith}
use borrow.Author.Count.{below_more}
use lib.ListN.{length, get_or, set, take, length-set}
use borrow.Rule.Slice.PartMut.{post_of}
use Rattle.std.specs.List.{CopiedTo, SameBelow}
use Rattle.std.proofs.lemmas.List.{length-append, length-drop, length-take-le, get_or-take, get_or-drop, get_or_append_left, get_or-append_right}
use lib.Seq.{get_or-set_same, get_or-set_other}
use Rattle.ring.specs.Most.{most_relays}
use Rattle.tables.proofs.Loops.{stored}
use Rattle.order.specs.Keys.{slot_relay, Slot}
use Rattle.ring_edit.specs.Shift.{skip, raised, lowered, KeysLess, KeysMore}
use Rattle.ring_edit.specs.Homes.{HomesMoved}
use Rattle.ring_edit.proofs.Skips.{Skip, low, high, skip_cases, skip_off}

-- ---- the slot of a relay

-- none of the first k slots has the relay at place `at`
pub record Unmet (keys : List ℕ) (at k : ℕ) : Type 0 where
  pub none : (l : ℕ) → l < k → slot_relay keys l ≡ at → ⊥

pub unmet_none : (keys : List ℕ) (at : ℕ) → Unmet keys at 0
unmet_none keys at = record { none = λ l h. absurd (not-suc-le-zero h) }

pub unmet_more : {keys : List ℕ} {at k : ℕ} → Unmet keys at k → (slot_relay keys k ≡ at → ⊥) → Unmet keys at (k + 1)
unmet_more u d = record { none = below_more _ _ u.none d }

pub unmet_end : {keys : List ℕ} {at n k : ℕ} → n ≤ k → Unmet keys at k → Slot keys n at → ⊥
unmet_end h u t = u.none t.slot (omega (arith, t.below)) t.is

-- ---- homes, or keys, moved

pub moved_none : (f : ℕ → ℕ → ℕ) (before : List ℕ) → HomesMoved f 0 before before
moved_none f before = record { size = refl; moved = λ t h. absurd (not-suc-le-zero h); rest = λ t h. refl }

pub moved_more : (f : ℕ → ℕ → ℕ) {j v : ℕ} {before after : List ℕ} → HomesMoved f j before after → j < length before
    → v ≡ f j (get_or after j 0)
    → HomesMoved f (j + 1) before (set after j v)
moved_more f {j} {v} {before} {after} o h e = record {
  size = simp length-set o.size;
  moved = λ t d.
      stored (λ t x. x ≡ f t (get_or before t 0)) after j (omega (arith, o.size))
      (e ∙ ap (f j) (o.rest j (omega arith))) t
      (λ z. o.moved t (omega arith));
  rest = λ t d. get_or-set_other after j t v 0 (λ z. omega arith) ∙ o.rest t (omega arith);
}

-- all of the first m of a are
pub moved_all : (f : ℕ → ℕ → ℕ) {j m : ℕ} {a b : List ℕ} → m ≤ length a → length (take m a) ≤ j
    → HomesMoved f j (take m a) b → HomesMoved f m a (b ++ post_of 0 m a)
moved_all f {j} {m} {a} {b} h e o =
    record {
      size = simp (length-append, length-drop) (omega (arith, size, few));
      moved = λ t d. at t d
          ∙ o.moved t (omega (arith, few)) ∙ ap (f t) (get_or-take m a t 0 d);
      rest = λ t d. get_or-append_right b (post_of 0 m a) m t 0 (size ∙ few) d
          ∙ (let i : m + (t - m) ≡ t = omega arith in get_or-drop m a (t - m) 0 ∙ rw i refl);
    }
  where
    few : length (take m a) ≡ m
    few = length-take-le m a h

    size : length b ≡ length (take m a)
    size = o.size

    at : (t : ℕ) → t < m → get_or (b ++ post_of 0 m a) t 0 ≡ get_or b t 0
    at t d = get_or_append_left b (post_of 0 m a) 0 t (omega (arith, size, few))

-- ---- keys

-- the keys behind slot s move down by one
pub moved_down : (before after : List ℕ) {n s : ℕ} → CopiedTo before after (s + 1) s (n + 1 - (s + 1))
    → SameBelow before after s → (k : ℕ) → k < n → get_or after k 0 ≡ get_or before (skip s k) 0
moved_down before after {n} {s} c b k h = go (skip_cases s k)
  where
    go : Skip s k → get_or after k 0 ≡ get_or before (skip s k) 0
    go (low l e) = rw e (b k 0 l)
    go (high l e) = let i : s + 1 + (k - s) ≡ k + 1 = omega arith in rw e (c k 0 l (omega arith) ∙ rw i refl)

pub less_keys : (before : List ℕ) {mid after : List ℕ} {n s at : ℕ} → length mid ≡ most_relays
    → ((k : ℕ) → k < n → get_or mid k 0 ≡ get_or before (skip s k) 0) → HomesMoved (λ _. lowered at) n mid after
    → KeysLess n s at before after
less_keys before {at = at} e m o = record { size = o.size ∙ e; others = λ k h. o.moved k h ∙ ap (lowered at) (m k h) }

-- those from slot s on move up by one
pub moved_up : (before after : List ℕ) (s : ℕ) {n : ℕ} → CopiedTo before after s (s + 1) (n - s)
    → SameBelow before after (s + 1) → (k : ℕ) → k < n → get_or after (skip s k) 0 ≡ get_or before k 0
moved_up before after s c b k h = go (skip_cases s k)
  where
    go : Skip s k → get_or after (skip s k) 0 ≡ get_or before k 0
    go (low l e) = rw e (b k 0 (omega arith))
    go (high l e) =
        let i : s + (k + 1 - (s + 1)) ≡ k = omega arith in rw e (c (k + 1) 0 (omega arith) (omega arith) ∙ rw i refl)

pub more_keys : {before mid : List ℕ} (after : List ℕ) {n s at x : ℕ} → length after ≡ most_relays → s < most_relays
    → HomesMoved (λ _. raised at) n before mid → ((k : ℕ) → k < n → get_or after (skip s k) 0 ≡ get_or mid k 0)
    → KeysMore n s at x before (set after s x)
more_keys after {s = s} {x = x} e h o m = record {
  size = simp length-set e;
  others = λ k d. get_or-set_other after s (skip s k) x 0 (skip_off s k) ∙ m k d ∙ o.moved k d;
  one = get_or-set_same after s x 0 (omega arith);
}
