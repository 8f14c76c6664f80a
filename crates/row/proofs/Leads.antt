-- Laws of the row: clockwise from a slot, the first slot with room.
--   row_start                                        past the last slot, as the first row is made
--   leads_at                                         from past the last slot as from the first
-- Assumes nothing.
use Rattle.std.proofs.Common.{◌≡◌, ℕ, ◌%◌, ◌<◌, ◌≤◌, List, length, get_or, set, not-suc-le-zero, arith, length-set}
use native.Mathlib.Decide.{dec_lt}
use Rattle.ring.specs.Most.{most_relays}
use Rattle.tables.proofs.Loops.{stored}
use Rattle.row.specs.Row.{slot_room, Ahead, both, turn, past, Leads, Row}

-- the first k slots have no room
pub record Emptied (keys room : List ℕ) (k : ℕ) : Type 0 where
  pub none : (l : ℕ) → l < k → slot_room keys room l ≤ 0

module _ {keys room : List ℕ} {n : ℕ} where
  pub row_start : (next : List ℕ) {q : ℕ} → n ≤ most_relays → length next ≡ most_relays → Leads keys room n n q
      → Row keys room n n (set next (n % most_relays) q)
  row_start next {q} p e o = record {
    size = simp length-set e;
    leads = λ h a b d. stored (Leads keys room n) next (n % most_relays) (omega arith) (at (omega arith)) h
        (λ x. absurd (x (omega arith)));
  }
    where
      at : n < most_relays → Leads keys room n (n % most_relays) q
      at d = let z : n % most_relays ≡ n = omega arith in rw z o

  pub leads_at : {next : List ℕ} (h : ℕ) → n ≤ most_relays → h ≤ n → Row keys room n 0 next
      → Leads keys room n h (get_or next (h % most_relays) 0)
  leads_at {next} h p q x = go (dec_lt h most_relays)
    where
      round : {k l : ℕ} → l < most_relays → Ahead 0 k l → Ahead most_relays k l
      round z (both a b) = past b z
      round z (turn a b) = absurd (not-suc-le-zero b)
      round z (past a b) = absurd (not-suc-le-zero b)

      go : Dec (h < most_relays) → Leads keys room n h (get_or next (h % most_relays) 0)
      go (yes d) = let e : h % most_relays ≡ h = omega arith in rw e (x.leads h (omega arith) q d)
      go (no d) =
          let e : h ≡ most_relays = omega arith in
          let z = x.leads 0 (omega arith) (omega arith) (omega arith) in
          rw e (record { inside = z.inside; opens = z.opens; ahead = λ l a b. round (omega arith) (z.ahead l a b) })
