-- Laws of the row as one more tablet is placed.
--   redirected_none, redirected_more   a slot is taken out of the row
--   row_keeps, row_shut                the row after one more, where the relay has room left and where it is full
-- Assumes nothing.
use Rattle.std.proofs.Common.{◌≡◌, ℕ, ◌+◌, ◌%◌, ◌<◌, ◌≤◌, cond, eqb, ◌⊎◌, List, length, get_or, set, refl, ap, ◌∙◌, subst, inl, inr, not-suc-le-zero, arith, length-set, get_or-set_other, eq-eqb, ne_eqb}
use Rattle.ring.specs.Most.{most_relays}
use Rattle.tables.specs.Placement.{room_less}
use Rattle.tables.proofs.Loops.{eq_or_ne, stored}
use Rattle.tables.proofs.Room.{less_here, less_other, less_open, less_keeps}
use Rattle.order.specs.Keys.{slot_relay}
use Rattle.row.specs.Row.{slot_room, Ahead, both, turn, past, Leads, Row, Redirected, Takes}
use Rattle.row.proofs.Leads.{leads_at}

pub redirected_none : (k t : ℕ) (a : List ℕ) → Redirected 0 k t a a
redirected_none k t a = record { size = refl; done = λ h p. absurd (not-suc-le-zero p); rest = λ h p. refl }

pub redirected_more : {i k t : ℕ} {a b : List ℕ} (v : ℕ) → Redirected i k t a b → i < length b
    → v ≡ cond (eqb (get_or b i 0) k) t (get_or b i 0)
    → Redirected (i + 1) k t a (set b i v)
redirected_more {i} {k} {t} {a} {b} v r p e = record {
  size = simp length-set r.size;
  done = λ h q. stored (λ h x. x ≡ cond (eqb (get_or a h 0) k) t (get_or a h 0)) b i p (e ∙ rw (r.rest i (omega arith))) h
      (λ w. r.done h (omega arith));
  rest = λ h q. get_or-set_other b i h v 0 (λ w. omega arith) ∙ r.rest h (omega arith);
}

pub redirected_end : {i m k t : ℕ} {a b : List ℕ} → i ≤ m → m ≤ i → Redirected i k t a b → Redirected m k t a b
redirected_end p q r =
    record { size = r.size; done = λ h w. r.done h (omega arith); rest = λ h w. r.rest h (omega arith) }

-- ---- clockwise

-- k comes before l and before t, and past k, t comes before l
skip : {h k t l : ℕ} → (l ≡ k → ⊥) → Ahead h k l → Ahead h k t → Ahead (k + 1) t l → Ahead h t l
skip d a (both b b') (both e e') = both (omega arith) e'
skip d a (turn b b') (both e e') = absurd (omega arith)
skip d (both a a') (past b b') (both e e') = absurd (omega arith)
skip d (turn a a') (past b b') (both e e') = absurd (omega arith)
skip d (past a a') (past b b') (both e e') = past e' a'
skip d (both a a') b (turn e e') = absurd (omega arith)
skip d (past a a') b (turn e e') = absurd (omega arith)
skip d (turn a a') (both b b') (turn e e') = turn (omega arith) a'
skip d (turn a a') (turn b b') (turn e e') = absurd (omega arith)
skip d (turn a a') (past b b') (turn e e') = absurd (omega arith)
skip d (both a a') b (past e e') = absurd (omega arith)
skip d (past a a') b (past e e') = absurd (omega arith)
skip d (turn a a') b (past e e') = past e a'

-- past k, k itself comes last
last : {k t l : ℕ} → (l ≡ k → ⊥) → Ahead (k + 1) t l → t ≡ k → ⊥
last d (both a b) e = omega arith
last d (turn a b) e = omega arith
last d (past a b) e = d (omega arith)

-- ---- one more is placed at slot k

module _ {keys room after next : List ℕ} {n k : ℕ} (z : Takes keys room next n k)
    (less : after ≡ room_less room (slot_relay keys k)) where
  open_before : (l : ℕ) → 0 < slot_room keys (room_less room (slot_relay keys k)) l → 0 < slot_room keys room l
  unfolding slot_room
  open_before l w = less_open room (slot_relay keys k) (slot_relay keys l) w

  -- the relay still has room: the row stays
  pub row_keeps : (slot_room keys room k ≡ 1 → ⊥) → Row keys after n 0 next
  unfolding slot_room
  row_keeps d = rw less (record {
    size = z.row.size;
    leads = λ h a b p. let o = z.row.leads h a b p in record {
      inside = o.inside;
      opens = λ l q w. less_keeps room (slot_relay keys k) d _ (o.opens l q (open_before l w));
      ahead = λ l q w. o.ahead l q (open_before l w);
    };
  })

  -- it is full: whoever was led to its slot is led on
  module _ {t : ℕ} {row : List ℕ} (p : slot_room keys room k ≡ 1) (et : t ≡ get_or next ((k + 1) % most_relays) 0)
      (r : Redirected most_relays k t next row) where
    not_k : (l : ℕ) → 0 < slot_room keys (room_less room (slot_relay keys k)) l → l ≡ k → ⊥
    unfolding slot_room
    not_k l w e =
        omega (arith, less_here room (slot_relay keys k), ap (slot_room keys (room_less room (slot_relay keys k))) e)

    open_after : (l : ℕ) → l < n → (l ≡ k → ⊥) → 0 < slot_room keys room l
        → 0 < slot_room keys (room_less room (slot_relay keys k)) l
    unfolding slot_room
    open_after l q d w =
        rw (less_other room (slot_relay keys k) (slot_relay keys l) (λ e. d (z.apart.one l k q z.inside e))) w

    from_next : Leads keys room n (k + 1) t
    from_next = rw et (leads_at (k + 1) z.few (omega (arith, z.inside)) z.row)

    shut : (h : ℕ) → h < most_relays → Leads keys room n h (get_or next h 0)
        → (get_or next h 0 ≡ k) ⊎ (get_or next h 0 ≡ k → ⊥)
        → Leads keys (room_less room (slot_relay keys k)) n h (get_or row h 0)
    shut h b o (inr d) =
        let e : get_or row h 0 ≡ get_or next h 0 = r.done h b ∙ rw (ne_eqb _ _ d) in
        rw e (record {
          inside = o.inside;
          opens = λ l q w. open_after _ (o.inside (omega arith)) d (o.opens l q (open_before l w));
          ahead = λ l q w. o.ahead l q (open_before l w);
        })
    shut h b o (inl d) =
        let e : get_or row h 0 ≡ t = r.done h b ∙ rw (eq-eqb _ _ d) in
        let f = from_next in
        let g : Leads keys room n h k = subst (Leads keys room n h) d o in
        rw e (record {
          inside = f.inside;
          opens = λ l q w. open_after t (f.inside (omega arith)) (last (not_k l w) (f.ahead l q (open_before l w)))
              (f.opens l q (open_before l w));
          ahead = λ l q w. skip (not_k l w) (g.ahead l q (open_before l w))
              (g.ahead t (f.inside (omega arith)) (f.opens l q (open_before l w))) (f.ahead l q (open_before l w));
        })

    pub row_shut : Row keys after n 0 row
    row_shut =
        rw less (record {
          size = r.size ∙ z.row.size;
          leads = λ h a b d. shut h d (z.row.leads h a b d)
              (eq_or_ne (get_or next h 0) k);
        })
