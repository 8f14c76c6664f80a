-- Hollow ways to keep the promise of the six calls (document 01, "How the statements must bind"), each ruled out: whatever keeps the promise
-- does not refuse everything, has no fixed reply, does not leave the tables as they were, does not stop at the first displacement, and invents
-- neither the number passed nor the moves. And no table with everybody at one relay is the rule's, so demand 3 is not met by a constant one.
--   kept_by_after    the promise can be kept
--   refuses_everything, fixed_reply, tables_untouched, first_displacement, passed_invented, moves_invented, list_untouched, constant_table
-- Assumes nothing.
use mathlib.Core.Bool.{true, false}
use mathlib.Core.List.{List, [], ◌∷◌}
use mathlib.Core.Path.{◌≡◌, refl, sym, ap, ◌∙◌}
use Prim.Native.Nat.{ℕ}
use native.Mathlib.Omega.{arith}
use lib.ListN.{get_or}
use Rattle.ring.specs.Scheme as Scheme
use Rattle.ring.specs.Clockwise as Clockwise
use Rattle.ring.proofs.Tests.{true_false}
use Rattle.rule.specs.declared.Call.{Call}
use Rattle.rule.specs.declared.Call.TheVariants.{Enrol}
use Rattle.rule.specs.declared.Reply.{Reply}
use Rattle.rule.specs.declared.Refusal.TheVariants.{Done}
use Rattle.rule.specs.Entry as Entry
use Rattle.rule.specs.Entry.{Entry, entry}
use Rattle.rule.specs.Order as Order
use Rattle.rule.specs.Rule as Rule
use Rattle.rule.specs.Rooms as Rooms
use Rattle.rule.specs.Refusals as Refusals
use Rattle.rule.specs.Refusals.{is_done, replied}
use Rattle.rule.specs.Calls as Calls
use Rattle.rule.proofs.Right.{right_is}
use Rattle.promise.specs.Promise as Promised
use Rattle.promise.specs.Promise.{After}
use Rattle.tables.specs.Table as Table
use Rattle.tables.specs.Shape as Shape
use Rattle.meaning.specs.Meaning as Meaning
use Rattle.write.specs.Tables as Tables
use Rattle.call_start.specs.Promise as Promise
use Rattle.call_start.specs.Promise.{Lists, lists, after}
use Rattle.histories.specs.Ways.{Way, Kept}

-- ---- an enrolment that moves two, and one that moves nobody

-- relays 10, 20 and 30 with room for one each
abbrev relays : List ℕ
relays = 10 ∷ 1 ∷ 20 ∷ 1 ∷ 30 ∷ 1 ∷ []

abbrev tablets : List ℕ
tablets = 5 ∷ 10 ∷ 6 ∷ 20 ∷ 0 ∷ 0 ∷ []

abbrev list : List ℕ
list = 0 ∷ 0 ∷ 0 ∷ 0 ∷ 0 ∷ 0 ∷ []

abbrev three : Call
three = Enrol (record { 0 = 3 })

abbrev thirty : Call
thirty = Enrol (record { 0 = 30 })

abbrev reply : ℕ → ℕ → ℕ → Reply
reply relay passed moves = replied Done relay passed moves

-- 3 takes the place of 5, which takes the place of 6; 30 finds room at home
pub two_enrolments :
    (after 0 relays tablets list three ≡ record {
      reply = reply 10 2 2;
      lent = lists relays
          (3 ∷ 10 ∷ 5 ∷ 20 ∷ 6 ∷ 30 ∷ []) (5 ∷ 10 ∷ 20 ∷ 6 ∷ 20 ∷ 30 ∷ []);
    })
    × (after 0 relays tablets list thirty ≡ record {
      reply = reply 30 0 0;
      lent = lists relays
          (5 ∷ 10 ∷ 6 ∷ 20 ∷ 30 ∷ 30 ∷ []) list;
    })
unfolding Promise.after Promise.left Promise.written Promised.settled Promise.outcome_of Meaning.lent_of Meaning.ring_of
    Meaning.places Meaning.fit_tables Meaning.rest_unused Shape.used_in Shape.used Shape.fits_in
    Shape.all Shape.unused Table.places_of Table.number_in Table.beside_in Table.is_whole
    Tables.flat Tables.filled
    Tables.relay_table Tables.tablet_table Tables.flat_moves Tables.listed Scheme.known Scheme.positions Scheme.position
    Clockwise.clockwise Clockwise.distance Clockwise.sooner Entry.numbers Entry.has Entry.beside_of Entry.insert
    Entry.delete Entry.put Entry.total Entry.count Entry.load Entry.first Entry.up_to Order.queued Order.order Rule.full
    Rule.has_room Rule.seat Rule.seat_all Rule.placement Rule.rising Rule.limits_fit Rule.same Rule.is_just Rule.right
    Refusals.is_done Refusals.first_bar Calls.edited Calls.or_nobody Calls.after Calls.moved Calls.moves Calls.ahead_of
    Calls.full_ahead Calls.passed Calls.relay_of Calls.wrong_numbers Calls.refusal Calls.accepted Calls.declined
    Calls.outcome
two_enrolments = (refl, refl)

-- ---- the shells

-- there is such a way: what document 01 gives
pub kept_by_after : Kept after
kept_by_after s rs ts ms c = record { reply = refl; lent = refl }

module _ (f : Way) (kept : Kept f) where
  abbrev gave : Call → After Reply (Lists ℕ)
  gave c = f 0 relays tablets list c

  to_three : (gave three).reply ≡ reply 10 2 2
  to_three = (kept 0 relays tablets list three).reply ∙ ap (λ (a : After Reply (Lists ℕ)). a.reply) two_enrolments.0

  to_thirty : (gave thirty).reply ≡ reply 30 0 0
  to_thirty =
      (kept 0 relays tablets list thirty).reply ∙ ap (λ (a : After Reply (Lists ℕ)). a.reply) two_enrolments.1

  tablets_three : (gave three).lent.tablets ≡ 3 ∷ 10 ∷ 5 ∷ 20 ∷ 6 ∷ 30 ∷ []
  tablets_three =
      ap (λ (l : Lists ℕ). l.tablets) (kept 0 relays tablets list three).lent
      ∙ ap (λ (a : After Reply (Lists ℕ)). a.lent.tablets) two_enrolments.0

  moves_three : (gave three).lent.moves ≡ 5 ∷ 10 ∷ 20 ∷ 6 ∷ 20 ∷ 30 ∷ []
  moves_three =
      ap (λ (l : Lists ℕ). l.moves) (kept 0 relays tablets list three).lent
      ∙ ap (λ (a : After Reply (Lists ℕ)). a.lent.moves) two_enrolments.0

  pub refuses_everything : ((s : ℕ) (rs ts ms : List ℕ) (c : Call) → is_done (f s rs ts ms c).reply.refusal ≡ false)
      → ⊥
  unfolding is_done
  refuses_everything h =
      true_false (ap (λ (r : Reply). is_done r.refusal) (sym to_three) ∙ h 0 relays tablets list three)

  pub fixed_reply : (r : Reply) → ((s : ℕ) (rs ts ms : List ℕ) (c : Call) → (f s rs ts ms c).reply ≡ r) → ⊥
  fixed_reply r h =
      let e : ◌≡◌ {A = ℕ} 10 30 = ap (λ (x : Reply). x.relay.0)
      (sym to_three ∙ h 0 relays tablets list three ∙ sym (h 0 relays tablets list thirty) ∙ to_thirty) in
      omega arith

  pub tables_untouched : ((s : ℕ) (rs ts ms : List ℕ) (c : Call) → (f s rs ts ms c).lent.tablets ≡ ts) → ⊥
  tables_untouched h =
      let e : ◌≡◌ {A = ℕ} 3 5 = ap (λ (l : List ℕ). get_or l 0 0) (sym tablets_three ∙ h 0 relays tablets list three) in
      omega arith

  -- 3 and 5 sit down, and 6 stays although its place is taken; the reply, and the move list too, may say what they like
  pub first_displacement : (gave three).lent.tablets ≡ 3 ∷ 10 ∷ 5 ∷ 20 ∷ 6 ∷ 20 ∷ [] → ⊥
  first_displacement h =
      let e : ◌≡◌ {A = ℕ} 30 20 = ap (λ (l : List ℕ). get_or l 5 0) (sym tablets_three ∙ h) in
      omega arith

  -- a number that does not come of what is lent, whichever part of the reply it is
  invented : (part : Reply → ℕ) → (part (reply 10 2 2) ≡ part (reply 30 0 0) → ⊥)
      → (n : ℕ) → ((s : ℕ) (rs ts ms : List ℕ) (c : Call) → is_done (f s rs ts ms c).reply.refusal ≡ true
      → part (f s rs ts ms c).reply ≡ n) → ⊥
  unfolding is_done
  invented part apart n h =
      apart
      (ap part (sym to_three)
      ∙ h 0 relays tablets list three (ap (λ (r : Reply). is_done r.refusal) to_three)
      ∙ sym (h 0 relays tablets list thirty (ap (λ (r : Reply). is_done r.refusal) to_thirty))
      ∙ ap part to_thirty)

  pub passed_invented : (n : ℕ) → ((s : ℕ) (rs ts ms : List ℕ) (c : Call) → is_done (f s rs ts ms c).reply.refusal
      ≡ true → (f s rs ts ms c).reply.passed ≡ n) → ⊥
  passed_invented = invented (λ r. r.passed) (λ e. omega (arith, e))

  pub moves_invented : (n : ℕ) → ((s : ℕ) (rs ts ms : List ℕ) (c : Call) → is_done (f s rs ts ms c).reply.refusal
      ≡ true → (f s rs ts ms c).reply.moves ≡ n) → ⊥
  moves_invented = invented (λ r. r.moves) (λ e. omega (arith, e))

  -- the count alone is told
  pub list_untouched : ((s : ℕ) (rs ts ms : List ℕ) (c : Call) → (f s rs ts ms c).lent.moves ≡ ms) → ⊥
  list_untouched h =
      let e : ◌≡◌ {A = ℕ} 5 0 = ap (λ (l : List ℕ). get_or l 0 0) (sym moves_three ∙ h 0 relays tablets list three) in
      omega arith

-- ---- a constant table

-- tablets 5 and 6 at one relay, whichever: not the rule's where each relay has room for one
pub constant_table : (r : ℕ) → Rule.right (Scheme.positions 0)
    (record { relays = entry 10 1 ∷ entry 20 1 ∷ []; tablets = entry 5 r ∷ entry 6 r ∷ [] }) ≡ true → ⊥
unfolding Rooms.fill Rooms.choose Rooms.choose_from Rooms.better Rooms.or_zero Rooms.less Entry.numbers Entry.beside_of
    Scheme.positions Scheme.position Clockwise.clockwise Clockwise.distance Clockwise.key
constant_table r h =
    let e : entry 5 r ∷ entry 6 r ∷ [] ≡ entry 5 10 ∷ entry 6 20 ∷ [] = (right_is (Scheme.positions 0) _ h).ruled in
    let a : r ≡ 10 = ap (λ (l : List Entry). Entry.beside_of l 5) e in
    let b : r ≡ 20 = ap (λ (l : List Entry). Entry.beside_of l 6) e in
    omega arith
