-- From a call on the numbers of a move list to what it did for a list of records (`works`). Assumes nothing.
use mathlib.Core.List.{List, [], ◌++◌}
use mathlib.Core.Path.{◌≡◌, sym, ap, ap₂, ◌∙◌}
use Prim.Native.Nat.{ℕ, ◌*◌, ◌/◌, ◌≤◌, min}
use native.Mathlib.Omega.{arith}
use lib.ListN.{length, take, drop, length-append}
use lib.Seq.{length-take-le, take_at, take-append-le}
use Rattle.ring.specs.Most.{most_tablets}
use Rattle.ring.specs.Scheme.{positions}
use Rattle.rule.specs.declared.Call.{Call}
use Rattle.rule.specs.declared.Move.{Move}
use Rattle.rule.specs.declared.Reply.{Reply}
use Rattle.rule.specs.Calls.{Outcome}
use Rattle.promise.specs.Promise.{Answers}
use Rattle.meaning.specs.Meaning.{ring_of, lent_of}
use Rattle.write.specs.Tables.{flat_moves, listed}
use Rattle.write.proofs.Listed.{length_moves, listed_none}
use Rattle.call_start.specs.Promise.{outcome_of, Lists, lists, left, after}
use Rattle.records.specs.Outcome.{lent_with, outcome_with, recorded, tables_after}
use Rattle.records.specs.Works.{Works}
use Rattle.records.proofs.Outcomes.{outcome_count, outcome_fits, left_reply, left_relays, left_tablets, left_moves}
use Rattle.records.proofs.Room.{outcome_room}

-- the moves stand first, whatever comes behind the list
listed_first : (ms : List Move) (list rest : List ℕ) → 3 * length ms ≤ length list
    → take (3 * length ms) (listed ms list ++ rest) ≡ flat_moves ms
unfolding listed
listed_first ms list rest h =
    take-append-le (3 * length ms) (flat_moves ms ++ drop (3 * length ms) list) rest
    (omega (arith, length-append (flat_moves ms) (drop (3 * length ms) list), length_moves ms))
    ∙ take_at (flat_moves ms) (drop (3 * length ms) list) (3 * length ms) (length_moves ms)

-- the part of the numbers that is lent
pub scratch_length : (numbers : List ℕ) (k room : ℕ) → length numbers ≡ 3 * most_tablets → k ≡ min room most_tablets
    → length (take (3 * k) numbers) ≡ 3 * min room most_tablets
scratch_length numbers k room h e = length-take-le (3 * k) numbers (omega (arith, h, e)) ∙ omega (arith, e)

module _ (s : ℕ) (rs ts : List ℕ) (room : ℕ) (c : Call) where
  abbrev o : Outcome
  o = outcome_with s rs ts room c

  -- a list of numbers for as many moves as can be of use
  outcome_scratch : (ms : List ℕ) → length ms ≡ 3 * min room most_tablets → outcome_of s rs ts ms c ≡ o
  unfolding outcome_of lent_of outcome_with lent_with
  outcome_scratch ms h =
      let k : length ms / 3 ≡ min room most_tablets = omega (arith, h) in
      ap (λ (n : ℕ). outcome_with s rs ts n c) k ∙ outcome_room s rs ts room c

  pub works : (ms rest : List ℕ) {r : Reply} {ms' numbers rs' ts' : List ℕ}
      → Answers (after s rs ts ms c) r (lists rs' ts' ms')
      → length ms ≡ 3 * min room most_tablets → numbers ≡ ms' ++ rest → Works s rs ts room c r numbers rs' ts'
  unfolding after tables_after outcome_of outcome_with lent_of
  works ms rest {r = r} a h e =
      let same : outcome_of s rs ts ms c ≡ o = outcome_scratch ms h in
      let reply : r ≡ o.reply = a.reply ∙ left_reply listed rs ts ms (outcome_of s rs ts ms c)
      ∙ ap (λ (x : Outcome). x.reply) same in
      let count : r.moves ≡ length o.moves = ap (λ (x : Reply). x.moves) reply
      ∙ outcome_count (positions s) (lent_with s rs ts room) (ring_of rs ts) c in
      let few : length o.moves ≤ length ms / 3 = rw (sym same)
      (outcome_fits (positions s) (lent_of s rs ts ms) (ring_of rs ts) c) in
      let listing : (left listed rs ts ms (outcome_of s rs ts ms c)).lent.moves
      ≡ listed (outcome_of s rs ts ms c).moves ms =
      left_moves (positions s) (lent_of s rs ts ms) (ring_of rs ts) c listed rs ts ms (listed_none ms) in
      record {
        reply = reply;
        relays = ap (λ (l : Lists ℕ). l.relays) a.lent
            ∙ left_relays listed rs ts ms (outcome_of s rs ts ms c) recorded []
            ∙ ap (λ (x : Outcome). (tables_after rs ts x).relays) same;
        tablets = ap (λ (l : Lists ℕ). l.tablets) a.lent
            ∙ left_tablets listed rs ts ms (outcome_of s rs ts ms c) recorded []
            ∙ ap (λ (x : Outcome). (tables_after rs ts x).tablets) same;
        count = count;
        moves =
            ap₂ (λ (k : ℕ) (l : List ℕ). take (3 * k) l) count
            (e ∙ ap (λ (l : List ℕ). l ++ rest) (ap (λ (x : Lists ℕ). x.moves) a.lent ∙ listing
            ∙ ap (λ (x : Outcome). listed x.moves ms) same))
            ∙ listed_first o.moves ms rest (omega (arith, few));
        fits = omega (arith, count, few, h);
        few = omega (arith, count, few, h);
      }
