-- The three demands: the first two for any scheme, lent slices and call, the third for any two pairs of right tables.
--   demand_1    the number given is the lowest of the refusals that apply, and a refused call leaves everything but the count of refusals
--   demand_2    after an accepted call the tables are right, the sets differ by its own entry, and the list names every other tablet that moved
--   demand_3    of two right pairs under one scheme, where the second has no relay less, no limit lower and no tablet more, no tablet of the second
--               sits later
-- Assumes nothing.
use mathlib.Core.Bool.{true, false}
use mathlib.Core.List.{List, [], ◌∷◌, ◌++◌}
use mathlib.Core.Logic.{◌⊎◌}
use mathlib.Core.Path.{◌≡◌, refl, sym, ap, ◌∙◌, subst}
use Prim.Native.Nat.{ℕ, ◌+◌, ◌*◌, ◌/◌, ◌^◌, ◌≤◌, ◌<◌}
use native.Mathlib.Omega.{arith}
use borrow.Author.Tests.{eq-eqb}
use lib.ListN.{length, get_or, drop}
use lib.Seq.{drop-append-add}
use Rattle.ring.specs.Scheme.{Positions, positions}
use Rattle.ring.specs.Clockwise.{sooner}
use Rattle.rule.specs.declared.Call.{Call}
use Rattle.rule.specs.declared.Move.{Move}
use Rattle.rule.specs.declared.Reply.{Reply}
use Rattle.rule.specs.Entry.{has, beside_of}
use Rattle.rule.specs.Rule.{Ring}
use Rattle.rule.specs.Refusals.{number_of, is_done, bare_reply}
use Rattle.rule.specs.Calls as Calls
use Rattle.rule.specs.Applies.{Lowest, bars}
use Rattle.rule.specs.Sets.{Roomier}
use Rattle.rule.specs.Moves.{Names}
use Rattle.rule.specs.Tally.{more, counted}
use Rattle.rule.proofs.Accepted.{accepted_is}
use Rattle.rule.proofs.Demand3 as Demand3
use Rattle.rule.proofs.Lowest.{refusal_lowest}
use Rattle.rule.proofs.Named.{moves_named}
use Rattle.rule.proofs.Own.{own_entry}
use Rattle.promise.specs.Promise.{After}
use Rattle.meaning.specs.Meaning.{ring_of, tables_right, lent_of}
use Rattle.meaning.proofs.Fit.{right_ruled}
use Rattle.write.specs.Tables.{flat_moves, listed}
use Rattle.write.proofs.Listed.{length_moves}
use Rattle.tally.specs.Counted.{tally_of, counts, tallied}
use Rattle.tally.proofs.Counts.{tallied_other}
use Rattle.call_start.specs.Promise.{Lists, lists, written, after}
use Rattle.call_start.proofs.Refusals.{after_accepted, after_declined}
use Rattle.histories.specs.Runs.{Stands}
use Rattle.histories.specs.Demands.{Untouched, Demand1, standing, Demand2}
use Rattle.histories.proofs.Kept.{call_refusal, call_stands}

-- ---- 1: a refusal

-- four counts, of which a refusal is counted by the last
tallied_refused : (l : List ℕ) (c : Call) (r : Reply) → is_done r.refusal ≡ false → length l ≡ 4
    → tallied l c r ≡ get_or l 0 0 ∷ get_or l 1 0 ∷ get_or l 2 0 ∷ more (get_or l 3 0) 1 ∷ []
unfolding tallied counted tally_of counts
tallied_refused l c r d e = rw (eq-eqb (length l) 4 e, tallied, d, counted)

module _ (s : ℕ) (rs ts ms : List ℕ) (c : Call) where
  abbrev p : Positions
  p = positions s

  abbrev lent : Calls.Lent
  lent = lent_of s rs ts ms

  abbrev g : Ring
  g = ring_of rs ts

  abbrev a : After Reply (Lists ℕ)
  a = after s rs ts ms c

  module _ (tally : List ℕ) where
    untouched : is_done a.reply.refusal ≡ false → Untouched rs ts ms tally a (tallied tally c a.reply)
    untouched f =
        let e : a ≡ record { reply = bare_reply (Calls.refusal p lent g c); lent = lists rs ts ms } = after_declined s rs
        ts ms c (ap is_done (sym (call_refusal s rs ts ms c)) ∙ f) in
        record {
          reply = ap (λ (x : After Reply (Lists ℕ)). x.reply) e ∙ ap bare_reply (sym (call_refusal s rs ts ms c));
          relays = ap (λ (x : After Reply (Lists ℕ)). x.lent.relays) e;
          tablets = ap (λ (x : After Reply (Lists ℕ)). x.lent.tablets) e;
          moves = ap (λ (x : After Reply (Lists ℕ)). x.lent.moves) e;
          counts = tallied_refused tally c a.reply f;
          other = λ d. sym (tallied_other tally c a.reply d);
        }

    pub demand_1 : Demand1 s rs ts ms tally c
    demand_1 =
        record {
          number = subst (Lowest number_of (bars p lent g c)) (sym (call_refusal s rs ts ms c))
              (refusal_lowest p lent g c);
          refused = untouched;
        }

-- ---- 2: an accepted call

-- moves that were listed stand there
standing_flat : (ms : List Move) (rest : List ℕ) → standing (length ms) (flat_moves ms ++ rest) ≡ ms
unfolding standing flat_moves
standing_flat [] rest = refl
standing_flat (m ∷ ms) rest = ap (λ (l : List Move). m ∷ l) (standing_flat ms rest)

standing_listed : (ms : List Move) (list : List ℕ) → standing (length ms) (listed ms list) ≡ ms
unfolding listed
standing_listed ms list = standing_flat ms (drop (3 * length ms) list)

listed_rest : (ms : List Move) (list : List ℕ) → drop (3 * length ms) (listed ms list) ≡ drop (3 * length ms) list
unfolding listed
listed_rest ms list =
    let n : 3 * length ms ≡ length (flat_moves ms) + 0 = omega (arith, length_moves ms) in
    ap (λ (k : ℕ). drop k (flat_moves ms ++ drop (3 * length ms) list)) n
    ∙ drop-append-add (flat_moves ms) (drop (3 * length ms) list) 0

module _ (s : ℕ) (rs ts ms : List ℕ) (c : Call) (small : Calls.subject c < 2 ^ 32) where
  abbrev h : Ring
  h = Calls.after (positions s) (ring_of rs ts) c

  abbrev l : List Move
  l = Calls.moves (positions s) (ring_of rs ts) c

  pub demand_2 : is_done (after s rs ts ms c).reply.refusal ≡ true → Demand2 s rs ts ms c (after s rs ts ms c)
  unfolding written Calls.accepted lent_of
  demand_2 f =
      let d : is_done (Calls.refusal (positions s) (lent_of s rs ts ms) (ring_of rs ts) c)
      ≡ true = ap is_done (sym (call_refusal s rs ts ms c)) ∙ f in
      let st : Stands s rs ts h (after s rs ts ms c).lent.relays (after s rs ts ms c).lent.tablets = call_stands s
      rs ts ms c d small in
      let e : after s rs ts ms c ≡ written listed rs ts ms
      (Calls.accepted (positions s) (ring_of rs ts) c) = after_accepted s rs ts ms c d in
      let er : (after s rs ts ms c).reply.moves ≡ length l = ap (λ (x : After Reply (Lists ℕ)). x.reply.moves) e in
      let em : (after s rs ts ms c).lent.moves ≡ listed l ms = ap (λ (x : After Reply (Lists ℕ)). x.lent.moves) e in
      let fits : length l ≤ length ms / 3 = (accepted_is (positions s) (lent_of s rs ts ms) (ring_of rs ts) c d).list in
      let named : Names (ring_of rs ts) h (standing (length l) (listed l ms)) =
      rw (standing_listed l ms) (moves_named (positions s) (lent_of s rs ts ms) (ring_of rs ts) c d small) in
      record {
        right = st.right;
        places = (st.relays, st.tablets);
        changed = rw st.ring (own_entry (positions s) (lent_of s rs ts ms) (ring_of rs ts) c d small);
        room = omega (arith, er);
        moves = rw (st.ring, er, em) named;
        rest = rw (er, em) (listed_rest l ms);
      }

-- ---- 3: more room

module _ (s : ℕ) (rs₁ ts₁ rs₂ ts₂ : List ℕ) where
  abbrev g₁ : Ring
  g₁ = ring_of rs₁ ts₁

  abbrev g₂ : Ring
  g₂ = ring_of rs₂ ts₂

  pub demand_3 : tables_right s rs₁ ts₁ ≡ true → tables_right s rs₂ ts₂ ≡ true → Roomier g₁ g₂ → (t : ℕ)
      → has g₂.tablets t ≡ true
      → (beside_of g₂.tablets t ≡ beside_of g₁.tablets t) ⊎
      (sooner (positions s) t (beside_of g₂.tablets t) (beside_of g₁.tablets t) ≡ true)
  demand_3 ok₁ ok₂ more t h =
      Demand3.demand_3 (positions s) g₁ g₂ (right_ruled rs₁ ts₁ s ok₁) (right_ruled rs₂ ts₂ s ok₂) more t h
