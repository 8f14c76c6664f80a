-- The first two demands, for any scheme, lent slices and call (document 01, "Replies", "The rule of placement", "The lent tables"): what a refusal
-- means, and what stands there after an accepted call. The laws `demand_1` and `demand_2` say that every call meets them. Assumes nothing.
use Rattle.std.specs.Prelude.{true, false, List, [], ◌∷◌, ◌≡◌, ℕ, zero, suc, ◌*◌, ◌≤◌, length, get_or, drop}
use Rattle.ring.specs.Scheme.{positions}
use Rattle.rule.specs.declared.Call.{Call}
use Rattle.rule.specs.declared.Move.{Move}
use Rattle.rule.specs.declared.Reply.{Reply}
use Rattle.rule.specs.Refusals.{number_of, is_done, bare_reply}
use Rattle.rule.specs.Calls.{move}
use Rattle.rule.specs.Applies.{Lowest, bars}
use Rattle.rule.specs.Sets.{Changed}
use Rattle.rule.specs.Moves.{Names}
use Rattle.rule.specs.Tally.{more}
use Rattle.promise.specs.Promise.{After}
use Rattle.meaning.specs.Meaning.{ring_of, tables_right, lent_of}
use Rattle.tally.specs.Counted.{tallied}
use Rattle.call_start.specs.Promise.{Lists, after}

-- ---- 1: a refusal

-- nothing that was lent differs but the count of refusals, which is one more unless it has stopped; a tally of another length is left
pub record Untouched (rs ts ms tally : List ℕ) (a : After Reply (Lists ℕ)) (tally' : List ℕ) : Type 0 where
  pub reply : a.reply ≡ bare_reply a.reply.refusal
  pub relays : a.lent.relays ≡ rs
  pub tablets : a.lent.tablets ≡ ts
  pub moves : a.lent.moves ≡ ms
  pub counts : length tally ≡ 4 → tally' ≡ get_or tally 0 0 ∷ get_or tally 1 0 ∷ get_or tally 2 0 ∷ more (get_or tally 3 0) 1
      ∷ []
  pub other : (length tally ≡ 4 → ⊥) → tally' ≡ tally

-- the number is the lowest of the refusals that apply, 0 where none does, and whoever is refused finds everything as it was
pub record Demand1 (s : ℕ) (rs ts ms tally : List ℕ) (c : Call) : Type 0 where
  pub number : Lowest number_of (bars (positions s) (lent_of s rs ts ms) (ring_of rs ts) c)
      (after s rs ts ms c).reply.refusal
  pub refused : is_done (after s rs ts ms c).reply.refusal ≡ false
      → Untouched rs ts ms tally (after s rs ts ms c) (tallied tally c (after s rs ts ms c).reply)

-- ---- 2: an accepted call

-- the first moves of a lent list
unfoldable pub standing : ℕ → List ℕ → List Move
standing zero l = []
standing (suc k) [] = []
standing (suc k) (t ∷ []) = []
standing (suc k) (t ∷ o ∷ []) = []
standing (suc k) (t ∷ o ∷ n ∷ l) = move t o n ∷ standing k l

-- the tables are right and as long as they were; their sets differ by the call's own entry; as many moves as the reply says stand in the list, and
-- name every other tablet whose relay changed, once, and nobody else; behind them the list is as it was
pub record Demand2 (s : ℕ) (rs ts ms : List ℕ) (c : Call) (a : After Reply (Lists ℕ)) : Type 0 where
  pub right : tables_right s a.lent.relays a.lent.tablets ≡ true
  pub places : (length a.lent.relays ≡ length rs) × (length a.lent.tablets ≡ length ts)
  pub changed : Changed (ring_of rs ts) c (ring_of a.lent.relays a.lent.tablets)
  pub room : 3 * a.reply.moves ≤ length ms
  pub moves : Names (ring_of rs ts) (ring_of a.lent.relays a.lent.tablets)
      (standing a.reply.moves a.lent.moves)
  pub rest : drop (3 * a.reply.moves) a.lent.moves ≡ drop (3 * a.reply.moves) ms
