-- What a call promises (document 01, "How the statements must bind"): the full reply and every lent place afterwards, for accepted and refused
-- calls alike. Assumes nothing.
use Rattle.std.specs.Prelude.{false, List, ◌≡◌, ℕ, length, Result, Ok, Err}
use Rattle.ring.specs.Scheme.{positions}
use Rattle.rule.specs.declared.Call.{Call}
use Rattle.rule.specs.declared.Refusal.{Refusal}
use Rattle.rule.specs.Refusals.{is_done, bare_reply}
use Rattle.rule.specs.declared.Move.{Move}
use Rattle.rule.specs.declared.Reply.{Reply}
use Rattle.rule.specs.Calls.{Outcome, outcome}
use Rattle.promise.specs.Promise.{After, Answers, settled}
use Rattle.meaning.specs.Meaning.{ring_of, lent_of}
use Rattle.write.specs.Tables.{relay_table, tablet_table, listed}

-- the outcome that document 01 gives for what is lent
unfoldable pub outcome_of : ℕ → List ℕ → List ℕ → List ℕ → Call → Outcome
outcome_of scheme rs ts ms c = outcome (positions scheme) (lent_of scheme rs ts ms) (ring_of rs ts) c

-- the lists that a call is lent; a move list is of numbers, or of records
pub record Lists (M : Type 0) : Type 0 where
  pub relays : List ℕ
  pub tablets : List ℕ
  pub moves : List M

abbrev pub lists : {M : Type 0} → List ℕ → List ℕ → List M → Lists M
lists rs ts ms = record { relays = rs; tablets = ts; moves = ms }

-- an accepted outcome in the lent lists, with its moves written at the start of the list
unfoldable pub written : {M : Type 0} → (List Move → List M → List M) → List ℕ → List ℕ → List M → Outcome
    → After Reply (Lists M)
written write rs ts ms o =
    record {
      reply = o.reply;
      lent = lists (relay_table (length rs) o.ring) (tablet_table (length ts) o.ring)
          (write o.moves ms);
    }

-- and what a refused one leaves
unfoldable pub left : {M : Type 0} → (List Move → List M → List M) → List ℕ → List ℕ → List M → Outcome
    → After Reply (Lists M)
left write rs ts ms o = settled o.reply.refusal o.reply (lists rs ts ms) (written write rs ts ms o)

unfoldable pub after : ℕ → List ℕ → List ℕ → List ℕ → Call → After Reply (Lists ℕ)
after scheme rs ts ms c = left listed rs ts ms (outcome_of scheme rs ts ms c)

-- the steps of a call end so: with the reply that it promises, or with why it is refused
abbrev pub Ends : {L : Type 0} → After Reply L → Result Reply Refusal → L → Type 0
Ends a (Ok reply) lent = Answers a reply lent
Ends a (Err why) lent = Answers a (bare_reply why) lent × (is_done why ≡ false)
