-- What an enrolment comes to (document 01, "The rule of placement", "Replies"). Assumes nothing.
use Rattle.std.specs.Prelude.{Bool, true, false, Result, MatchResult, List, [], ◌∷◌, ◌++◌, ◌≡◌, ℕ, zero, suc, ◌*◌, ◌^◌, ◌≤◌, ◌<◌, eqb, leb, length, get_or}
use Rattle.ring.specs.Most.{most_relays}
use Rattle.ring.specs.Scheme.{Positions, positions}
use Rattle.ring.specs.declared.TabletNumber.{TabletNumber}
use Rattle.rule.specs.declared.Refusal.{Refusal}
use Rattle.rule.specs.declared.Refusal.TheVariants.{Done, NumberZero, ThereAlready, NoUnusedPlace}
use Rattle.rule.specs.declared.Move.{Move}
use Rattle.rule.specs.Entry.{insert}
use Rattle.rule.specs.declared.Call.TheVariants.{Enrol}
use Rattle.rule.specs.Refusals.{is_done, bar, first_bar}
use Rattle.rule.specs.Calls.{passed, moves, relay_of, refusal}
use Rattle.rule.specs.Calls as Calls
use Rattle.rule.specs.Sweeps.{seated}
use Rattle.rule.specs.Stability.{Rising}
use Rattle.rule.specs.Moves.{tablets_listed}
use Rattle.tables.specs.Table.{relay_places, tablet_places, relay_number, tablet_number, tablet_relay, is_whole}
use Rattle.nearest.specs.Nearest.{Nearest}
use Rattle.row.specs.Row.{slot_room, Leads}
use Rattle.survey.specs.declared.Survey.{Survey}
use Rattle.meaning.specs.Meaning.{tablets_in, ring_of, lent_of}
use Rattle.write.specs.Tables.{relay_table}
use Rattle.write.specs.Wrote.{Climbs, Place}
use Rattle.write.specs.Places.{Zeros}
use Rattle.chain.specs.declared.Chain.{Chain}
use Rattle.chain.specs.Chain.{link_at}
use Rattle.newcomer.specs.declared.Enrolment.{Enrolment}

-- the refusals 3, 6 and 7
unfoldable pub newcomer_refusal : ℕ → Bool → ℕ → ℕ → Refusal
newcomer_refusal number there places m =
    first_bar (bar (eqb number 0) NumberZero ∷ bar there ThereAlready ∷ bar (leb places m) NoUnusedPlace ∷ [])

-- the slot of the newcomer's home, and the first slot with room from there
pub record Seeks (p : Positions) (v : Survey) (x h stop : ℕ) : Type 0 where
  pub home : Nearest v.keys v.n (p.tablet_at x) h
  pub leads : Leads v.keys v.room v.n h stop
  pub small : p.tablet_at x < 2 ^ 32
  pub some_relay : 0 < v.n
  pub opens : 0 < slot_room v.keys v.room stop

-- those who gave way, in the order of the chain
unfoldable pub others_of : ℕ → List ℕ → List ℕ → List ℕ → List ℕ → ℕ → List Move
others_of x rs ts place seat zero = []
others_of x rs ts place seat (suc c) = others_of x rs ts place seat c ++ (link_at x rs ts place seat (suc c) ∷ [])

-- what the seating is made from: right places for all who gave way
pub record Seatable (rs ts ms : List ℕ) (m : ℕ) (z : Chain) : Type 0 where
  pub few : z.others < most_relays
  pub tablets : m ≤ tablet_places ts
  pub climbs : Climbs (tablet_number ts) m
  pub places : (i : ℕ) → 0 < i → i ≤ z.others → get_or z.place i 0 < m
  pub relays : (i : ℕ) → i ≤ z.others → get_or z.seat i 0 < relay_places rs
  pub list : 3 * z.others ≤ length ms

-- ---- what it comes to

-- what is to be written once nothing refuses the call: the newcomer's place, and who sits down where
pub record Worked (scheme : ℕ) (rs ts ms : List ℕ) (t : TabletNumber) (e : Enrolment) : Type 0 where
  pub refusal : refusal (positions scheme) (lent_of scheme rs ts ms) (ring_of rs ts) (Enrol t) ≡ Done
  pub seatable : Seatable rs ts ms e.m e.chain
  pub short : e.chain.steps < most_relays
  pub above : Rising t.0 (tablets_listed (others_of t.0 rs ts e.chain.place e.chain.seat e.chain.others))
  pub unused : e.m < tablet_places ts
  pub place : Place (tablet_number ts) e.m t.0 e.at
  pub whole : is_whole ts ≡ true
  pub zeros : Zeros (tablet_number ts) (tablet_relay ts) e.m (tablet_places ts)
  pub passed : passed (positions scheme) (ring_of rs ts) (Enrol t) ≡ e.chain.steps
  pub moves : moves (positions scheme) (ring_of rs ts) (Enrol t) ≡ others_of t.0 rs ts e.chain.place e.chain.seat e.chain.others
  pub relay : relay_of (positions scheme) (ring_of rs ts) (Enrol t) ≡ relay_number rs (get_or e.chain.seat 0 0)
  pub tablets : (Calls.after (positions scheme) (ring_of rs ts) (Enrol t)).tablets
      ≡ seated (others_of t.0 rs ts e.chain.place e.chain.seat e.chain.others)
      (insert t.0 (relay_number rs (get_or e.chain.seat 0 0)) (tablets_in ts e.m))
  pub relays : rs ≡ relay_table (length rs) (Calls.after (positions scheme) (ring_of rs ts) (Enrol t))

-- the enrolment, or the refusal that applies
abbrev pub Prepared : ℕ → List ℕ → List ℕ → List ℕ → TabletNumber → Result Enrolment Refusal → Type 0
Prepared scheme rs ts ms t r =
    MatchResult r (Worked scheme rs ts ms t)
    (λ why. (refusal (positions scheme) (lent_of scheme rs ts ms) (ring_of rs ts) (Enrol t) ≡ why) × (is_done why ≡ false))
