-- The tally and the loads (document 01, "Sheet, balance, tally").
--   loads_length   the relays' loads sum to the tablets
--   tally_loads    from empty tables and a zero tally, while no count has stopped, they sum to enrolments less withdrawals
-- Assumes nothing.
use mathlib.Core.Bool.{true, false, not}
use mathlib.Core.Path.{◌≡◌, refl, ap, ◌∙◌}
use mathlib.Core.List.{List, [], ◌∷◌}
use mathlib.Core.Logic.{inl, inr, ⊎_elim}
use Prim.Native.Nat.{ℕ, suc, ◌+◌, ◌^◌, ◌≤◌, ◌<◌}
use native.Mathlib.Omega.{arith}
use borrow.Author.Tests.{eqb-true, eqb-false, ne_eqb, not-false}
use lib.Dec.{eqb}
use lib.ListN.{length}
use Rattle.ring.specs.Scheme.{Positions}
use Rattle.ring.proofs.Tests.{split}
use Rattle.rule.specs.declared.Call.{Call}
use Rattle.rule.specs.declared.Call.TheVariants.{Add, Remove, Set, Enrol, Withdraw, Find}
use Rattle.rule.specs.declared.Refusal.TheVariants.{NumberZero, NotThere}
use Rattle.rule.specs.declared.Reply.{Reply}
use Rattle.rule.specs.declared.Tally.{Tally}
use Rattle.rule.specs.Entry.{Entry, numbers, has, beside_of, load, loads, count}
use Rattle.rule.specs.Rule.{Ring}
use Rattle.rule.specs.Refusals.{is_done, bare_reply, Bar, bar, first_bar}
use Rattle.rule.specs.Calls.{Lent, subject, edited, after, wrong_numbers, refusal, accepted, declined, outcome}
use Rattle.rule.specs.Tally.{more, enrolments, withdrawals, counted, Step, Station, step, run, new, Going, Fit}
use Rattle.rule.specs.Stability.{Rising, In, Sits}
use Rattle.rule.specs.Facts.{Right}
use Rattle.rule.specs.Applies.{Accepted}
use Rattle.rule.proofs.Counts.{length_insert, length_delete}
use Rattle.rule.proofs.Right.{right_is, right_stable}
use Rattle.rule.proofs.Demand3.{has_in, held_has, has_sits}
use Rattle.rule.proofs.Accepted.{accepted_is, bar_passed, Edited, edited_tables, after_length, after_right, outcome_accepted, outcome_declined}

-- ---- the loads

loads_none : (rs : List Entry) → loads rs [] ≡ 0
unfolding loads load count
loads_none [] = refl
loads_none (r ∷ rs) = omega (arith, loads_none rs)

-- one more tablet, at a relay below these
loads_below : (rs : List Entry) (low : ℕ) → Rising low (numbers rs) → (e : Entry) (ts : List Entry) → e.beside ≤ low
    → loads rs (e ∷ ts) ≡ loads rs ts
unfolding loads load count numbers
loads_below [] low up e ts h = refl
loads_below (r ∷ rs) low up e ts h =
    rw (ne_eqb e.beside r.number (λ (x : e.beside ≡ r.number). omega (arith, up.0)))
    (omega (arith, loads_below rs r.number up.1 e ts (omega (arith, up.0))))

-- one more tablet, at one of these
loads_more : (rs : List Entry) (low : ℕ) → Rising low (numbers rs) → (e : Entry) (ts : List Entry)
    → In e.beside (numbers rs) → loads rs (e ∷ ts) ≡ suc (loads rs ts)
unfolding loads load count numbers
loads_more [] low up e ts i = absurd i
loads_more (r ∷ rs) low up e ts i =
    split (eqb e.beside r.number)
    (λ s. rw s (omega (
      arith,
      loads_below rs r.number up.1 e ts
          (omega (arith, eqb-true e.beside r.number s)),
    )))
    (λ s. rw s (omega (
      arith,
      loads_more rs r.number up.1 e ts
          (⊎_elim (λ u. absurd (eqb-false e.beside r.number s u)) (λ j. j) i),
    )))

loads_all : (rs : List Entry) → Rising 0 (numbers rs) → (ts : List Entry)
    → ((n v : ℕ) → Sits ts n v → In v (numbers rs)) → loads rs ts ≡ length ts
loads_all rs up [] f = loads_none rs
loads_all rs up (e ∷ ts) f =
    loads_more rs 0 up e ts (f e.number e.beside (inl (refl, refl)))
    ∙ ap suc (loads_all rs up ts (λ n v i. f n v (inr i)))

pub loads_length : (p : Positions) (g : Ring) → Right p g → loads g.relays g.tablets ≡ length g.tablets
loads_length p g r =
    loads_all g.relays r.relays.up g.tablets
    (λ n v i. has_in g.relays v (held_has g.relays v (omega (arith, (right_stable p g r n v i).room))))

-- ---- the counts

-- a station whose loads sum to its tablets, which are the enrolments less the withdrawals
record Even (s : Station) : Type 0 where
  loads : loads s.ring.relays s.ring.tablets ≡ length s.ring.tablets
  counts : length s.ring.tablets + s.tally.withdrawals ≡ s.tally.enrolments

-- a count that goes on after a call went on before it
counted_going : (t : Tally) (c : Call) (r : Reply) → Going (counted t c r) → Going t
unfolding counted more
counted_going t c r =
    split (is_done r.refusal)
    (λ d. rw (d, counted) (λ g. record {
      enrolments = omega (arith, g.enrolments);
      withdrawals = omega
          (arith, g.withdrawals);
      moves = omega (arith, g.moves);
      refusals = omega (arith, g.refusals);
    }))
    (λ d. rw (d, counted) (λ g. record {
      enrolments = omega (arith, g.enrolments);
      withdrawals = omega
          (arith, g.withdrawals);
      moves = omega (arith, g.moves);
      refusals = omega (arith, g.refusals);
    }))

run_going : (s : Station) (cs : List Step) → Going (run s cs).tally → Going s.tally
unfolding run step
run_going s [] g = g
run_going s (c ∷ cs) g =
    counted_going s.tally c.call (outcome c.positions c.lent s.ring c.call).reply
    (run_going (step s c) cs g)

-- an accepted call changes the number of tablets as it is counted
edited_length : (p : Positions) (m : Lent) (g : Ring) (c : Call) → Right p g → is_done (first_bar (wrong_numbers m g c))
    ≡ true
    → length (edited g c).tablets + withdrawals c ≡ length g.tablets + enrolments c
unfolding edited wrong_numbers is_done
edited_length p m g (Add r l) ok h = refl
edited_length p m g (Remove r) ok h = refl
edited_length p m g (Set r l) ok h = refl
edited_length p m g (Enrol t) ok h = omega (arith, length_insert t.0 0 g.tablets)
edited_length p m g (Withdraw t) ok h =
    let b₂ : List Bar = bar (not (has g.tablets t.0)) NotThere ∷ [] in
    let h₁ : (eqb t.0 0 ≡ false) × (is_done (first_bar b₂) ≡ true) = bar_passed (eqb t.0 0) NumberZero b₂ refl h in
    let h₂ : (not (has g.tablets t.0) ≡ false) × (is_done (first_bar []) ≡ true) = bar_passed
    (not (has g.tablets t.0)) NotThere [] refl h₁.1 in
    omega (
      arith,
      length_delete t.0 (beside_of g.tablets t.0) g.tablets 0 ok.tablets.up
          (has_sits g.tablets 0 t.0 ok.tablets.up (not-false (has g.tablets t.0) h₂.0)),
    )
edited_length p m g (Find t) ok h = refl

-- what is counted keeps the two even, of a done call and of a refused one
even_done : (t : Tally) (c : Call) (r : Reply) → is_done r.refusal ≡ true → (before now_there : ℕ)
    → now_there + withdrawals c ≡ before + enrolments c
    → before + t.withdrawals ≡ t.enrolments → Going (counted t c r) → now_there + (counted t c r).withdrawals
    ≡ (counted t c r).enrolments
unfolding counted more
even_done t c r d before now_there h e = rw (d, counted) (λ g. omega (arith, g.enrolments, g.withdrawals))

even_refused : (t : Tally) (c : Call) (r : Reply) → is_done r.refusal ≡ false → (before : ℕ)
    → before + t.withdrawals ≡ t.enrolments → before + (counted t c r).withdrawals ≡ (counted t c r).enrolments
unfolding counted
even_refused t c r d before e = rw (d, counted) e

module _ (s : Station) (c : Step) (small : subject c.call < 2 ^ 32) where
  abbrev p : Positions
  p = c.positions

  abbrev g : Ring
  g = s.ring

  -- an accepted call found right tables, whatever the calls before it went by
  step_even : Going (step s c).tally → Even s → Even (step s c)
  unfolding step accepted declined is_done
  step_even =
      split (is_done (refusal p c.lent g c.call))
      (λ d.
      let a : Accepted p c.lent g c.call = accepted_is p c.lent g c.call d in
      let ok : Right p g = right_is p g a.tables in
      let ed : Edited g c.call = edited_tables p c.lent g c.call ok a.numbers small in
      let k : length (after p g c.call).tablets + withdrawals c.call ≡ length g.tablets + enrolments
      c.call =
      omega (arith, after_length p g c.call ed a.enough, edited_length p c.lent g c.call ok a.numbers) in
      rw (outcome_accepted p c.lent g c.call d)
      (λ go e. record {
        loads = loads_length p (after p g c.call) (after_right p g c.call ed a.enough);
        counts = even_done s.tally c.call (accepted p g c.call).reply refl (length g.tablets)
            (length (after p g c.call).tablets) k e.counts go;
      }))
      (λ d. rw (outcome_declined p c.lent g c.call d)
      (λ go e. record {
        loads = e.loads;
        counts = even_refused s.tally c.call (bare_reply (refusal p c.lent g c.call)) d (length g.tablets)
            e.counts;
      }))

run_even : (s : Station) (cs : List Step) → Fit cs → Going (run s cs).tally → Even s → Even (run s cs)
unfolding run
run_even s [] f g e = e
run_even s (c ∷ cs) f g e = run_even (step s c) cs f.1 g (step_even s c f.0 (run_going (step s c) cs g) e)

new_even : Even new
unfolding new loads
new_even = record { loads = refl; counts = refl }

pub tally_loads : (cs : List Step) → Fit cs → Going (run new cs).tally
    → loads (run new cs).ring.relays (run new cs).ring.tablets + (run new cs).tally.withdrawals
    ≡ (run new cs).tally.enrolments
tally_loads cs f g =
    let e : Even (run new cs) = run_even new cs f g new_even in
    ap (λ (n : ℕ). n + (run new cs).tally.withdrawals) e.loads ∙ e.counts
