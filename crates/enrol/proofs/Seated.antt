-- Those who gave way sit down, one after the other.
--   seating_start, seating_more   none yet, and one more
-- Assumes nothing.
use mathlib.Core.Path.{◌≡◌, refl, sym, ap, ◌∙◌, subst}
use mathlib.Core.List.{List, [], ◌∷◌, ◌++◌}
use Prim.Native.Nat.{ℕ, suc, ◌+◌, ◌*◌, ◌≤◌}
use native.Mathlib.Omega.{arith}
use native.Mathlib.Numerals.{add-one}
use lib.ListN.{length, get_or}
use Rattle.rule.specs.declared.Move.{Move}
use Rattle.rule.specs.Entry.{put}
use Rattle.rule.specs.Sweeps.{seated}
use Rattle.rule.proofs.Turns.{seated_append}
use Rattle.tables.specs.Table.{relay_number, tablet_number, tablet_places, places_of}
use Rattle.meaning.specs.Meaning.{tablets_in}
use Rattle.write.specs.Tables.{listed}
use Rattle.write.specs.Wrote.{Climbs}
use Rattle.write.proofs.Listed.{listed_none, listed_more, length_listed}
use Rattle.chain.specs.declared.Chain.{Chain}
use Rattle.chain.specs.Chain.{link_at, name_at, from_at}
use Rattle.newcomer.specs.Newcomer.{others_of}
use Rattle.enrol.specs.Enrol.{OneSeated, OthersSeated}
use Rattle.newcomer.proofs.Outcomes.{length_others}

pub climbs_still : {f g : ℕ → ℕ} {m : ℕ} → ((i : ℕ) → g i ≡ f i) → Climbs f m → Climbs g m
climbs_still e u = record { up = λ i l a b. let z = u.up i l a b in omega (arith, e i, e l) }

module _ (x : ℕ) (rs ts ms : List ℕ) (z : Chain) (m : ℕ) where
  abbrev place : List ℕ
  place = z.place

  abbrev seat : List ℕ
  seat = z.seat

  pub seating_start : OthersSeated x rs ts ms z ts ms m 0
  unfolding others_of seated
  seating_start =
      record { size = refl; numbers = λ i. refl; relays = λ i h. refl; entries = refl; list = listed_none ms }

  pub seating_more : {ts₁ ms₁ ts₂ ms₂ : List ℕ} (c : ℕ) → OthersSeated x rs ts ms z ts₁ ms₁ m c
      → 3 * (c + 1) ≤ length ms
      → OneSeated rs ts₁ ts₂ ms₁ ms₂ m c (get_or place (c + 1) 0) (get_or seat c 0) (get_or seat (c + 1) 0)
      → OthersSeated x rs ts ms z ts₂ ms₂ m (c + 1)
  seating_more {ts₁} {ms₁} {ts₂} {ms₂} c s h d =
      let one : Move = link_at x rs ts place seat (suc c) in
      let e : others_of x rs ts place seat (c + 1) ≡ others_of x rs ts place seat c ++ (one ∷ []) =
      ap (others_of x rs ts place seat) (add-one c) ∙ unfold others_of in refl in
      let t : tablet_number ts₁ (get_or place (c + 1) 0) ≡ one.tablet.0 = s.numbers (get_or place (c + 1) 0) ∙ name in
      record {
        size = d.size ∙ s.size;
        numbers = λ i. d.numbers i ∙ s.numbers i;
        relays = λ i l. d.relays i l ∙ s.relays i l;
        entries = d.entries ∙ ap (λ (q : ℕ). put q (relay_number rs (get_or seat (c + 1) 0)) (tablets_in ts₁ m)) t
            ∙ ap (λ (q : ℕ). put one.tablet.0 q (tablets_in ts₁ m)) to ∙ ap (put one.tablet.0 one.new.0)
            s.entries
            ∙ sym (ap (λ (l : List Move). seated l (tablets_in ts m)) e ∙ seated_append (others_of x rs ts place seat c)
            (one ∷ [])
            (tablets_in ts m) ∙ unfold seated in refl);
        list = listed_more (others_of x rs ts place seat c) ms one s.list (sym (length_others x rs ts place seat c)) h
            (d.list ∙ rw (t, from, to))
            ∙ ap (λ (l : List Move). listed l ms) (sym e);
      }
    where
      name : tablet_number ts (get_or place (c + 1) 0) ≡ (link_at x rs ts place seat (suc c)).tablet.0
      name = unfold link_at name_at in (ap (λ (q : ℕ). tablet_number ts (get_or place q 0)) (add-one c))

      from : relay_number rs (get_or seat c 0) ≡ (link_at x rs ts place seat (suc c)).old.0
      from = unfold link_at from_at in refl

      to : relay_number rs (get_or seat (c + 1) 0) ≡ (link_at x rs ts place seat (suc c)).new.0
      to = unfold link_at in (ap (λ (q : ℕ). relay_number rs (get_or seat q 0)) (add-one c))

-- ---- what stays

pub places_still : (a b : List ℕ) {m : ℕ} → length a ≡ length b → m ≤ tablet_places b → m ≤ tablet_places a
unfolding places_of
places_still a b e h = rw e h

pub list_length : {x : ℕ} {rs ts ms : List ℕ} {z : Chain} {ts' ms' : List ℕ} {m c : ℕ} → c ≤ z.others
    → 3 * z.others ≤ length ms → OthersSeated x rs ts ms z ts' ms' m c → length ms' ≡ length ms
list_length {x} {rs} {ts} {ms} {z} {c = c} l h s =
    ap length s.list ∙ length_listed (others_of x rs ts z.place z.seat c) ms
    (omega (arith, length_others x rs ts z.place z.seat c))

pub sat_at : {rs ts ts' ms ms' : List ℕ} {m c j old new j' old' new' : ℕ} → OneSeated rs ts ts' ms ms' m c j old new
    → j ≡ j' → old ≡ old'
    → new ≡ new' → OneSeated rs ts ts' ms ms' m c j' old' new'
sat_at d ej eo en = rw (← ej, ← eo, ← en) d

pub seated_all : {x : ℕ} {rs ts ms : List ℕ} {z : Chain} {ts' ms' : List ℕ} {m c : ℕ} → c ≤ z.others → z.others ≤ c
    → OthersSeated x rs ts ms z ts' ms' m c → OthersSeated x rs ts ms z ts' ms' m z.others
seated_all {x} {rs} {ts} {ms} {z} {ts'} {ms'} {m} {c} a b s =
    subst (λ (q : ℕ). OthersSeated x rs ts ms z ts' ms' m q) (omega arith) s
