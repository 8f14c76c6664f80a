-- Those who move are the moves of document 01.
--   delete_parts     the tablets without the one at a place
--   movers_holes     of the tablets from a place on, those who move fill the holes
--   chain_moves      so those behind the tablet that leaves make the move list
-- Assumes nothing.
use mathlib.Core.Bool.{true, false}
use mathlib.Core.Path.{◌≡◌, refl, sym, ap, ◌∙◌, subst}
use mathlib.Core.List.{List, [], ◌∷◌, ◌++◌, append-nil, append_assoc}
use mathlib.Core.Logic.{inl, inr}
use Prim.Native.Nat.{ℕ, zero, suc, ◌+◌, ◌-◌, ◌≤◌, ◌<◌}
use native.Mathlib.Omega.{arith}
use Rattle.ring.specs.Scheme.{positions}
use Rattle.ring.proofs.Tests.{split}
use Rattle.rule.specs.declared.Move.{Move}
use Rattle.rule.specs.Entry.{Entry, entry, has, beside_of, delete}
use Rattle.rule.specs.Rule.{Ring}
use Rattle.rule.specs.Calls.{move}
use Rattle.rule.specs.Walks.{had_passed}
use Rattle.rule.specs.Sweeps.{holes}
use Rattle.rule.specs.Facts.{Among}
use Rattle.rule.proofs.Puts.{delete_hit, delete_miss}
use Rattle.rule.proofs.Holes.{holes_take, holes_pass, holes_skip, lower_passed}
use Rattle.tables.specs.Table.{tablet_number, tablet_relay}
use Rattle.survey.specs.declared.Survey.{Survey}
use Rattle.meaning.specs.Meaning.{places, relays_in, tablets_in}
use Rattle.meaning.specs.Ascending.{Ascending}
use Rattle.meaning.proofs.Places.{beside_places, has_place}
use Rattle.slots.proofs.Lists.{Indexed, indexed}
use Rattle.call_start.specs.Start.{Start}
use Rattle.call_start.proofs.Refusals.{start_rises}
use Rattle.holes.specs.Holes.{passed_at, movers}
use Rattle.holes.specs.Filled.{moves_of}
use Rattle.holes.proofs.Sweeps.{movers_pass, movers_take}
use Rattle.withdraw.proofs.Known.{right, passed_at_lem}

-- ---- the places from one on

-- so many entries from place j on
pub from : (ℕ → ℕ) → (ℕ → ℕ) → ℕ → ℕ → List Entry
from f b j zero = []
from f b j (suc left) = entry (f j) (b j) ∷ from f b (suc j) left

module _ (f b : ℕ → ℕ) where
  places_from : (j left n : ℕ) → n ≡ j + left → places f b n ≡ places f b j ++ from f b j left
  unfolding places from
  places_from j zero n e = let z : n ≡ j = omega arith in ap (places f b) z ∙ sym (append-nil (places f b j))
  places_from j (suc left) n e =
      places_from (suc j) left n (omega arith) ∙ append_assoc (places f b j) (entry (f j) (b j) ∷ [])
      (from f b (suc j) left)

among_left : (xs ys : List Entry) (e : Entry) → Among e xs → Among e (xs ++ ys)
among_left [] ys e i = absurd i
among_left (x ∷ xs) ys e (inl u) = inl u
among_left (x ∷ xs) ys e (inr i) = inr (among_left xs ys e i)

delete_behind : (x : ℕ) (xs ys : List Entry) → ((e : Entry) → Among e xs → e.number ≡ x → ⊥) → delete x (xs ++ ys)
    ≡ xs ++ delete x ys
delete_behind x [] ys h = refl
delete_behind x (e ∷ xs) ys h =
    delete_miss x 0 e (xs ++ ys) (h e (inl refl))
    ∙ ap (λ (l : List Entry). e ∷ l) (delete_behind x xs ys (λ y i. h y (inr i)))

-- those before a place have lower numbers
before_lower : {f : ℕ → ℕ} (b : ℕ → ℕ) {n : ℕ} → Ascending f n → (at : ℕ) → at < n → (e : Entry)
    → Among e (places f b at) → e.number < f at
before_lower {f} b a at h e i =
    let x : Indexed f b at e = indexed f b at e i in
    omega (arith, ap (λ (z : Entry). z.number) x.is, a.up x.at at x.below h)

pub delete_parts : {f : ℕ → ℕ} (b : ℕ → ℕ) {n : ℕ} → Ascending f n → (at : ℕ) → at < n → delete (f at) (places f b n)
    ≡ places f b at ++ from f b (suc at) (n - suc at)
unfolding from
delete_parts {f} b {n} a at h =
    ap (delete (f at)) (places_from f b at (suc (n - suc at)) n (omega arith))
    ∙ delete_behind (f at) (places f b at) (entry (f at) (b at) ∷ from f b (suc at) (n - suc at))
    (λ e i z. omega (arith, before_lower b a at h e i))
    ∙ ap (λ (l : List Entry). places f b at ++ l)
    (delete_hit (f at) 0 (entry (f at) (b at)) (from f b (suc at) (n - suc at)) refl)

-- ---- who moves

module _ {s : ℕ} {rs ts : List ℕ} {v : Survey} (b : Start s rs ts v.n v.m v) where
  abbrev behind : ℕ → ℕ → List Entry
  behind j left = from (tablet_number ts) (tablet_relay ts) j left

  -- the tablet at place i leaves its relay
  movers_holes : (left i j : ℕ) → i < v.m → j + left ≤ v.m
      → moves_of ts (tablet_relay ts i) (movers v.home v.slot i j left) ≡ holes (positions s) (tablet_relay ts i)
      (from (tablet_number ts) (tablet_relay ts) j left)
  unfolding from moves_of
  movers_holes zero i j h l = unfold movers holes in refl
  movers_holes (suc left) i j h l =
      split (passed_at v.home v.slot i j)
      (λ p. ap (moves_of ts (tablet_relay ts i)) (movers_take v.home v.slot i j left p)
      ∙ ap (λ (l : List Move). move (tablet_number ts j) (tablet_relay ts j) (tablet_relay ts i) ∷ l)
      (movers_holes left j (suc j) (omega arith) (omega arith))
      ∙ sym (holes_take (positions s) (tablet_relay ts i) (entry (tablet_number ts j) (tablet_relay ts j))
      (behind (suc j) left) (sym (passed_at_lem b i j h (omega arith)) ∙ p)))
      (λ p. ap (moves_of ts (tablet_relay ts i)) (movers_pass v.home v.slot i j left p)
      ∙ movers_holes left i (suc j) h (omega arith)
      ∙ sym (holes_pass (positions s) (tablet_relay ts i) (entry (tablet_number ts j) (tablet_relay ts j))
      (behind (suc j) left) (sym (passed_at_lem b i j h (omega arith)) ∙ p)))

  module _ (at : ℕ) (h : at < v.m) where
    abbrev g : Ring
    g = record { relays = relays_in rs v.n; tablets = tablets_in ts v.m }

    abbrev x : ℕ
    x = tablet_number ts at

    parts : delete (tablet_number ts at) (tablets_in ts v.m) ≡ tablets_in ts at ++ from (tablet_number ts) (tablet_relay ts)
        (suc at) (v.m - suc at)
    parts = delete_parts (tablet_relay ts) (start_rises b).tablets at h

    there : has (tablets_in ts v.m) (tablet_number ts at) ≡ true
    there = has_place (tablet_number ts) (tablet_relay ts) v.m (tablet_number ts at) at h refl

    beside : beside_of (tablets_in ts v.m) (tablet_number ts at) ≡ tablet_relay ts at
    beside = beside_places (tablet_relay ts) (start_rises b).tablets at h

    -- nobody before the tablet had passed its relay
    before : (e : Entry) → Among e (tablets_in ts at) → had_passed (positions s) (tablet_relay ts at) e ≡ false
    before e i =
        ap (λ (q : ℕ). had_passed (positions s) q e) (sym beside)
        ∙ lower_passed (positions s) g (right b) x there e
        (subst (λ (l : List Entry). Among e l) (sym parts)
        (among_left (tablets_in ts at) (behind (suc at) (v.m - suc at)) e i))
        (let l : e.number < tablet_number ts at = before_lower (tablet_relay ts) (start_rises b).tablets at h e i in
        omega arith)

    pub chain_moves : moves_of ts (tablet_relay ts at) (movers v.home v.slot at (suc at) (v.m - suc at))
        ≡ holes (positions s) (beside_of (tablets_in ts v.m) (tablet_number ts at))
        (delete (tablet_number ts at) (tablets_in ts v.m))
    chain_moves =
        movers_holes (v.m - suc at) at (suc at) h (omega arith)
        ∙ sym (holes_skip (positions s) (tablet_relay ts at) (tablets_in ts at) (behind (suc at) (v.m - suc at)) before)
        ∙ ap (holes (positions s) (tablet_relay ts at)) (sym parts)
        ∙ ap (λ (q : ℕ). holes (positions s) q (delete (tablet_number ts at) (tablets_in ts v.m))) (sym beside)
