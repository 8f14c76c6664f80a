-- From what a relay call finds to what it comes to.
--   add_about, remove_about, set_about          what the three calls are about
--   found_refused                               the refusals 1 and 2
--   add_refused, remove_refused, set_refused    the refusals 3 to 7
--   add_asks                                    the new relay may be put among the others
--   add_passed, remove_passed, set_passed       past them all: the relay put in, taken out, changed
-- Assumes nothing.
use mathlib.Core.Bool.{Bool, true, false, not}
use mathlib.Core.List.{List, [], ◌∷◌}
use mathlib.Core.Path.{◌≡◌, refl, sym, ap, ap₂, ◌∙◌}
use Prim.Native.Nat.{ℕ, ◌+◌, ◌-◌, ◌^◌, ◌≤◌, ◌<◌}
use borrow.Author.Tests.{leb-false, not-false}
use lib.Dec.{eqb, ltb, leb}
use native.Mathlib.Omega.{arith}
use Rattle.ring.specs.Most.{most_relays, most_limit}
use Rattle.ring.specs.Scheme.{positions}
use Rattle.ring.specs.declared.RelayNumber.{RelayNumber}
use Rattle.rule.specs.declared.Refusal.{Refusal}
use Rattle.rule.specs.declared.Refusal.TheVariants.{Done, NumberZero, TooLarge, NotThere, ThereAlready, NoUnusedPlace}
use Rattle.rule.specs.declared.Call.{Call}
use Rattle.rule.specs.declared.Call.TheVariants.{Add, Remove, Set}
use Rattle.rule.specs.Entry.{has, insert, delete, put}
use Rattle.rule.specs.Refusals.{is_done, Bar, bar, first_bar}
use Rattle.rule.specs.Calls.{subject, edited, relay_of, passed, wrong_numbers}
use Rattle.rule.proofs.Accepted.{bar_passed}
use Rattle.tables.specs.Table.{relay_places, relay_number, relay_limit}
use Rattle.std.proofs.Common.{Ok, Err}
use Rattle.meaning.specs.Meaning.{tables_refusal, relays_in, ring_of, lent_of}
use Rattle.write.specs.Wrote.{WroteEntries, Place, Climbs}
use Rattle.place.specs.Places.{SetBeside}
use Rattle.write.specs.Places.{TookOut}
use Rattle.ring.proofs.Tests.{true_false}
use Rattle.lookup.specs.Spot.{missing}
use Rattle.lookup.proofs.There.{missing_refused}
use Rattle.ring_edit.specs.declared.Around.{Around}
use Rattle.ring_edit.specs.Homes.{Homes, TakenOut, PutsIn, PutIn}
use Rattle.call_start.proofs.Stays.{relays_few_lem}
use Rattle.call_start.proofs.Refusals.{look_refused, number_refused}
use Rattle.relay_edit.specs.declared.found.Found.{Found}
use Rattle.relay_edit.specs.declared.Edit.{Edit}
use Rattle.relay_edit.specs.Found.{Stands}
use Rattle.relay_edit.specs.Refused.{add_refusal, set_refusal}
use Rattle.relay_edit.specs.Edited.{Copied, About, Written, Edits}
use Rattle.relay_edit.proofs.Bars.{add_numbers, remove_numbers, set_numbers}
use Rattle.relay_edit.proofs.Homes.{put_asks, put_around, take_around, keep_around}
use Rattle.relay_edit.proofs.OwnTable.{insert_fits, insert_written, here_small, change_fits, delete_written, put_written}

-- ---- the three calls

module _ (r : RelayNumber) where
  pub add_about : (limit : ℕ) → About (Add r limit) r.0
  unfolding edited relay_of passed
  add_about limit = record { tablets = λ g. refl; relay = λ p g. refl; passed = λ p g. refl }

  pub remove_about : About (Remove r) r.0
  unfolding edited relay_of passed
  remove_about = record { tablets = λ g. refl; relay = λ p g. refl; passed = λ p g. refl }

  pub set_about : (limit : ℕ) → About (Set r limit) r.0
  unfolding edited relay_of passed
  set_about limit = record { tablets = λ g. refl; relay = λ p g. refl; passed = λ p g. refl }

-- ---- refusals

pub found_refused : (s : ℕ) (rs ts : List ℕ) {x : ℕ} {why : Refusal} → (tables_refusal s rs ts ≡ why) × (is_done why ≡ false)
    → {c : Call} → About c x → Edits s rs ts c x (Err why)
found_refused s rs ts {why = why} w {c} a =
    record { about = a; comes = (λ ms. look_refused s rs ts ms c why w.0 w.1, w.1) }

-- ---- the refusals 3 to 7, once the tables are found right

module _ {s : ℕ} {rs ts : List ℕ} {x : ℕ} {f : Found} (stands : Stands s rs ts x f) {c : Call} (a : About c x)
    {w : Refusal} (is : (ms : List ℕ) → first_bar (wrong_numbers (lent_of s rs ts ms) (ring_of rs ts) c) ≡ w) where
  numbers_refused : (why : Refusal) → (w ≡ why) × (is_done why ≡ false) → Edits s rs ts c x (Err why)
  numbers_refused why e =
      record { about = a; comes = (λ ms. number_refused s rs ts ms c stands.start why (is ms ∙ e.0) e.1, e.1) }

  numbers_passed : is_done w ≡ true → subject c < 2 ^ 32 → (e : Edit) → f.m ≡ e.m → Written rs ts c e.n e.relays
      → Homes (positions s) e.relays ts e.n f.m e.around.keys e.around.home → Edits s rs ts c x (Ok e)
  numbers_passed d small e em o y = record {
    about = a;
    comes = record {
      used = f.n;
      survey = stands.survey;
      start = rw (← em) stands.start;
      small = small;
      numbers = λ ms. ap is_done (is ms) ∙ d;
      written = o;
      homes = rw (← em) y;
    };
  }

-- ---- what passing the refusals 3 to 7 says

add_open : (x limit : ℕ) (there full : Bool) → add_refusal x limit there full ≡ Done → (there ≡ false)
    × (full ≡ false)
unfolding add_refusal is_done
add_open x limit there full e =
    let h : is_done (add_refusal x limit there full) ≡ true = ap is_done e in
    let b₄ : List Bar = bar full NoUnusedPlace ∷ [] in
    let b₃ : List Bar = bar there ThereAlready ∷ b₄ in
    let b₂ : List Bar = bar (ltb most_limit limit) TooLarge ∷ b₃ in
    let h₁ = bar_passed (eqb x 0) NumberZero b₂ refl h in
    let h₂ = bar_passed (ltb most_limit limit) TooLarge b₃ refl h₁.1 in
    let h₃ = bar_passed there ThereAlready b₄ refl h₂.1 in
    (h₃.0, (bar_passed full NoUnusedPlace [] refl h₃.1).0)

remove_open : (x : ℕ) (there : Bool) → missing x there ≡ Done → there ≡ true
unfolding is_done
remove_open x true e = refl
remove_open x false e = absurd (true_false (sym (ap is_done e) ∙ missing_refused x))

set_open : (x limit : ℕ) (there : Bool) → set_refusal x limit there ≡ Done → there ≡ true
unfolding set_refusal is_done
set_open x limit there e =
    let h : is_done (set_refusal x limit there) ≡ true = ap is_done e in
    let b₃ : List Bar = bar (not there) NotThere ∷ [] in
    let b₂ : List Bar = bar (ltb most_limit limit) TooLarge ∷ b₃ in
    let h₁ = bar_passed (eqb x 0) NumberZero b₂ refl h in
    not-false there (bar_passed (not there) NotThere [] refl
    (bar_passed (ltb most_limit limit) TooLarge b₃ refl h₁.1).1).0

-- ---- the three calls

module _ {s : ℕ} {rs ts : List ℕ} {f : Found} (r : RelayNumber) (stands : Stands s rs ts r.0 f) where
  module _ (limit : ℕ) {places : ℕ} (ep : places ≡ relay_places rs) where
    abbrev add_bar : Refusal
    add_bar = add_refusal r.0 limit f.there (leb places f.n)

    add_is : (ms : List ℕ) → first_bar (wrong_numbers (lent_of s rs ts ms) (ring_of rs ts) (Add r limit)) ≡ add_bar
    add_is ms =
        add_numbers stands.start ms r limit ∙ sym
        (ap₂ (add_refusal r.0 limit) stands.there_is (ap (λ (k : ℕ). leb k f.n) ep))

    pub add_refused : (why : Refusal) → (add_bar ≡ why) × (is_done why ≡ false) → Edits s rs ts (Add r limit) r.0 (Err why)
    add_refused = numbers_refused stands (add_about r limit) add_is

    module _ (h : add_bar ≡ Done) {own : List ℕ} (cp : Copied rs own) where
      may_add : (has (relays_in rs f.n) r.0 ≡ false) × (f.n < relay_places rs)
      may_add =
          let o = add_open r.0 limit f.there (leb places f.n) h in
          (sym stands.there_is ∙ o.0, rw ep at (leb-false places f.n o.1))

      pub add_fits : (f.n < relay_places own) × Place (relay_number own) f.n r.0 f.at
      add_fits = insert_fits stands cp may_add.0 may_add.1

      add_few : f.n < most_relays
      add_few = omega (arith, may_add.1, relays_few_lem stands.start)

      pub add_asks : PutsIn ts f.n f.m f.at f.around.keys
      add_asks = put_asks stands add_few

      pub add_passed : r.0 < 2 ^ 32 → {own' : List ℕ} {around : Around}
          → WroteEntries own own' (f.n + 1) (insert r.0 limit (relays_in own f.n)) → {q : ℕ}
          → q ≡ (positions s).relay_at r.0 → q < 2 ^ 32
          → PutIn (positions s) ts f.n f.m f.at q f.around.keys f.around.home around
          → Edits s rs ts (Add r limit) r.0 (Ok (record { n = f.n + 1; m = f.m; relays = own'; around = around }))
      unfolding is_done
      add_passed small o eq lq t =
          numbers_passed stands (add_about r limit) add_is (ap is_done h) (unfold subject in small) _ refl
          (insert_written stands cp may_add.0 may_add.1 r limit refl o)
          (put_around stands cp limit add_few add_fits.1 o t eq lq)

  remove_is : (ms : List ℕ) → first_bar (wrong_numbers (lent_of s rs ts ms) (ring_of rs ts) (Remove r)) ≡ missing r.0 f.there
  remove_is ms = remove_numbers stands.start ms r ∙ sym (ap (missing r.0) stands.there_is)

  pub remove_refused : (why : Refusal) → (missing r.0 f.there ≡ why) × (is_done why ≡ false) → Edits s rs ts (Remove r) r.0 (Err why)
  remove_refused = numbers_refused stands (remove_about r) remove_is

  module _ (h : missing r.0 f.there ≡ Done) {own : List ℕ} (cp : Copied rs own) where
    may_remove : has (relays_in rs f.n) r.0 ≡ true
    may_remove = sym stands.there_is ∙ remove_open r.0 f.there h

    pub remove_fits : (f.at < f.n) × (f.n ≤ relay_places own) × Climbs (relay_number own) f.n
    remove_fits = change_fits stands cp may_remove

    pub remove_passed : {own' : List ℕ} {around : Around}
        → TookOut relay_number relay_limit own own' (f.n - 1) (delete (relay_number own f.at) (relays_in own f.n))
        → TakenOut (f.n - 1) f.m f.at f.around.keys f.around.home around
        → Edits s rs ts (Remove r) r.0 (Ok (record { n = f.n - 1; m = f.m; relays = own'; around = around }))
    unfolding is_done
    remove_passed o t =
        numbers_passed stands (remove_about r) remove_is (ap is_done h) (unfold subject in here_small stands cp may_remove) _ refl
        (delete_written stands cp may_remove r refl o)
        (take_around stands cp remove_fits.0 o t)

  module _ (limit : ℕ) where
    abbrev set_bar : Refusal
    set_bar = set_refusal r.0 limit f.there

    set_is : (ms : List ℕ) → first_bar (wrong_numbers (lent_of s rs ts ms) (ring_of rs ts) (Set r limit)) ≡ set_bar
    set_is ms = set_numbers stands.start ms r limit ∙ sym (ap (set_refusal r.0 limit) stands.there_is)

    pub set_refused : (why : Refusal) → (set_bar ≡ why) × (is_done why ≡ false) → Edits s rs ts (Set r limit) r.0 (Err why)
    set_refused = numbers_refused stands (set_about r limit) set_is

    module _ (h : set_bar ≡ Done) {own : List ℕ} (cp : Copied rs own) where
      may_set : has (relays_in rs f.n) r.0 ≡ true
      may_set = sym stands.there_is ∙ set_open r.0 limit f.there h

      pub set_fits : (f.at < f.n) × (f.n ≤ relay_places own) × Climbs (relay_number own) f.n
      set_fits = change_fits stands cp may_set

      pub set_passed : {own' : List ℕ} → WroteEntries own own' f.n (put (relay_number own f.at) limit (relays_in own f.n))
          × SetBeside relay_number relay_limit own own' f.at limit
          → Edits s rs ts (Set r limit) r.0 (Ok (record { n = f.n; m = f.m; relays = own'; around = f.around }))
      unfolding is_done
      set_passed o =
          numbers_passed stands (set_about r limit) set_is (ap is_done h) (unfold subject in here_small stands cp may_set) _ refl
          (put_written stands cp may_set r limit refl o.0)
          (keep_around stands cp o.1)
