-- A table as places: what the writing functions say, over what each place gives.
--   set_changed, beside_changed      one place is changed
--   wrote_entries, took_out          what the functions say, of what every place gives
-- Assumes nothing.
use mathlib.Core.List.{List}
use mathlib.Core.Path.{◌≡◌, ap, ap₂}
use Prim.Native.Nat.{ℕ}
use lib.ListN.{length}
use Rattle.rule.specs.Entry.{Entry, entry}
use Rattle.write.specs.Wrote.{WroteEntries}
use Rattle.place.specs.Places.{SetPlace, SetBeside}
use Rattle.write.specs.Places.{TookOut}
use Rattle.write.proofs.Shifts.{place_at, Changed, Wrote, Took}

-- the entry at a place
abbrev pub entry_at : (List ℕ → ℕ → ℕ) → (List ℕ → ℕ → ℕ) → List ℕ → ℕ → Entry
entry_at number_at beside_at l i = entry (number_at l i) (beside_at l i)

same_number : {e e' : Entry} → e ≡ e' → e.number ≡ e'.number
same_number p = ap (λ (e : Entry). e.number) p

same_beside : {e e' : Entry} → e ≡ e' → e.beside ≡ e'.beside
same_beside p = ap (λ (e : Entry). e.beside) p

module _ {number_at beside_at : List ℕ → ℕ → ℕ} {before after : List ℕ} {k : ℕ} where
  pub set_changed : {x v : ℕ} → SetPlace number_at beside_at before after k x v
      → Changed (entry_at number_at beside_at before) (entry_at number_at beside_at after) k (entry x v)
  set_changed s =
      record { here = ap₂ entry s.number s.beside; other = λ i d. ap₂ entry (s.numbers i d) (s.besides i d) }

  pub beside_changed : {v : ℕ} → SetBeside number_at beside_at before after k v
      → Changed (entry_at number_at beside_at before) (entry_at number_at beside_at after) k (entry (number_at before k) v)
  beside_changed s =
      record { here = ap₂ entry (s.numbers k) s.beside; other = λ i d. ap₂ entry (s.numbers i) (s.besides i d) }

pub took_out : {number_at beside_at : List ℕ → ℕ → ℕ} {before after : List ℕ} {k : ℕ} {es : List Entry} → length after
    ≡ length before
    → Took (entry_at number_at beside_at before) (entry_at number_at beside_at after) k es
    → TookOut number_at beside_at before after k es
took_out e w =
    record {
      size = e;
      entries = w.entries;
      number = same_number w.zeros;
      beside = same_beside w.zeros;
      numbers = λ i l. same_number (w.later i l);
      besides = λ i l. same_beside (w.later i l);
    }

pub wrote_entries : {before after : List ℕ} {n : ℕ} {es : List Entry} → length after ≡ length before
    → Wrote (place_at before) (place_at after) n es → WroteEntries before after n es
wrote_entries e w =
    record {
      size = e;
      entries = w.entries;
      number = λ i l. same_number (w.later i l);
      beside = λ i l. same_beside (w.later i l);
    }
