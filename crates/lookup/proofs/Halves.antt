-- What a search by halves finds among rising numbers.
--   searched         where the search ends
-- Assumes nothing.
use Rattle.std.proofs.Common.{◌≡◌, ℕ, ◌<◌, ◌≤◌, List, [], length, get_or, sym, ap, ◌∙◌, arith}
use Rattle.std.specs.Prelude.{Result, MatchResult, true, false}
use Rattle.std.specs.declared.result.Result.TheVariants.{Ok, Err}
use Rattle.std.specs.List.Sorted.{IsSearchInRange, IsBinarySearchResult, IsNonDecreasingBy}
use Rattle.std.specs.Ordering.{nat_cmp, ordering_index}
use Rattle.std.proofs.lemmas.Cmp.{ranked}
use Rattle.std.proofs.lemmas.List.Sorted.{IsNonDecreasingBy-from_default}
use Rattle.std.proofs.lemmas.Bool.Decides.{nat_tests}
use Rattle.meaning.specs.Ascending.{Ascending}
use Rattle.tables.specs.Table.{number_in, beside_in}
use Rattle.lookup.specs.Spot.{Spot, Sought}
use Rattle.lookup.proofs.There.{is_there, not_there}

module _ (t : List ℕ) (n : ℕ) (a : Ascending (number_in t) n) (x : ℕ) (xs : List (List ℕ)) (len : length xs ≡ n)
    (reads : (i : ℕ) (d : List ℕ) → i < n → get_or (get_or xs i d) 0 0 ≡ number_in t i) where
  rise : IsNonDecreasingBy (λ (place : List ℕ). ordering_index (nat_cmp (get_or place 0 0) x)) xs
  rise = IsNonDecreasingBy-from_default (λ (place : List ℕ). ordering_index (nat_cmp (get_or place 0 0) x)) xs [] (λ i j h l.
      let k : j < n = omega (arith, len) in
      let up : number_in t i ≤ number_in t j = grind (arith, a.up i j, λ (same : i ≡ j). ap (number_in t) same) in
      rw (reads i [] (omega arith), reads j [] k) (grind (arith, nat_tests)))

  -- and among the others none is x
  pub searched : (r : Result ℕ ℕ) → IsSearchInRange r (length xs)
      → IsBinarySearchResult (λ (place : List ℕ). nat_cmp (get_or place 0 0) x) xs r
      → MatchResult r (λ at. Sought t n x true at) (λ at. Sought t n x false at)
  searched (Ok at) h e =
      let k : at < n = omega (arith, len) in
      let here : number_in t at ≡ x = sym (reads at [] k) ∙ ranked _ x _ (sym (e [])) in
      let spot : Spot (number_in t) n x at = record {
        within = omega arith;
        below = λ i l. omega (arith, a.up i at l k);
        from = λ i l m. grind (arith, a.up at i, λ (same : at ≡ i). ap (number_in t) same);
      } in
      record { spot = spot; there = is_there (beside_in t) a spot k here }
  searched (Err at) h parted =
      let above : (i : ℕ) → at ≤ i → i < n → x < number_in t i
      = λ i l k. omega (arith, reads i [] k, ranked _ x _ (sym ((parted rise).1 i [] l (omega (arith, len))))) in
      let spot : Spot (number_in t) n x at = record {
        within = omega (arith, len);
        below = λ i l. omega (arith, reads i [] (omega (arith, len)), ranked _ x _ (sym ((parted rise).0 i [] (omega arith) l)));
        from = λ i l k. omega (arith, above i l k);
      } in
      record { spot = spot; there = not_there (beside_in t) a spot above }
