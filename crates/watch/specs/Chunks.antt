-- What a read of the input brings (document 01, "A drill to prove"; docs/DECISIONS.md, reading 9). A read answers how many bytes came, 0 at the end
-- of the input, or with an error where it failed. Assumes nothing.
use Rattle.std.specs.Prelude.{List, [], ◌∷◌, ◌≡◌, ℕ, zero, suc, min, Result, Ok, Err, take}
use Rattle.std.proofs.lemmas.List.Edits.{sets}
use Rattle.watch.specs.declared.Brought.{Brought}
use Rattle.watch.specs.declared.Brought.TheVariants.{More, Last}

-- how many bytes of the chunk are to be taken
abbrev pub bytes_of : Brought → ℕ
bytes_of (More count) = count
bytes_of (Last count) = count

-- the newline that a last line lacks is due where bytes of a line are kept and the input has ended; a line that a failed read cut off gets none
abbrev pub brought_by : {E : Type 0} → Result ℕ E → ℕ → Brought
brought_by (Ok zero) kept = Last (min kept 1)
brought_by (Ok (suc n)) kept = More (suc n)
brought_by (Err why) kept = Last 0

abbrev pub chunk_by : {E : Type 0} → Result ℕ E → ℕ → List ℕ → List ℕ
chunk_by (Ok zero) kept chunk = sets chunk 0 (take (min kept 1) (10 ∷ []))
chunk_by (Ok (suc n)) kept chunk = chunk
chunk_by (Err why) kept chunk = chunk

-- what is to be taken of the chunk, and whether more may come
pub record Brings {E : Type 0} (got : Result ℕ E) (kept : ℕ) (chunk : List ℕ) (brought : Brought) (exit : List ℕ) : Type 0 where
  pub brought_is : brought ≡ brought_by got kept
  pub chunk_is : exit ≡ chunk_by got kept chunk
