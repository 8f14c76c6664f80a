-- What a relay call's last steps ask and do (document 01, "The lent tables"). Assumes nothing.
use Rattle.std.specs.Prelude.{List, ◌≡◌, ℕ, ◌<◌, length, get_or, Result}
use Rattle.rule.specs.declared.Call.{Call}
use Rattle.rule.specs.declared.Refusal.{Refusal}
use Rattle.relay_edit.specs.declared.Edit.{Edit}
use Rattle.relay_edit.specs.Edited.{Edits}

-- as long as before, with the first numbers of `own`
pub record Replaced (own before after : List ℕ) : Type 0 where
  pub size : length after ≡ length before
  pub same : (i : ℕ) → i < length before → get_or after i 0 ≡ get_or own i 0

-- the edit comes of some call about relay r, under some scheme
pub record Comes (rs ts : List ℕ) (r : ℕ) (e : Result Edit Refusal) : Type 0 where
  pub scheme : ℕ
  pub call : Call
  pub edits : Edits scheme rs ts call r e
