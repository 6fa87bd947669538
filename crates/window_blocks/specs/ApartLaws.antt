-- Bytes apart from a window leave it as it was.
use Rattle.std.specs.Prelude.{◌≡◌, ℕ, ◌≤◌, true, false, List, length}
use Rattle.std.proofs.lemmas.Bool.{false≢true}
use Rattle.std.proofs.Common.{⊎_elim, sym, arith}
use Rattle.stores.specs.Over.{over}
use Rattle.stores.specs.OverLaws.{over_before}
use Rattle.windows.specs.WindowedLaws.{over-past}
use Rattle.window_blocks.specs.Apart.{Apart}

pub apart_same : (a at n k : ℕ) (bs w : List ℕ) → Apart (length w) a at n → length bs ≡ k → k ≤ n → w ≡ over a at bs w
apart_same a at n k bs w h e l = ⊎_elim (λ b. sym (over_before a at bs w (omega arith))) (λ p. sym (over-past a at bs w p)) h

-- an answer that isn't given
pub not_said : {A : Type 0} → false ≡ true → A
not_said e = absurd (false≢true e)
