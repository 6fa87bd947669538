-- Signal data over a window: the header, then the joined data.
use Rattle.std.specs.Prelude.{ℕ, ◌+◌, List, ◌≡◌, refl, length, take}
use Rattle.std.proofs.Common.{sym, ◌∙◌, arith, take_all}
use Rattle.base.specs.Blit.{part}
use Rattle.base.specs.Checked.{fine}
use Rattle.mdf.specs.Block.{kind_sd}
use Rattle.mdf.specs.Records.{ranges_in, joined, size_of}
use Rattle.work_words.specs.Words.{fragments_of}
use Rattle.result.specs.Fill.{header, block_of}
use Rattle.result.specs.FillLaws.{length-header}
use Rattle.payload_laws.specs.SortedLaws.{joined_length}
use Rattle.stores.specs.Over.{over}
use Rattle.stores.specs.OverLaws.{over-append}

pub signal_laid : (s ws : List ℕ) (a at n : ℕ) (w : List ℕ) {mid last : List ℕ} → ranges_in s (fragments_of ws) ≡ fine → n ≡ size_of (fragments_of ws)
    → mid ≡ over a at (header kind_sd (24 + n) 0) w → last ≡ over a (at + 24) (part 0 n (joined s (fragments_of ws))) mid
    → last ≡ over a at (block_of kind_sd (joined s (fragments_of ws))) w
unfolding block_of part
signal_laid s ws a at n w r e h d =
    let l : length (joined s (fragments_of ws)) ≡ n = joined_length s (fragments_of ws) r ∙ sym e in
    let t : take n (joined s (fragments_of ws)) ≡ joined s (fragments_of ws) = take_all n (joined s (fragments_of ws)) (omega (arith, l)) in
    let o = over-append a at (header kind_sd (24 + n) 0) (joined s (fragments_of ws)) w in
    d ∙ rw (t, h, l) (sym (o ∙ rw (length-header kind_sd (24 + n) 0) refl))
