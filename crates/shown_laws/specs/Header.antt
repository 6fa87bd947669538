-- A block that stands in a file: its kind, length, links and data, read from the file.
use Rattle.std.specs.Prelude.{◌≡◌, refl, List, [], ◌∷◌, ◌++◌, ℕ, zero, suc, ◌+◌, ◌*◌, ◌^◌, ◌<◌, length, get_or}
use Rattle.std.proofs.Common.{arith, length-append}
use Rattle.base.specs.Field.{le_at, le}
use Rattle.base.specs.FieldLaws.{length-le}
use Rattle.mdf.specs.Block.{kind_at, size_at, links_at, link_at, data_at}
use Rattle.result.specs.Fill.{header, words}
use Rattle.result.specs.Guarantee.{Stands}
use Rattle.shown_laws.specs.Standing.{stands_to, stands_front, stands_at, read}
pub use Rattle.result.specs.FillLaws.{length-header}

-- ---- where a header stands
module _ {f : List ℕ} {a : ℕ} (k n c : ℕ) (s : Stands f a (header k n c)) where
  pub header-kind : k < 256 ^ 4 → kind_at f a ≡ k
  unfolding header kind_at
  header-kind h = read 4 k (stands_front _ _ (stands_front _ _ (stands_front _ _ s))) h

  pub header-size : n < 256 ^ 8 → size_at f a ≡ n
  unfolding header size_at
  header-size h = read 8 n (stands_at (le 4 k ++ le 4 0) (le 8 n) (stands_front _ _ s) (simp (length-append, length-le))) h

  pub header_links_lem : c < 256 ^ 8 → links_at f a ≡ c
  unfolding header links_at
  header_links_lem h = read 8 c (stands_at (le 4 k ++ le 4 0 ++ le 8 n) (le 8 c) s (simp (length-append, length-le))) h

-- ---- 64-bit words one after the other
pub length-words : (ws : List ℕ) → length (words ws) ≡ 8 * length ws
unfolding words
length-words [] = refl
length-words (w ∷ ws) = simp (length-append, length-le, length-words ws) (omega arith)

-- word number i
pub read_word : {f : List ℕ} (ws : List ℕ) (i a : ℕ) → Stands f a (words ws) → i < length ws → get_or ws i 0 < 256 ^ 8
    → le_at 8 f (a + 8 * i) ≡ get_or ws i 0
unfolding words
read_word [] i a s h b = absurd (omega arith)
read_word (w ∷ ws) zero a s h b = read 8 w (stands_to (stands_front (le 8 w) (words ws) s) (omega arith)) b
read_word {f} (w ∷ ws) (suc i) a s h b =
    let t : Stands f (a + 8) (words ws) = stands_at (le 8 w) (words ws) s (simp length-le) in
    let e : a + 8 * suc i ≡ a + 8 + 8 * i = omega arith in
    rw e (read_word ws i (a + 8) t (omega arith) b)

-- ---- a block: header, links ws, data d
module _ {f : List ℕ} {a : ℕ} (k n : ℕ) (ws d : List ℕ) (s : Stands f a (header k n (length ws) ++ words ws ++ d)) where
  block-header : Stands f a (header k n (length ws))
  block-header = stands_front _ (words ws) (stands_front _ d s)

  pub block-kind : k < 256 ^ 4 → kind_at f a ≡ k
  block-kind h = header-kind k n (length ws) block-header h

  pub block_size_lem : n < 256 ^ 8 → size_at f a ≡ n
  block_size_lem h = header-size k n (length ws) block-header h

  pub block_links_lem : length ws < 256 ^ 8 → links_at f a ≡ length ws
  block_links_lem h = header_links_lem k n (length ws) block-header h

  -- link number i
  pub block-link : (i : ℕ) → i < length ws → get_or ws i 0 < 256 ^ 8 → link_at f a i ≡ get_or ws i 0
  unfolding link_at
  block-link i h b =
      read_word ws i (a + 24) (stands_at (header k n (length ws)) (words ws) (stands_front _ d s) (simp length-header)) h b

  -- where its data begins, and what stands there
  pub block_data_at : length ws < 256 ^ 8 → data_at f a ≡ a + 24 + 8 * length ws
  unfolding data_at
  block_data_at h = rw (block_links_lem h)

  pub block_data : length ws < 256 ^ 8 → Stands f (data_at f a) d
  block_data h =
      stands_at (header k n (length ws) ++ words ws) d s
      (rw (block_data_at h) (simp (length-append, length-header, length-words) (omega arith)))
