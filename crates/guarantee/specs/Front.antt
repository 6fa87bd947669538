-- The file's front: the lent identification, and HD.
use Rattle.std.specs.Prelude.{ℕ, zero, suc, ◌+◌, ◌*◌, ◌-◌, ◌^◌, ◌≤◌, ◌<◌, List, [], ◌∷◌, ◌++◌, ◌≡◌, refl, Bool, true, false, ltb, length, get_or, take, drop}
use Rattle.std.proofs.Common.{sym, ap, ◌∙◌, arith, lit<, ltb-true, ltb-false, length-append, get_or-take, get_or-drop}
use Rattle.std.proofs.Math.ListN.{replicate}
use Rattle.std.proofs.lemmas.List.{length-replicate}
use Rattle.std.proofs.Math.Seq.{length-take-le}
use Rattle.base.specs.Choice.{if_lt}
use Rattle.base.specs.ChoiceLaws.{lt_yes, lt_no}
use Rattle.base.specs.Blit.{part}
use Rattle.base.specs.Field.{le_at}
use Rattle.mdf.specs.Block.{kind_hd, size_at, links_at, link_at, data_at}
use Rattle.plan.specs.Layout.{Layout}
use Rattle.result.specs.Fill.{Block, block, header, words, hd_data, data_of, next_dg, next_attachment, new_link}
use Rattle.result.specs.Links.{head_at}
use Rattle.result.specs.Due.{header_byte, FrontDue}
use Rattle.result.specs.Result.{Args, memo_of, first_fh, hd_block, blocks_of}
use Rattle.result.specs.Guarantee.{Stands, In, here}
use Rattle.plan_laws.specs.Decision.{Lent}
use Rattle.shown_laws.specs.Standing.{byte_of, field_same}
use Rattle.shown_laws.specs.Header.{block-kind, block_size_lem, block_links_lem, block-link, block_data_at, block_data}
use Rattle.shown_laws.specs.Shapes.{hd_links, hd_shape}
use Rattle.shown_laws.specs.AllShown.{in_hd}

-- ---- a list cut or filled with zeros
zero-at : (m i : ℕ) → ◌≡◌ {A = ℕ} (get_or (replicate m 0) i 0) 0
zero-at zero i = refl
zero-at (suc m) zero = refl
zero-at (suc m) (suc i) = zero-at m i

filled_at : (n m i : ℕ) (l : List ℕ) → i < n → get_or (take n l ++ replicate m 0) i 0 ≡ get_or l i 0
filled_at zero m i l h = absurd (omega arith)
filled_at (suc n) m i [] h = zero-at m i
filled_at (suc n) m zero (x ∷ l) h = refl
filled_at (suc n) m (suc i) (x ∷ l) h = filled_at n m i l (omega arith)

past-at : (n m i : ℕ) (l : List ℕ) → n ≤ i → get_or (take n l ++ replicate m 0) i 0 ≡ 0
past-at zero m i l h = zero-at m i
past-at (suc n) m i [] h = zero-at m i
past-at (suc n) m zero (x ∷ l) h = absurd (omega arith)
past-at (suc n) m (suc i) (x ∷ l) h = past-at n m i l (omega arith)

data_byte_lem : (s : List ℕ) (i : ℕ) → i < 32 → get_or (hd_data s) i 0 ≡ header_byte s i
unfolding hd_data data_of header_byte part
data_byte_lem s i h = get_or-take 32 (data_of s 64 ++ replicate 32 0) i 0 h ∙ go (ltb (24 + 8 * links_at s 64 + i) (size_at s 64)) refl
  where
    go : (t : Bool) → ltb (24 + 8 * links_at s 64 + i) (size_at s 64) ≡ t
        → get_or (take (size_at s 64 - (24 + 8 * links_at s 64)) (drop (data_at s 64) s) ++ replicate 32 0) i 0
        ≡ if_lt (24 + 8 * links_at s 64 + i) (size_at s 64) (get_or s (data_at s 64 + i) 0) 0
    go true q =
        let k : 24 + 8 * links_at s 64 + i < size_at s 64 = ltb-true _ _ q in
        lt_yes _ _ _ _ k (filled_at (size_at s 64 - (24 + 8 * links_at s 64)) 32 i (drop (data_at s 64) s) (omega arith) ∙ get_or-drop (data_at s 64) s i 0)
    go false q =
        let k : size_at s 64 ≤ 24 + 8 * links_at s 64 + i = ltb-false _ _ q in
        lt_no _ _ _ _ k (past-at (size_at s 64 - (24 + 8 * links_at s 64)) 32 i (drop (data_at s 64) s) (omega arith))

-- ---- HD of a file with layout l, made of s
abbrev pub header_links : List ℕ → Layout → List ℕ
header_links s l =
    hd_links (next_dg l.placed) (first_fh (memo_of l) l.past.chain l.fh) (next_attachment l.attached.attachments)
    (new_link (memo_of l) (link_at s 64 5))

module _ (s : List ℕ) (l : Layout) (f : List ℕ) (stands : Stands f 64 (hd_block s l).bytes) where
  shaped : Stands f 64 (header kind_hd 104 (length (header_links s l)) ++ words (header_links s l) ++ hd_data s)
  unfolding hd_block
  shaped = rw (hd_shape s _ _ _ _) at stands

  pub header-link : (i : ℕ) → i < 6 → get_or (header_links s l) i 0 < 256 ^ 8 → link_at f 64 i ≡ get_or (header_links s l) i 0
  unfolding hd_links
  header-link i h b = block-link kind_hd 104 (header_links s l) (hd_data s) shaped i h b

  pub header-head : head_at f 64 ≡ record { kind = kind_hd; size = 104; links = 6 }
  unfolding head_at hd_links
  header-head =
      rw (
        block-kind kind_hd 104 (header_links s l) (hd_data s) shaped (lit< tt),
        block_size_lem kind_hd 104 (header_links s l) (hd_data s) shaped (lit< tt),
        block_links_lem kind_hd 104 (header_links s l) (hd_data s) shaped (lit< tt),
      )

  pub header_data_lem : Stands f (data_at f 64) (hd_data s)
  unfolding hd_links
  header_data_lem = block_data kind_hd 104 (header_links s l) (hd_data s) shaped (lit< tt)

  header_data_at : data_at f 64 ≡ 136
  unfolding hd_links
  header_data_at = block_data_at kind_hd 104 (header_links s l) (hd_data s) shaped (lit< tt)

  -- neither channel hierarchy nor events
  pub header_hierarchy : link_at f 64 2 ≡ 0
  unfolding hd_links
  header_hierarchy = header-link 2 (lit< tt) (lit< tt)

  pub header_events : link_at f 64 4 ≡ 0
  unfolding hd_links
  header_events = header-link 4 (lit< tt) (lit< tt)

-- ---- the front of a result
module _ (x : Args) (l : Layout) (f : List ℕ) (filled : (b : Block) → In b (blocks_of x l) → Stands f b.at b.bytes) where
  hd : Stands f 64 (hd_block x.image l).bytes
  unfolding hd_block
  hd = filled _ (in_hd x l)

  pub hd-link : (i : ℕ) → i < 6 → get_or (header_links x.image l) i 0 < 256 ^ 8 → link_at f 64 i ≡ get_or (header_links x.image l) i 0
  hd-link = header-link x.image l f hd

  lent_stands : Stands f 0 x.ident
  unfolding blocks_of
  lent_stands = filled (block 0 x.ident) here

  lent_field : Lent x → (i : ℕ) → i + 8 ≤ 64 → le_at 8 f i ≡ le_at 8 x.ident i
  lent_field lent i h = field_same 8 x.ident lent_stands i (omega (arith, lent.ident_length))

  length-hd_data : length (hd_data x.image) ≡ 32
  unfolding hd_data
  length-hd_data = length-take-le 32 (data_of x.image 64 ++ replicate 32 0) (rw (length-append, length-replicate) (omega arith))

  hd_byte : (i : ℕ) → i < 32 → get_or f (136 + i) 0 ≡ header_byte x.image i
  hd_byte i h =
      ap (λ (a : ℕ). get_or f (a + i) 0) (sym (header_data_at x.image l f hd))
      ∙ byte_of (hd_data x.image) (header_data_lem x.image l f hd) i (omega (arith, length-hd_data)) ∙ data_byte_lem x.image i h

  pub front-due : Lent x → FrontDue x f
  front-due lent =
      record {
        ident = rw lent.ident_length at lent_stands.is;
        mark = lent_field lent 0 (lit< tt) ∙ lent.ident_mark;
        version = lent_field lent 8 (lit< tt) ∙ lent.ident_version;
        head = header-head x.image l f hd;
        hierarchy = header_hierarchy x.image l f hd;
        events = header_events x.image l f hd;
        bytes = hd_byte;
      }
