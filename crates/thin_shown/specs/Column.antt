-- One kept column in the new file, read by links: heads, data and links of its DG, CG and CN, its DL, its data blocks and its SD.
use Prim.{tt}
use Prim.Native.Nat.{ℕ, ◌+◌, ◌*◌, ◌-◌, ◌^◌, ◌≤◌, ◌<◌}
use mathlib.Core.List.{List, [], ◌∷◌, ◌++◌, append-nil}
use Rattle.std.specs.Prelude.{Bool}
use Rattle.std.proofs.Math.Bool.{true, false}
use Rattle.std.proofs.Math.Option.{Option, none, some}
use Rattle.std.proofs.Math.Path.{◌≡◌, refl, sym, ap}
use Rattle.std.proofs.Common.{subst, ◌∙◌, arith, lit<}
use Rattle.std.proofs.Math.Dec.{eqb}
use borrow.Author.Tests.{eqb-true, eqb-false}
use Rattle.std.proofs.Math.ListN.{length, get_or}
use Rattle.base.specs.Choice.{if_lt, if_eq}
use Rattle.base.specs.ChoiceLaws.{lt_yes, lt_no, eq_yes, eq_no, eq_first}
use Rattle.base.specs.Field.{le}
use Rattle.base.specs.Blit.{part}
use Rattle.base.specs.BlitLaws.{length_part}
use Rattle.mdf.specs.Block.{kind_dg, kind_cg, kind_cn, kind_dl, kind_sd, size_at, links_at, link_at, data_at}
use Rattle.mdf.specs.Chain.{dt, fragment, Chain.records, found, file_limits, chain}
use Rattle.mdf.specs.Group.{group_flags}
use Rattle.mdf.specs.Records.{joined}
use Rattle.plan.specs.Channel.{bit}
use Rattle.plan.specs.Columns.{Signal, no_signal, signal_data, remote_link}
use Rattle.plan.specs.Copies.{Copy, Attachment}
use Rattle.plan.specs.Layout.{Placed, cg_of, cn_of, dl_of, cg_size, cn_size}
use Rattle.plan.specs.Photos.{photo_count}
use Rattle.plan.specs.PhotosLaws.{length-references}
use Rattle.result.specs.Payload.{signal_bytes}
use Rattle.result.specs.Fill.{Block, block, header, words, new_link, cg_at, sd_link, photo_links, block_links, block_of, sd_blocks}
use Rattle.result.specs.Links.{head_at, list_at, list_shown}
use Rattle.result.specs.Due.{has_master, list_due}
use Rattle.result.specs.Guarantee.{Stands, In, here}
use Rattle.shown_laws.specs.Standing.{stands_front, stands_at}
use Rattle.shown_laws.specs.Header.{length-header, header-kind, header-size, header_links_lem, block-kind, block_size_lem, block_links_lem, block-link, block_data}
use Rattle.shown_laws.specs.ImageBytes.{choice_small, field_below}
use Rattle.shown_laws.specs.Joined.{chain-none}
use Rattle.shown_laws.specs.Shapes.{master_word, cg_words, cn_links, cn-many, cn_photo}
use Rattle.file.specs.Form.{equal_length}
use Rattle.thin.specs.Kept.{signal_place, new_master, signal_kept}
use Rattle.thin.specs.Place.{blocks_of}
use Rattle.thin.specs.Fill.{kept_data, length_kept, kept_dl, kept_lists}
use Rattle.thin.specs.Guarantee.{SameData, SignalKept}
use Rattle.thin_shown.specs.Sound.{moved_fragments, KeptSound, KeptStands}
use Rattle.thin_shown.specs.Data.{kept_same, same_flags}
use Rattle.thin_shown.specs.Shapes.{list_link, dg_words, dg_shape, cg_shape, cn_shape, dl_shape}
use Rattle.thin_shown.specs.Blocks.{list-kind, list-size, list_links, list-next, list_flags, list_count, list_equal, none-moved, moved-joined, moved-chain}

-- ---- the number of links of a CG
word-few : (all : List Placed) (m : Option ℕ) → length (master_word all m) ≤ 1
word-few all none = omega arith
word-few all (some m) = omega arith

word-length : (all : List Placed) (m : Option ℕ) → length (master_word all m) ≡ has_master m
word-length all none = refl
word-length all (some m) = refl

pub cg-bytes : (m : Option ℕ) → cg_size m ≡ 104 + 8 * has_master m
cg-bytes none = refl
cg-bytes (some m) = refl

pub master_most : (m : Option ℕ) → has_master m ≤ 1
master_most none = omega arith
master_most (some m) = omega arith

-- a column keeps a master under its new number
pub master_same : (numbers : List ℕ) (m : Option ℕ) → has_master (new_master numbers m) ≡ has_master m
master_same numbers none = refl
master_same numbers (some m) = refl

-- a seventh link is one under flag bit 3
pub remote_flag : (s : List ℕ) (g : ℕ) → (remote_link s g ≡ 0 → ⊥) → bit 3 (group_flags s g) ≡ 1
unfolding remote_link
remote_flag s g z = (eq_first (bit 3 (group_flags s g)) 1 (if_lt 6 (links_at s g) (link_at s g 6) 0) 0 refl (λ e. z (sym e))).0

pub cn-bytes : (p : Placed) → cn_size p.column ≡ 160 + 8 * length p.column.photos
unfolding cn_size
cn-bytes p = refl

-- ---- an SD: as long as it was, with its bytes
sd_length : (s : List ℕ) (a : ℕ) → 24 ≤ size_at s a → a + size_at s a ≤ length s → length (signal_bytes s (signal_data (fragment s a dt ∷ []))) ≡ size_at s a - 24
unfolding joined
sd_length s a long range = rw append-nil (length_part (a + 24) (size_at s a - 24) s (omega arith))

module _ {f : List ℕ} (s : List ℕ) (a b : ℕ) (long : 24 ≤ size_at s a) (range : a + size_at s a ≤ length s)
    (st : Stands f b (block_of kind_sd (signal_bytes s (signal_data (fragment s a dt ∷ []))))) where
  sd_whole : 24 + length (signal_bytes s (signal_data (fragment s a dt ∷ []))) ≡ size_at s a
  sd_whole = omega (arith, sd_length s a long range)

  sd_top : Stands f b (header kind_sd (size_at s a) 0)
  unfolding block_of
  sd_top = rw (← sd_whole) (stands_front _ _ st)

  sd_head : size_at s a < 256 ^ 8 → head_at f b ≡ record { kind = kind_sd; size = size_at s a; links = 0 }
  unfolding head_at
  sd_head h =
      rw (
        header-kind kind_sd (size_at s a) 0 sd_top (lit< tt),
        header-size kind_sd (size_at s a) 0 sd_top h,
        header_links_lem kind_sd (size_at s a) 0 sd_top (lit< tt),
      )

  sd_bytes_lem : part (b + 24) (size_at s a - 24) f ≡ part (a + 24) (size_at s a - 24) s
  unfolding block_of joined
  sd_bytes_lem =
      let bytes : List ℕ = signal_bytes s (signal_data (fragment s a dt ∷ [])) in
      let it : part (b + 24) (length bytes) f ≡ bytes = (stands_at {b = b + 24} (header kind_sd (24 + length bytes) 0) bytes st (simp length-header)).is in
      ap (λ (n : ℕ). part (b + 24) n f) (sym (sd_length s a long range)) ∙ it ∙ append-nil _

-- ---- a column whose blocks stand
module _ {s f : List ℕ} {memo : List Copy} {ats : List Attachment} {all : List Placed} {p : Placed} {next : ℕ}
    (k : KeptSound s p) (st : KeptStands s f memo ats all p next) where
  -- its DG
  dg_stands : Stands f p.dg
      (header kind_dg 64 (length (dg_words s memo p next)) ++ words (dg_words s memo p next) ++ kept_data 8 s p.column.group.data_group.at)
  dg_stands = rw (dg_shape s memo p next) at st.dg

  dg-link : (i : ℕ) → i < 4 → get_or (dg_words s memo p next) i 0 < 256 ^ 8 → link_at f p.dg i ≡ get_or (dg_words s memo p next) i 0
  unfolding dg_words
  dg-link i h b = block-link kind_dg 64 (dg_words s memo p next) _ dg_stands i h b

  pub dg-head : head_at f p.dg ≡ record { kind = kind_dg; size = 64; links = 4 }
  unfolding head_at dg_words
  dg-head =
      rw (
        block-kind kind_dg 64 (dg_words s memo p next) _ dg_stands (lit< tt),
        block_size_lem kind_dg 64 (dg_words s memo p next) _ dg_stands (lit< tt),
        block_links_lem kind_dg 64 (dg_words s memo p next) _ dg_stands (lit< tt),
      )

  pub dg_data_lem : SameData 8 s f p.column.group.data_group.at p.dg
  unfolding dg_words
  dg_data_lem = kept_same (block_data kind_dg 64 (dg_words s memo p next) _ dg_stands (lit< tt))

  pub dg-next : next < 256 ^ 8 → link_at f p.dg 0 ≡ next
  unfolding dg_words
  dg-next h = dg-link 0 (lit< tt) h

  pub dg-cg : link_at f p.dg 1 ≡ cg_of p
  unfolding dg_words
  dg-cg = dg-link 1 (lit< tt) (omega (arith, k.structure_ends))

  pub dg-list : link_at f p.dg 2 ≡ list_link p
  unfolding dg_words
  dg-list = dg-link 2 (lit< tt) (choice_small _ _ _ _ _ (lit< tt) k.structure_ends)

  -- its CG
  cg_stands : Stands f (cg_of p)
      (header kind_cg (cg_size p.column.master) (length (cg_words s memo all p)) ++ words (cg_words s memo all p) ++ kept_data 32 s p.column.group.at)
  cg_stands = rw (cg_shape s memo all p) at st.cg

  cg-few : length (cg_words s memo all p) < 256 ^ 8
  unfolding cg_words
  cg-few = omega (arith, word-few all p.column.master)

  cg-many : length (cg_words s memo all p) ≡ 6 + has_master p.column.master
  unfolding cg_words
  cg-many = omega (arith, word-length all p.column.master)

  cg-link : (i : ℕ) → i < 6 → get_or (cg_words s memo all p) i 0 < 256 ^ 8 → link_at f (cg_of p) i ≡ get_or (cg_words s memo all p) i 0
  cg-link i h b = block-link kind_cg (cg_size p.column.master) (cg_words s memo all p) _ cg_stands i (omega (arith, cg-many)) b

  pub cg-head : head_at f (cg_of p)
      ≡ record { kind = kind_cg; size = 104 + 8 * has_master p.column.master; links = 6 + has_master p.column.master }
  unfolding head_at
  cg-head =
      rw (
        block-kind kind_cg (cg_size p.column.master) (cg_words s memo all p) _ cg_stands (lit< tt),
        block_size_lem kind_cg (cg_size p.column.master) (cg_words s memo all p) _ cg_stands (omega (arith, cg-bytes p.column.master, master_most p.column.master)),
        block_links_lem kind_cg (cg_size p.column.master) (cg_words s memo all p) _ cg_stands cg-few,
        cg-many,
        cg-bytes p.column.master,
      )

  pub cg_data_lem : SameData 32 s f p.column.group.at (cg_of p)
  cg_data_lem = kept_same (block_data kind_cg (cg_size p.column.master) (cg_words s memo all p) _ cg_stands cg-few)

  pub cg-next : link_at f (cg_of p) 0 ≡ 0
  unfolding cg_words
  cg-next = cg-link 0 (lit< tt) (lit< tt)

  pub cg-cn : link_at f (cg_of p) 1 ≡ cn_of p
  unfolding cg_words
  cg-cn = cg-link 1 (lit< tt) (omega (arith, k.structure_ends))

  pub cg_reductions : link_at f (cg_of p) 4 ≡ 0
  unfolding cg_words
  cg_reductions = cg-link 4 (lit< tt) (lit< tt)

  -- its CN
  cn_stands : Stands f (cn_of p)
      (header kind_cn (cn_size p.column) (length (cn_links s memo ats p)) ++ words (cn_links s memo ats p) ++ kept_data 72 s p.column.channel)
  cn_stands = rw (cn_shape s memo ats p) at st.cn

  -- as many references as its channel has
  pub photos_many : length p.column.photos ≡ photo_count s p.column.channel
  photos_many = ap length k.photos ∙ length-references s p.column.channel

  pub photos_few : length p.column.photos < 65536
  unfolding photo_count
  photos_few = rw photos_many (field_below s k.image 2 (data_at s p.column.channel + 22))

  cn-few : length (cn_links s memo ats p) < 256 ^ 8
  cn-few = omega (arith, cn-many s memo ats p, photos_few)

  cn-link : (i : ℕ) → i < 8 + length p.column.photos → get_or (cn_links s memo ats p) i 0 < 256 ^ 8
      → link_at f (cn_of p) i ≡ get_or (cn_links s memo ats p) i 0
  cn-link i h b = block-link kind_cn (cn_size p.column) (cn_links s memo ats p) _ cn_stands i (omega (arith, cn-many s memo ats p)) b

  pub cn-head : head_at f (cn_of p)
      ≡ record { kind = kind_cn; size = 160 + 8 * photo_count s p.column.channel; links = 8 + photo_count s p.column.channel }
  unfolding head_at cn_size
  cn-head =
      rw (
        block-kind kind_cn (cn_size p.column) (cn_links s memo ats p) _ cn_stands (lit< tt),
        block_size_lem kind_cn (cn_size p.column) (cn_links s memo ats p) _ cn_stands (omega (arith, photos_few)),
        block_links_lem kind_cn (cn_size p.column) (cn_links s memo ats p) _ cn_stands cn-few,
        cn-many s memo ats p,
        photos_many,
      )

  pub cn_data_lem : SameData 72 s f p.column.channel (cn_of p)
  cn_data_lem = kept_same (block_data kind_cn (cn_size p.column) (cn_links s memo ats p) _ cn_stands cn-few)

  pub cn-next : link_at f (cn_of p) 0 ≡ 0
  unfolding cn_links
  cn-next = cn-link 0 (omega arith) (lit< tt)

  pub cn_composition : link_at f (cn_of p) 1 ≡ 0
  unfolding cn_links
  cn_composition = cn-link 1 (omega arith) (lit< tt)

  -- its data blocks
  pub few-blocks : 64 + 8 * blocks_of p.column < 256 ^ 8
  few-blocks = omega (arith, k.payload_ends, k.first_above)

  pub short : length_kept s p < 256 ^ 8
  unfolding length_kept equal_length
  short = field_below s k.image 8 _

  pub list_stands : (blocks_of p.column ≡ 0 → ⊥)
      → Stands f (dl_of p) (header kind_dl (24 + 8 * (blocks_of p.column + 1) + 16) (blocks_of p.column + 1) ++ le 8 0
      ++ block_links (length_kept s p) (blocks_of p.column) p.first
      ++ le 4 1 ++ le 4 (blocks_of p.column) ++ le 8 (length_kept s p))
  unfolding kept_lists
  list_stands z =
      let e : block (dl_of p) (kept_dl s p) ∷ [] ≡ if_eq (blocks_of p.column) 0 [] (block (dl_of p) (kept_dl s p) ∷ []) = eq_no _ _ _ _ z refl in
      let here' : In (block (dl_of p) (kept_dl s p)) (block (dl_of p) (kept_dl s p) ∷ []) = here in
      let in' : In (block (dl_of p) (kept_dl s p)) (kept_lists s p) = rw e at here' in
      rw (dl_shape s p z) at (st.list _ in')

  -- "byte 1, three zeros, 32-bit n", the length as it was
  pub list-kept : length p.column.group.data_group.fragments < 4294967296
      → list_shown f (link_at f p.dg 2)
      ≡ list_due (length p.column.group.data_group.fragments) (equal_length s (link_at s p.column.group.data_group.at 2))
  unfolding blocks_of length_kept list_shown list_due list_at head_at
  list-kept few = rw dg-list (go (eqb (blocks_of p.column) 0) refl)
    where
      go : (t : Bool) → eqb (blocks_of p.column) 0 ≡ t → list_shown f (list_link p) ≡ list_due (blocks_of p.column) (length_kept s p)
      go true q =
          let z : blocks_of p.column ≡ 0 = eqb-true _ 0 q in
          let link : list_link p ≡ 0 = sym (eq_yes _ 0 0 (dl_of p) z refl) in
          rw link (sym (eq_yes _ _ _ _ refl refl) ∙ eq_yes _ _ _ _ z refl)
      go false q =
          let z : blocks_of p.column ≡ 0 → ⊥ = eqb-false _ 0 q in
          let link : list_link p ≡ dl_of p = sym (eq_no _ 0 0 (dl_of p) z refl) in
          let it = list_stands z in
          rw (
            link,
            list-kind _ _ _ _ few-blocks short it,
            list-size _ _ _ _ few-blocks short it,
            list_links _ _ _ _ few-blocks short it,
            list-next _ _ _ _ few-blocks short it,
            list_flags _ _ _ _ few-blocks short it,
            list_count _ _ _ _ few-blocks short it few,
            list_equal _ _ _ _ few-blocks short it,
          ) (sym (eq_no _ _ _ _ (λ e. omega arith) refl) ∙ eq_no _ _ _ _ z refl)

  -- "payloads .. kept"
  pub payload_kept : joined f (moved_fragments p.first p.column.group.data_group.fragments) ≡ joined s p.column.group.data_group.fragments
  payload_kept = moved-joined s f p.first p.column.group.data_group.fragments k.ranges st.blocks

  -- the chain at its DG's data link finds just its blocks, whatever was found before
  pub chain-kept : (m : ℕ) → m + length p.column.group.data_group.fragments ≤ file_limits.fragments
      → chain records file_limits f m (link_at f p.dg 2) ≡ found (moved_fragments p.first p.column.group.data_group.fragments)
  unfolding blocks_of length_kept
  chain-kept m h = rw dg-list (go (eqb (blocks_of p.column) 0) refl)
    where
      go : (t : Bool) → eqb (blocks_of p.column) 0 ≡ t
          → chain records file_limits f m (list_link p) ≡ found (moved_fragments p.first p.column.group.data_group.fragments)
      go true q =
          let z : blocks_of p.column ≡ 0 = eqb-true _ 0 q in
          let link : list_link p ≡ 0 = sym (eq_yes _ 0 0 (dl_of p) z refl) in
          rw (link, none-moved p.first p.column.group.data_group.fragments z) (chain-none records f m)
      go false q =
          let z : blocks_of p.column ≡ 0 → ⊥ = eqb-false _ 0 q in
          let link : list_link p ≡ dl_of p = sym (eq_no _ 0 0 (dl_of p) z refl) in
          rw link (moved-chain (dl_of p) (blocks_of p.column) (length_kept s p) p.first few-blocks short (list_stands z) s m
          p.column.group.data_group.fragments k.ranges st.blocks refl k.lengths (λ e. omega arith) k.first_above k.payload_ends h)

  -- its SD
  signal_none : signal_place s p.column.channel ≡ 0 → p.column.signal_of ≡ no_signal
  unfolding signal_kept
  signal_none z = k.signal ∙ sym (eq_yes _ _ _ _ z refl)

  signal_some : (signal_place s p.column.channel ≡ 0 → ⊥)
      → p.column.signal_of ≡ signal_data (fragment s (signal_place s p.column.channel) dt ∷ [])
  unfolding signal_kept
  signal_some z = k.signal ∙ sym (eq_no _ _ _ _ z refl)

  sd_place : sd_link p.column.signal_of p.sd < 256 ^ 8 → link_at f (cn_of p) 5 ≡ sd_link p.column.signal_of p.sd
  unfolding cn_links
  sd_place h = cn-link 5 (omega arith) h

  pub cn_no_signal : signal_place s p.column.channel ≡ 0 → link_at f (cn_of p) 5 ≡ 0
  cn_no_signal z =
      let e : sd_link p.column.signal_of p.sd ≡ 0 = rw (signal_none z) in
      sd_place (rw e (lit< tt)) ∙ e

  pub cn_signal : (signal_place s p.column.channel ≡ 0 → ⊥) → link_at f (cn_of p) 5 ≡ p.sd
  cn_signal z =
      let e : sd_link p.column.signal_of p.sd ≡ p.sd = rw (signal_some z) in
      sd_place (rw e (omega (arith, k.sd_ends z))) ∙ e

  sd_stands : (signal_place s p.column.channel ≡ 0 → ⊥)
      → Stands f p.sd (block_of kind_sd (signal_bytes s (signal_data (fragment s (signal_place s p.column.channel) dt ∷ []))))
  sd_stands z =
      let made : (b : Block) → In b (sd_blocks s (signal_data (fragment s (signal_place s p.column.channel) dt ∷ [])) p.sd) → Stands f b.at b.bytes =
      subst (λ (g : Signal). (b : Block) → In b (sd_blocks s g p.sd) → Stands f b.at b.bytes) (signal_some z) st.signal in
      made _ here

  -- "signal data .. kept"
  pub signal_kept_lem : SignalKept s f (signal_place s p.column.channel) (link_at f (cn_of p) 5)
  signal_kept_lem =
      let a : ℕ = signal_place s p.column.channel in
      record {
        none_stays = cn_no_signal;
        nonzero = λ z e. omega (arith, cn_signal z, k.sd_above);
        head = λ z. rw (cn_signal z) (sd_head s a p.sd (k.signal_whole z) (k.signal_range z) (sd_stands z) (omega (arith, k.sd_ends z)));
        bytes = λ z. rw (cn_signal z) (sd_bytes_lem s a p.sd (k.signal_whole z) (k.signal_range z) (sd_stands z));
      }

  -- the master that its CG names
  pub cg_seventh : (m : ℕ) → p.column.master ≡ some m → cg_at m all < 256 ^ 8 → link_at f (cg_of p) 6 ≡ cg_at m all
  unfolding cg_words
  cg_seventh m e h =
      let w : master_word all p.column.master ≡ cg_at m all ∷ [] = rw e in
      let v : get_or (cg_words s memo all p) 6 0 ≡ cg_at m all = ap (λ (l : List ℕ). get_or l 0 0) w in
      block-link kind_cg (cg_size p.column.master) (cg_words s memo all p) _ cg_stands 6 (omega (arith, ap length w)) (rw v h) ∙ v

  cg_links_lem : links_at f (cg_of p) ≡ 6 + has_master p.column.master
  cg_links_lem = block_links_lem kind_cg (cg_size p.column.master) (cg_words s memo all p) _ cg_stands cg-few ∙ cg-many

  -- six links name none, whatever the flags say
  pub cg-none : p.column.master ≡ none → remote_link f (cg_of p) ≡ 0
  unfolding remote_link
  cg-none e =
      let l : links_at f (cg_of p) ≡ 6 = cg_links_lem ∙ rw e in
      let o : if_lt 6 (links_at f (cg_of p)) (link_at f (cg_of p) 6) 0 ≡ 0 = rw l (sym (lt_no _ _ _ _ (omega arith) refl)) in
      rw o (go (eqb (bit 3 (group_flags f (cg_of p))) 1) refl)
    where
      go : (t : Bool) → eqb (bit 3 (group_flags f (cg_of p))) 1 ≡ t → ◌≡◌ {A = ℕ} (if_eq (bit 3 (group_flags f (cg_of p))) 1 0 0) 0
      go true q = sym (eq_yes _ _ _ _ (eqb-true _ _ q) refl)
      go false q = sym (eq_no _ _ _ _ (eqb-false _ _ q) refl)

  -- with flag bit 3, as it was, the seventh names the master
  pub cg-some : (m : ℕ) → p.column.master ≡ some m → cg_at m all < 256 ^ 8 → bit 3 (group_flags s p.column.group.at) ≡ 1
      → remote_link f (cg_of p) ≡ cg_at m all
  unfolding remote_link
  cg-some m e h b =
      let l : links_at f (cg_of p) ≡ 7 = cg_links_lem ∙ rw e in
      let g : group_flags f (cg_of p) ≡ group_flags s p.column.group.at = same_flags cg_data_lem k.group_room in
      rw (g, l) (sym (eq_yes _ _ _ _ b (lt_yes _ _ _ _ (lit< tt) (sym (cg_seventh m e h)))))

  -- its references, led to where the attachments are
  pub cn_photo_link : (i : ℕ) → i < length p.column.photos → get_or (photo_links ats p.column.photos) i 0 < 256 ^ 8
      → link_at f (cn_of p) (8 + i) ≡ get_or (photo_links ats p.column.photos) i 0
  cn_photo_link i h b = cn-link (8 + i) (omega arith) (rw (cn_photo s memo ats p i) b) ∙ cn_photo s memo ats p i

  -- names, sources, conversion, unit and comments: links to the copies
  module _ (small : (a : ℕ) → new_link memo a < 256 ^ 8) where
    pub dg_comment : link_at f p.dg 3 ≡ new_link memo (link_at s p.column.group.data_group.at 3)
    unfolding dg_words
    dg_comment = dg-link 3 (lit< tt) (small _)

    pub cg_name_lem : link_at f (cg_of p) 2 ≡ new_link memo (link_at s p.column.group.at 2)
    unfolding cg_words
    cg_name_lem = cg-link 2 (lit< tt) (small _)

    pub cg-source : link_at f (cg_of p) 3 ≡ new_link memo (link_at s p.column.group.at 3)
    unfolding cg_words
    cg-source = cg-link 3 (lit< tt) (small _)

    pub cg_comment : link_at f (cg_of p) 5 ≡ new_link memo (link_at s p.column.group.at 5)
    unfolding cg_words
    cg_comment = cg-link 5 (lit< tt) (small _)

    pub cn_name_lem : link_at f (cn_of p) 2 ≡ new_link memo (link_at s p.column.channel 2)
    unfolding cn_links
    cn_name_lem = cn-link 2 (omega arith) (small _)

    pub cn-source : link_at f (cn_of p) 3 ≡ new_link memo (link_at s p.column.channel 3)
    unfolding cn_links
    cn-source = cn-link 3 (omega arith) (small _)

    pub cn_conversion : link_at f (cn_of p) 4 ≡ new_link memo (link_at s p.column.channel 4)
    unfolding cn_links
    cn_conversion = cn-link 4 (omega arith) (small _)

    pub cn_unit : link_at f (cn_of p) 6 ≡ new_link memo (link_at s p.column.channel 6)
    unfolding cn_links
    cn_unit = cn-link 6 (omega arith) (small _)

    pub cn_comment : link_at f (cn_of p) 7 ≡ new_link memo (link_at s p.column.channel 7)
    unfolding cn_links
    cn_comment = cn-link 7 (omega arith) (small _)
