-- Columns that stand in words: what is taken out of the words is what is defined of the columns; the words that planning leaves hold its columns.
use Prim.Native.Nat.{ℕ, zero, suc, ◌+◌, ◌*◌, ◌-◌, ◌≤◌, ◌<◌}
use mathlib.Core.List.{List, [], ◌∷◌, ◌++◌}
use Rattle.std.specs.Prelude.{Bool, ◌≡◌, get_or, set}
use Rattle.std.proofs.Math.Path.{refl, ap}
use Rattle.std.proofs.Common.{sym, ◌∙◌, add-zero, length-set, get_or-set_same}
use Rattle.std.proofs.Math.Option.{Option, none, some}
use native.Mathlib.Omega.{arith}
use Rattle.std.proofs.Math.ListN.{length, length-append, get_or-append}
use Rattle.std.proofs.Math.Seq.{get_or-append-add}
use Rattle.base.specs.ChoiceLaws.{eq_yes, eq_no}
use Rattle.base.specs.Checked.{Checked, ok, refused, and_then}
use Rattle.base.specs.Blit.{blit}
use Rattle.mdf.specs.Chain.{Fragment}
use Rattle.work_words.specs.Words.{fragment_words}
use Rattle.plan.specs.Photos.{photos_of}
use Rattle.plan.specs.Columns.{Column, Signal, no_signal, signal_data, size_of_signal, Plan}
use Rattle.work_words.specs.PlanWords.{master_word, signal_word, column_words, columns_words, fragments_in, signal_fragments, omission_pairs, laid_plan}
use Rattle.plan.specs.Copies.{Copies, copy_roots, column_links, column_copies}
use Rattle.work_words.specs.CopyWords.{placed_words}
use Rattle.plan.specs.Rules.{Rules}
use Rattle.plan.specs.Layout.{column_width, column_blocks, cg_size, cn_size, structure_size, payload_size, Sizes, first_at, blocks_end, signal_end, places_at, past_data, places_from, structures_end, places_end, signal_sizes, column_sizes, sizes_of, with_places, placed_from, structure_end, data_end}
use Rattle.plan.specs.Layout as layout
use Rattle.result.specs.Guarantee.{here, there}
use Rattle.planning.specs.Sizes.{signal_size}
use Rattle.planning.specs.SizesLaws.{sizes_stand}
use Rattle.copier.specs.Roots.{roots, roots-of, roots_at, copies_of}
use Rattle.copier.specs.AttachingLaws.{get_d_before}
use Rattle.placing.specs.InWords.{
  width_at,
  blocks_at,
  payload_at,
  cg_bytes,
  structure_at,
  first_in,
  blocks_end_at,
  sd_past,
  sd_in,
  signal_at,
  signal_end_at,
  past_in,
  structures_in,
  data_in,
  placed_in,
  Within,
  AllWithin,
  Referring,
  Columns,
  signal_bytes_of,
  AllBounded,
}
use Rattle.placing.specs.InWordsLaws.{cg_yes, cg_no}

-- ---- words of fragments
pub length_fragments : (fs : List Fragment) → length (fragment_words fs) ≡ 3 * length fs
unfolding fragment_words
length_fragments [] = refl
length_fragments (f ∷ fs) = let h = length_fragments fs in omega arith

words_append : (fs gs : List Fragment) → fragment_words (fs ++ gs) ≡ fragment_words fs ++ fragment_words gs
unfolding fragment_words
words_append [] gs = refl
words_append (f ∷ fs) gs = rw (words_append fs gs)

words-first : (fs gs : List Fragment) (j : ℕ) → j < 3 * length fs → get_or (fragment_words (fs ++ gs)) j 0 ≡ get_or (fragment_words fs) j 0
words-first fs gs j h = rw (words_append fs gs) (get_or-append (fragment_words fs) (fragment_words gs) 0 j (omega (arith, length_fragments fs)))

words-after : (fs gs : List Fragment) (j : ℕ) → get_or (fragment_words (fs ++ gs)) (3 * length fs + j) 0 ≡ get_or (fragment_words gs) j 0
words-after fs gs j = rw (words_append fs gs, ← length_fragments fs) (get_or-append-add (fragment_words fs) (fragment_words gs) j 0)

in_size : (g : Signal) → length (fragments_in g) ≡ size_of_signal g
in_size no_signal = refl
in_size (signal_data fs) = refl

-- ---- the first column, and the rest
pub record Reads (w f : List ℕ) (m p : ℕ) (c : Column) : Type 0 where
  pub channel : get_or w p 0 ≡ c.channel
  pub group : get_or w (p + 1) 0 ≡ c.group.at
  pub of_dg : get_or w (p + 2) 0 ≡ c.group.data_group.at
  pub records : get_or w (p + 3) 0 ≡ c.group.records
  pub master : get_or w (p + 5) 0 ≡ master_word c.master
  pub signal : get_or w (p + 6) 0 ≡ signal_word m c.signal_of
  pub pieces : get_or w (p + 7) 0 ≡ size_of_signal c.signal_of
  pub fragments : (j : ℕ) → j < 3 * size_of_signal c.signal_of → get_or f (3 * m + j) 0 ≡ get_or (fragment_words (fragments_in c.signal_of)) j 0

module _ (w f : List ℕ) (m p : ℕ) (c : Column) (cs : List Column) (h : Columns w f m p (c ∷ cs)) where
  longer : length (signal_fragments (c ∷ cs)) ≡ size_of_signal c.signal_of + length (signal_fragments cs)
  unfolding signal_fragments
  longer = length-append (fragments_in c.signal_of) (signal_fragments cs) ∙ rw (in_size c.signal_of)

  reads_pieces : (j : ℕ) → j < 3 * size_of_signal c.signal_of → get_or f (3 * m + j) 0 ≡ get_or (fragment_words (fragments_in c.signal_of)) j 0
  unfolding signal_fragments
  reads_pieces j l =
      h.fragments_at j (omega (arith, longer)) ∙ words-first (fragments_in c.signal_of) (signal_fragments cs) j (omega (arith, in_size c.signal_of))

  pub stand_reads : Reads w f m p c
  unfolding columns_words column_words
  stand_reads =
      record {
        channel = rw (add-zero p) at (h.at 0 (omega arith));
        group = h.at 1 (omega arith);
        of_dg = h.at 2 (omega arith);
        records = h.at 3 (omega arith);
        master = h.at 5 (omega arith);
        signal = h.at 6 (omega arith);
        pieces = h.at 7 (omega arith);
        fragments = reads_pieces;
      }

  rest_at : (j : ℕ) → j < 8 * length cs → get_or w (p + 8 + j) 0 ≡ get_or (columns_words (m + size_of_signal c.signal_of) cs) j 0
  unfolding columns_words column_words
  rest_at j l =
      let e : p + 8 + j ≡ p + (8 + j) = omega arith in
      rw e (h.at (8 + j) (omega arith) ∙ get_or-append-add (column_words m c) (columns_words (m + size_of_signal c.signal_of) cs) j 0)

  rest-pieces : (j : ℕ) → j < 3 * length (signal_fragments cs)
      → get_or f (3 * (m + size_of_signal c.signal_of) + j) 0 ≡ get_or (fragment_words (signal_fragments cs)) j 0
  unfolding signal_fragments
  rest-pieces j l =
      let e : 3 * (m + size_of_signal c.signal_of) + j ≡ 3 * m + (3 * length (fragments_in c.signal_of) + j) = omega (arith, in_size c.signal_of) in
      rw e (h.fragments_at (3 * length (fragments_in c.signal_of) + j) (omega (arith, longer, in_size c.signal_of))
      ∙ words-after (fragments_in c.signal_of) (signal_fragments cs) j)

  pub stand-rest : Columns w f (m + size_of_signal c.signal_of) (p + 8) cs
  stand-rest = record { at = rest_at; fragments_at = rest-pieces }

-- ---- what is taken out of the words of a column
cg-of : (o : Option ℕ) → cg_bytes (master_word o) ≡ cg_size o
cg-of none = sym (cg_yes 0 refl)
cg-of (some a) = sym (cg_no (a + 1) (λ e. omega arith))

module _ {w f : List ℕ} {m p : ℕ} {c : Column} (r : Reads w f m p c) where
  width_of : (s : List ℕ) → width_at s w p ≡ column_width s c
  unfolding width_at column_width
  width_of s = rw (r.group, r.channel)

  pub blocks-of : (s : List ℕ) (size : ℕ) → blocks_at s size w p ≡ column_blocks s size c
  unfolding blocks_at column_blocks
  blocks-of s size = rw (width_of s, r.records)

  pub payload_of_lem : (s : List ℕ) → payload_at s w p ≡ payload_size s c
  unfolding payload_at payload_size
  payload_of_lem s = rw (width_of s, r.records)

  photos_at_lem : (ph : Bool) (s : List ℕ) → c.photos ≡ photos_of ph s c.channel → length (photos_of ph s (get_or w p 0)) ≡ length c.photos
  photos_at_lem ph s e = rw (r.channel, e)

  pub structure-of : (ph : Bool) (s : List ℕ) (size : ℕ) → c.photos ≡ photos_of ph s c.channel → structure_at ph s size w p ≡ structure_size s size c
  unfolding structure_at structure_size cn_size
  structure-of ph s size e = rw (r.master, cg-of c.master, blocks-of s size, photos_at_lem ph s e)

  pub blocks_end_of : (s : List ℕ) (size d : ℕ) → blocks_end_at s size w p d ≡ blocks_end (column_sizes s size c) d
  unfolding blocks_end_at blocks_end
  blocks_end_of s size d = rw (blocks-of s size, payload_of_lem s)

  pub roots-at : (s : List ℕ) → roots_at s w p ≡ roots s c.group.data_group.at c.group.at c.channel
  unfolding roots_at
  roots-at s = rw (r.of_dg, r.group, r.channel)

-- signal data, by cases
record Sized (w f : List ℕ) (m p : ℕ) (g : Signal) : Type 0 where
  signal : get_or w (p + 6) 0 ≡ signal_word m g
  pieces : get_or w (p + 7) 0 ≡ size_of_signal g
  fragments : (j : ℕ) → j < 3 * size_of_signal g → get_or f (3 * m + j) 0 ≡ get_or (fragment_words (fragments_in g)) j 0

sized : {w f : List ℕ} {m p : ℕ} {c : Column} → Reads w f m p c → Sized w f m p c.signal_of
sized r = record { signal = r.signal; pieces = r.pieces; fragments = r.fragments }

signal_bytes_lem : (w f : List ℕ) (m p : ℕ) (g : Signal) → Sized w f m p g → signal_at w f p ≡ signal_bytes_of g
unfolding signal_at signal_size
signal_bytes_lem w f m p no_signal r = sym (eq_yes _ _ _ _ r.signal refl)
signal_bytes_lem w f m p (signal_data fs) r =
    let e : get_or w (p + 6) 0 - 1 ≡ m = omega (arith, r.signal) in
    sym (eq_no _ _ _ _ (λ z. omega (arith, z, r.signal)) (rw (e, r.pieces) (sym (sizes_stand f m fs r.fragments))))

-- of a column
pub signal_of_lem : {w f : List ℕ} {m p : ℕ} {c : Column} → Reads w f m p c → signal_at w f p ≡ signal_bytes_of c.signal_of
signal_of_lem {w} {f} {m} {p} {c} r = signal_bytes_lem w f m p c.signal_of (sized r)

signal_end_lem : (w f : List ℕ) (m p d : ℕ) (g : Signal) → Sized w f m p g → signal_end_at w f p d ≡ signal_end (signal_sizes g) d
unfolding signal_end_at
signal_end_lem w f m p d no_signal r = sym (eq_yes _ _ _ _ r.signal refl)
signal_end_lem w f m p d (signal_data fs) r =
    sym (eq_no _ _ _ _ (λ e. omega (arith, e, r.signal)) (rw (signal_bytes_lem w f m p (signal_data fs) r)))

signal_start : (u : ℕ) (w f : List ℕ) (m p d : ℕ) (g : Signal) → Sized w f m p g → sd_past u w p d ≡ layout.signal_at u (signal_sizes g) d
unfolding sd_past
signal_start u w f m p d no_signal r = sym (eq_yes _ _ _ _ r.signal refl)
signal_start u w f m p d (signal_data fs) r = sym (eq_no _ _ _ _ (λ e. omega (arith, e, r.signal)) refl)

-- where its data blocks begin, and its SD; past all its data
module _ {w f : List ℕ} {m p : ℕ} {c : Column} (r : Reads w f m p c) (u : ℕ) (s : List ℕ) (size d : ℕ) where
  first_of : first_in u s size w p d ≡ first_at u (column_sizes s size c) d
  unfolding first_in first_at
  first_of = rw (blocks-of r s size)

  sd_of_lem : sd_in u s size w p d ≡ (places_at u 0 d (column_sizes s size c)).sd
  unfolding sd_in
  sd_of_lem =
      ap (λ (x : ℕ). sd_past u w p (blocks_end_at s size w p x)) first_of
      ∙ ap (sd_past u w p) (blocks_end_of r s size (first_at u (column_sizes s size c) d))
      ∙ signal_start u w f m p _ c.signal_of (sized r)

  column_end : past_in u s size w f p d ≡ past_data u (column_sizes s size c) d
  unfolding past_in
  column_end = ap (signal_end_at w f p) sd_of_lem ∙ signal_end_lem w f m p _ c.signal_of (sized r)

-- ---- what is taken out of the words of all columns
then_same : {A B : Type 0} (v : Checked A) (f g : A → Checked B) → ((x : A) → f x ≡ g x) → and_then v f ≡ and_then v g
then_same (ok x) f g e = e x
then_same (refused a b) f g e = refl

-- of the rest too
rest_referring : {ph : Bool} {s : List ℕ} {c : Column} {cs : List Column} → Referring ph s (c ∷ cs) → Referring ph s cs
rest_referring h = record { each = λ d i. h.each d (there i) }

module _ (ph : Bool) (s : List ℕ) (size : ℕ) (w f : List ℕ) where
  pub structures_of : (m p a : ℕ) (cs : List Column) → Columns w f m p cs → Referring ph s cs → structures_in ph s size w p (length cs) a ≡ structure_end s size a cs
  unfolding structures_in structures_end sizes_of
  structures_of m p a [] h g = refl
  structures_of m p a (c ∷ cs) h g =
      ap (λ (x : ℕ). structures_in ph s size w (p + 8) (length cs) (a + x)) (structure-of (stand_reads w f m p c cs h) ph s size (g.each c here))
      ∙ structures_of (m + size_of_signal c.signal_of) (p + 8) (a + structure_size s size c) cs (stand-rest w f m p c cs h) (rest_referring g)

  pub data_of : (o : Rules) (m p d : ℕ) (cs : List Column) → Columns w f m p cs → data_in o.unit s size w f p (length cs) d ≡ data_end o s size d cs
  unfolding data_in places_end sizes_of
  data_of o m p d [] h = refl
  data_of o m p d (c ∷ cs) h =
      let r = stand_reads w f m p c cs h in
      ap (λ (x : ℕ). data_in o.unit s size w f (p + 8) (length cs) x) (column_end r o.unit s size d)
      ∙ data_of o (m + size_of_signal c.signal_of) (p + 8) (past_data o.unit (column_sizes s size c) d) cs (stand-rest w f m p c cs h)

  pub placed_of : (o : Rules) (m p a d : ℕ) (cs : List Column) → Columns w f m p cs → Referring ph s cs
      → placed_in o.unit ph s size w f p (length cs) a d ≡ placed_words (placed_from o s size a d cs)
  unfolding placed_in with_places places_from sizes_of placed_words
  placed_of o m p a d [] h g = refl
  placed_of o m p a d (c ∷ cs) h g =
      let r = stand_reads w f m p c cs h in
      let u : ℕ = o.unit in
      let z : Sizes = column_sizes s size c in
      rw (first_of r u s size d, sd_of_lem r u s size d, structure-of r ph s size (g.each c here), column_end r u s size d)
      (ap (λ (l : List ℕ). a ∷ first_at u z d ∷ (places_at u 0 d z).sd ∷ l)
      (placed_of o (m + size_of_signal c.signal_of) (p + 8) (a + structure_size s size c) (past_data u z d) cs (stand-rest w f m p c cs h) (rest_referring g)))

  pub copies_of_lem : (most m p : ℕ) (cs : List Column) (x : Copies) → Columns w f m p cs
      → copies_of most s w p (length cs) x ≡ column_copies most s cs x
  unfolding copies_of column_copies
  copies_of_lem most m p [] x h = refl
  copies_of_lem most m p (c ∷ cs) x h =
      ap (λ (l : List ℕ). and_then (copy_roots most s l x) (λ y. copies_of most s w (p + 8) (length cs) y)) (roots-at (stand_reads w f m p c cs h) s ∙ roots-of s c)
      ∙ then_same (copy_roots most s (column_links s c) x) _ _ (λ y. copies_of_lem most (m + size_of_signal c.signal_of) (p + 8) cs y (stand-rest w f m p c cs h))

  -- bounds of columns are bounds of their words
  pub all-within : (m p : ℕ) (cs : List Column) → Columns w f m p cs → AllBounded s size cs → Referring ph s cs
      → AllWithin ph s size w f p (length cs)
  all-within m p cs h b g = record { each = λ k i. at m p cs k h b g i }
    where
      at : (m p : ℕ) (cs : List Column) (k : ℕ) → Columns w f m p cs → AllBounded s size cs → Referring ph s cs → k < length cs
          → Within ph s size w f (p + 8 * k)
      at m p [] k h b q i = absurd (omega arith)
      at m p (c ∷ cs) zero h b q i =
          let r = stand_reads w f m p c cs h in
          let g = b.each c here in
          let e : p + 8 * 0 ≡ p = omega arith in
          rw e (record {
            blocks = omega (arith, blocks-of r s size, g.blocks);
            photos = omega (arith, photos_at_lem r ph s (q.each c here), g.photos);
            payload = omega (arith, payload_of_lem r s, g.payload);
            signal = omega (arith, signal_of_lem r, g.signal);
          })
      at m p (c ∷ cs) (suc k) h b q i =
          let e : p + 8 * suc k ≡ p + 8 + 8 * k = omega arith in
          rw e (at (m + size_of_signal c.signal_of) (p + 8) cs k (stand-rest w f m p c cs h)
          (record { each = λ x j. b.each x (there j) }) (rest_referring q) (omega arith))

-- ---- the words that planning leaves
blit_among : (bs : List ℕ) (j k : ℕ) (l : List ℕ) → k < length bs → j + k < length l → get_or (blit j bs l) (j + k) 0 ≡ get_or bs k 0
unfolding blit
blit_among [] j k l h r = absurd (omega arith)
blit_among (b ∷ bs) j zero l h r =
    rw (add-zero) (get_d_before bs (suc j) j (set l j b) (omega arith) ∙ get_or-set_same l j b 0 (omega arith))
blit_among (b ∷ bs) j (suc k) l h r =
    let e : j + suc k ≡ suc j + k = omega arith in
    rw e (blit_among bs (suc j) k (set l j b) (omega arith) (rw length-set (omega arith)))

length-columns : (n : ℕ) (cs : List Column) → length (columns_words n cs) ≡ 8 * length cs
unfolding columns_words column_words
length-columns n [] = refl
length-columns n (c ∷ cs) = let h = length-columns (n + size_of_signal c.signal_of) cs in omega arith

module _ (p : Plan) (fs : List Fragment) (w f : List ℕ) (few : length p.columns ≤ 512) (long : 4096 ≤ length w)
    (few_fragments : length fs + length (signal_fragments p.columns) ≤ 1024) (long_fragments : 3072 ≤ length f) where
  pub columns-stand : Columns (laid_plan (length fs) p w) (blit 0 (fragment_words (fs ++ signal_fragments p.columns)) f) (length fs) 0 p.columns
  unfolding laid_plan
  columns-stand =
      let all : List Fragment = fs ++ signal_fragments p.columns in
      let n = length_fragments (fs ++ signal_fragments p.columns) in
      let k = length-append fs (signal_fragments p.columns) in
      let e = length-columns (length fs) p.columns in
      record {
        at = λ j r.
            get_d_before (omission_pairs p.omissions) 4096 (0 + j) (blit 0 (columns_words (length fs) p.columns) w) (omega arith)
            ∙ blit_among (columns_words (length fs) p.columns) 0 j w (omega arith) (omega arith);
        fragments_at = λ j r.
            let z : 0 + (3 * length fs + j) ≡ 3 * length fs + j = omega arith in
            (rw z at (blit_among (fragment_words (fs ++ signal_fragments p.columns)) 0 (3 * length fs + j) f (omega arith) (omega arith)))
            ∙ words-after fs (signal_fragments p.columns) j;
      }
