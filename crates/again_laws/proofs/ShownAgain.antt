-- Two files show the same columns, where the second was placed for the columns of the first again.
use Prim.Native.Nat.{ℕ, zero, suc, ◌+◌, ◌*◌}
use mathlib.Core.List.{List, [], ◌∷◌}
use Rattle.std.proofs.Math.Option.{Option, some}
use Rattle.std.specs.Prelude.{◌≡◌}
use Rattle.std.proofs.Math.Path.{refl, sym, ap}
use Rattle.std.proofs.Common.{◌∙◌, arith}
use Rattle.base.specs.Checked.{ok}
use Rattle.plan.specs.Columns.{Column}
use Rattle.plan.specs.Layout.{Placed, cn_of}
use Rattle.plan.specs.Rules.{Rules}
use Rattle.mdf.specs.Block.{kind_cg, kind_cn}
use Rattle.result.specs.Payload.{signal_bytes}
use Rattle.result.specs.Due.{due_payload, blocks_due, equal_due, list_due, has_master, group_due, channel_due, photos_due, due, due_all}
use Rattle.result.specs.Guarantee.{In, here, there, columns_placed}
use Rattle.result.specs.Links.{Shown}
use Rattle.plan_laws.specs.DecideLaws.{none≢some}
use Rattle.again.specs.Same.{master_number, extents_in, Kept, kept_of, kept_from, SameColumns}
use Rattle.again_laws.specs.Held.{Held}
use Rattle.again_laws.specs.Origin.{placed_number, Origin}
use Rattle.again_laws.proofs.OrderAgain.{column_again, columns_again, Ascending}
use Rattle.again_laws.proofs.DueAgain.{group-again, photos_again, channel-again, blocks-again, equal_again, payload_due, extents-again, signal_due_lem}
use Rattle.again_laws.proofs.MasterAgain.{master_number_lem}

-- ---- columns by number
pub record NumberIn (ps : List Placed) (p : Placed) : Type 0 where
  pub number : ℕ
  pub at : placed_number number ps ≡ some p

pub in_number : (ps : List Placed) (p : Placed) → In p ps → NumberIn ps p
unfolding placed_number
in_number [] p x' = elim x' [ ]
in_number (q ∷ ps) p here = record { number = 0; at = refl }
in_number (q ∷ ps) p (there i) = let n = in_number ps p i in record { number = suc n.number; at = n.at }

-- the first of two lists that are the same
head-same : {A : Type 0} {x y : A} {xs ys : List A} → x ∷ xs ≡ y ∷ ys → x ≡ y
head-same e = cc

tail_same : {A : Type 0} {x y : A} {xs ys : List A} → x ∷ xs ≡ y ∷ ys → xs ≡ ys
tail_same e = cc

nil≢cons : {A : Type 0} {x : A} {xs : List A} → ◌≡◌ {A = List A} [] (x ∷ xs) → ⊥
nil≢cons e = let z : ◌≡◌ {A = ℕ} 0 1 = cc in omega arith

cons_same : {x y : Kept} {xs ys : List Kept} → x ≡ y → xs ≡ ys → x ∷ xs ≡ y ∷ ys
cons_same e h = rw (e, h)

-- field by field
kept_same : (as' bs : List Shown) (a b : Shown) → master_number bs b ≡ master_number as' a → b.payload ≡ a.payload → b.signal_data ≡ a.signal_data
    → b.group ≡ a.group → b.channel ≡ a.channel → b.cg_head ≡ a.cg_head → b.cn_head ≡ a.cn_head → b.list ≡ a.list
    → extents_in b.blocks ≡ extents_in a.blocks → kept_of bs b ≡ kept_of as' a
unfolding kept_of
kept_same as' bs a b m p d g c x y l e = rw (m, p, d, g, c, x, y, l, e)

module _ (f : List ℕ) (o : Rules) (s : List ℕ) (size : ℕ) (all : List Placed) (built : o.table ≡ []) (o2 : Rules) (built2 : o2.table ≡ [])
    (photos : o2.photos ≡ o.photos)
    (held : (j : ℕ) (p : Placed) → placed_number j all ≡ some p → Held f o s size all p)
    (origin : (j : ℕ) (p : Placed) → placed_number j all ≡ some p → Origin s all j p) (ascending : Ascending 0 all)
    (others : List Placed) (placed : columns_placed others ≡ columns_again o2.photos f s size all) (a : ℕ) (rising : Ascending a others) where
  -- as many
  number-other : (k : ℕ) (ps qs : List Placed) (p : Placed) → columns_placed qs ≡ columns_again o2.photos f s size ps → placed_number k ps ≡ some p
      → (q : Placed) × (placed_number k qs ≡ some q)
  unfolding columns_placed columns_again placed_number
  number-other k [] qs p e n = absurd (none≢some n)
  number-other k (x ∷ ps) [] p e n = absurd (nil≢cons e)
  number-other zero (x ∷ ps) (y ∷ qs) p e n = (y, refl)
  number-other (suc k) (x ∷ ps) (y ∷ qs) p e n = number-other k ps qs p (tail_same e) n

  channel_is : (p : Placed) → (column_again o2.photos f s size p).channel ≡ cn_of p
  unfolding column_again
  channel_is p = refl

  master_is : (p : Placed) → (column_again o2.photos f s size p).master ≡ p.column.master
  unfolding column_again
  master_is p = refl

  -- one column
  column-kept : (j : ℕ) (p q : Placed) → placed_number j all ≡ some p → q.column ≡ column_again o2.photos f s size p
      → kept_of (due_all o2 f size others others) (due o2 f size others q) ≡ kept_of (due_all o s size all all) (due o s size all p)
  unfolding due
  column-kept j p q at e =
      let h = held j p at in
      let k = origin j p at in
      let m : q.column.master ≡ p.column.master = ap (λ (c : Column). c.master) e ∙ master_is p in
      let first = master_number_lem o s size 0 all p ascending (λ i w. ((k.named i w).master, (k.named i w).there)) in
      let second = master_number_lem o2 f size a others q rising (λ i w. number-other i all others (k.named i (sym m ∙ w)).master placed (k.named i (sym m ∙ w)).there) in
      let n : photos_due o2.photos f q.column.channel ≡ photos_due o.photos s p.column.channel =
      ap (λ (c : Column). photos_due o2.photos f c.channel) e ∙ ap (photos_due o2.photos f) (channel_is p)
      ∙ photos_again f o s size all p h built j k o2 built2 photos in
      kept_same (due_all o s size all all) (due_all o2 f size others others) (due o s size all p) (due o2 f size others q) (second ∙ m ∙ sym first)
      (ap ok (ap (due_payload f) e ∙ payload_due f o s size all p h built j k o2 built2 photos))
      (ap ok (ap (λ (c : Column). signal_bytes f c.signal_of) e ∙ signal_due_lem f o s size all p h built j k o2 built2 photos))
      (ap (group_due f) e ∙ group-again f o s size all p h built j k o2 built2 photos)
      (ap (channel_due o2 f) e ∙ channel-again f o s size all p h built j k o2 built2 photos)
      (ap (λ (w : Option ℕ). record { kind = kind_cg; size = 104 + 8 * has_master w; links = 6 + has_master w }) m)
      (ap (λ (w : ℕ). record { kind = kind_cn; size = 160 + 8 * w; links = 8 + w }) n)
      (ap (λ (c : Column). list_due (blocks_due f size c) (equal_due f size c)) e ∙ lists j p h k)
      (ap ok (extents-again f o s size all p h built j k o2 built2 photos q e))
    where
      lists : (j : ℕ) (p : Placed) (h : Held f o s size all p) (k : Origin s all j p)
          → list_due (blocks_due f size (column_again o2.photos f s size p)) (equal_due f size (column_again o2.photos f s size p))
          ≡ list_due (blocks_due s size p.column) (equal_due s size p.column)
      lists j p h k = rw (blocks-again f o s size all p h built j k o2 built2 photos, equal_again f o s size all p h built j k o2 built2 photos)

  -- all columns
  columns-kept : (ps qs : List Placed) → ((p : Placed) → In p ps → In p all) → columns_placed qs ≡ columns_again o2.photos f s size ps
      → kept_from (due_all o2 f size others others) (due_all o2 f size others qs) ≡ kept_from (due_all o s size all all) (due_all o s size all ps)
  unfolding columns_placed columns_again due_all kept_from
  columns-kept [] [] i e = refl
  columns-kept [] (q ∷ qs) i e = absurd (nil≢cons (sym e))
  columns-kept (p ∷ ps) [] i e = absurd (nil≢cons e)
  columns-kept (p ∷ ps) (q ∷ qs) i e =
      let n = in_number all p (i p here) in
      cons_same (column-kept n.number p q n.at (head-same e)) (columns-kept ps qs (λ r w. i r (there w)) (tail_same e))

  pub same-shown : SameColumns (due_all o s size all all) (due_all o2 f size others others)
  same-shown = columns-kept all others (λ p i. i) placed
