-- The data stage of a result that is converted again: all its checks pass.
use Prim.{tt}
use Rattle.std.specs.Prelude.{ℕ, Bool, true, false, ◌≡◌, eqb, ltb}
use mathlib.Core.List.{List, [], ◌∷◌}
use Rattle.std.proofs.Math.Option.{some}
use Rattle.std.proofs.Math.Path.{refl}
use Rattle.std.proofs.Common.{sym, ◌∙◌, arith}
use Rattle.base.specs.Choice.{pick, if_lt, if_eq}
use Rattle.base.specs.Checked.{refused, Verdict, fine}
use Rattle.mdf.specs.Block.{kind_sd}
use Rattle.mdf.specs.Group.{addresses}
use Rattle.mdf.specs.Records.{ranges_in, any_dv, runs, runs_whole, sorted_in}
use Rattle.plan.specs.Channel.{width}
use Rattle.plan.specs.Geometry.{block_count}
use Rattle.plan.specs.Columns.{Column, Signal, no_signal, signal_data}
use Rattle.plan.specs.Data.{is_nonempty, any_nonempty, signal_in, signals_in, data_in, all_data_in, blocks_in}
use Rattle.plan.specs.Layout.{Placed, cg_of}
use Rattle.plan.specs.Rules.{Rules}
use Rattle.result.specs.Due.{even_blocks, blocks_due, fragments_due}
use Rattle.result.specs.Payload.{signal_bytes}
use Rattle.result.specs.Member.{In, here, there}
use Rattle.payload_laws.specs.ColumnLaws.{empty_blocks}
use Rattle.payload_laws.specs.PayloadLaws.{length_framed}
use Rattle.shown_laws.specs.Joined.{stands_inside}
use Rattle.file_laws.specs.JoinedLaws.{ranges_in_lem}
use Rattle.file_guarantee.specs.ColumnForm.{file_column, same_blocks}
use Rattle.file_guarantee.specs.Columns.{file_columns}
use Rattle.again_laws.specs.Gives.{Gives, gives, stops}
use Rattle.again_laws.proofs.WalkAgain.{column_groups}
use Rattle.again_laws.specs.Held.{Held}
use Rattle.again_laws.proofs.DataAgain.{group_again, data_again}
use Rattle.again_laws.proofs.DecideAgain.{signal_again, sd_stands}
use Rattle.again_laws.specs.Origin.{placed_number, Origin}
use Rattle.again_laws.proofs.OrderAgain.{column_again, columns_again}
use Rattle.again_laws.specs.CopyAgain.{Any}
use Rattle.again_laws.proofs.ShownAgain.{NumberIn, in_number}

-- "19: a column has over 4,294,967,295 blocks": that or nothing
pub blocks_give : (ns : List ℕ) → In 19 ns → (s : List ℕ) (size : ℕ) (cs : List Column) → Gives ns Any (blocks_in s size cs)
unfolding blocks_in if_lt
blocks_give ns i s size [] = gives tt
blocks_give ns i s size (c ∷ cs) = go (ltb 4294967295 (block_count size (width s c.group.at c.channel) c.group.records)) (blocks_give ns i s size cs)
  where
    go : (t : Bool) → Gives ns Any (blocks_in s size cs) → Gives ns Any (pick t (refused 19 c.channel) (blocks_in s size cs))
    go true h = stops i
    go false h = h

nothing_left : (f : List ℕ) → ranges_in f [] ≡ fine
unfolding ranges_in
nothing_left f = refl

same-fine : (m n : ℕ) → if_eq {A = Verdict} m n fine fine ≡ fine
unfolding if_eq
same-fine m n = go (eqb m n)
  where
    go : (t : Bool) → pick {A = Verdict} t fine fine ≡ fine
    go true = refl
    go false = refl

pick-fine : (t : Bool) → pick {A = Verdict} t fine fine ≡ fine
pick-fine true = refl
pick-fine false = refl

-- without blocks there is nothing to check
no_blocks-fine : (f : List ℕ) (d g : ℕ) → sorted_in f d g [] ≡ fine
unfolding sorted_in any_dv ranges_in runs runs_whole
no_blocks-fine f d g = refl

no_fragments : (s : List ℕ) (size : ℕ) (p : Placed) → is_nonempty s p.column ≡ false → fragments_due s size p ≡ []
unfolding fragments_due even_blocks
no_fragments s size p e = let z : blocks_due s size p.column ≡ 0 = sym (same_blocks s size p.column) ∙ empty_blocks s size p.column e in rw z

module _ (f : List ℕ) (o : Rules) (s : List ℕ) (size : ℕ) (all : List Placed) (built : o.table ≡ [])
    (held : (j : ℕ) (p : Placed) → placed_number j all ≡ some p → Held f o s size all p)
    (origin : (j : ℕ) (p : Placed) → placed_number j all ≡ some p → Origin s all j p) (photos : Bool) where
  -- "(14, ranges, records)" of every DG
  sorted_fine : (p : Placed) → In p all → sorted_in f p.dg (cg_of p) (fragments_due s size p) ≡ fine
  sorted_fine p i = go (is_nonempty s p.column) refl
    where
      n : NumberIn all p
      n = in_number all p i

      go : (t : Bool) → is_nonempty s p.column ≡ t → sorted_in f p.dg (cg_of p) (fragments_due s size p) ≡ fine
      go true q = data_again f o s size all p (held n.number p n.at) q
      go false q = rw (no_fragments s size p q) (no_blocks-fine f p.dg (cg_of p))

  -- "signal data ranges" of every column
  signal_fine_lem : (p : Placed) → In p all → signal_in f (signal_again s p.column.signal_of p.sd) ≡ fine
  signal_fine_lem p i = go p.column.signal_of refl
    where
      n : NumberIn all p
      n = in_number all p i

      none_left : ranges_in f [] ≡ fine
      none_left = nothing_left f

      go : (g : Signal) → p.column.signal_of ≡ g → signal_in f (signal_again s g p.sd) ≡ fine
      go no_signal q = refl
      go (signal_data fs) q =
          let st = sd_stands f o s size all p (held n.number p n.at) built n.number (origin n.number p n.at) fs q in
          let long = length_framed kind_sd (signal_bytes s (signal_data fs)) in
          let inside = stands_inside _ st (omega (arith, long)) in
          ranges_in_lem f _ [] (omega (arith, long, inside)) none_left

  columns_signals : (a : ℕ) (ps : List Placed) → ((p : Placed) → In p ps → In p all) → signals_in f a (columns_again photos f s size ps) ≡ fine
  unfolding signals_in columns_again column_again
  columns_signals a [] i = refl
  columns_signals a (p ∷ ps) i =
      rw (signal_fine_lem p (i p here), same-fine (group_again s size p).data_group.at a) (columns_signals a ps (λ q w. i q (there w)))

  -- "DG by DG"
  data_stage : (ps : List Placed) → ((p : Placed) → In p ps → In p all)
      → all_data_in f (columns_again photos f s size all) (column_groups (file_columns s size ps)) ≡ fine
  unfolding all_data_in data_in column_groups file_columns file_column addresses
  data_stage [] i = refl
  data_stage (p ∷ ps) i =
      rw (sorted_fine p (i p here), pick-fine (any_nonempty f p.dg (columns_again photos f s size all)), columns_signals p.dg all (λ q w. w))
      (data_stage ps (λ q w. i q (there w)))

  pub all_data_again : all_data_in f (columns_again photos f s size all) (column_groups (file_columns s size all)) ≡ fine
  all_data_again = data_stage all (λ p i. i)
