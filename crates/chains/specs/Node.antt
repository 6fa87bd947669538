-- What stands at an address of a data chain, and the meaning of the code's answers.
use Rattle.std.specs.Prelude.{ℕ, List, Bool, true, false, Option, Some, None, Result, Ok, Err}
use Rattle.base.specs.Choice.{if_eq}
use Rattle.base.specs.Checked.{Checked, ok, refused, and_then}
use Rattle.mdf.specs.Block.{kind_dl, kind_hl, kind_at, header_in}
use Rattle.mdf.specs.Chain.{dt, dv, fragment, Chain, records, signal, leaf, none, leaf_of, Limits, limits, file_limits}
use Rattle.mdf.specs.Chain as mdf
use Rattle.fields.specs.declared.refusal.Refusal.{Refusal}
use Rattle.fields.specs.Answer.{number_of, place_of}
use Rattle.chains.specs.declared.node.Kind as kinds
use Rattle.chains.specs.declared.node.Kind.TheVariants.{Dt, Dv}
use Rattle.chains.specs.declared.node.SrcBlock.{SrcBlock}
use Rattle.chains.specs.declared.node.Node.{Node}
use Rattle.chains.specs.declared.node.Node.TheVariants.{Fragment, Dl, Hl}

-- false: a DG's data; true: a channel's signal data
abbrev pub which : Bool → Chain
which false = records
which true = signal

-- false: a recording's limits; true: those of a file whose columns are read
abbrev pub limits_for : Bool → Limits
limits_for false = limits
limits_for true = file_limits

-- the code's kinds, fragments and leaves
abbrev pub kind_of : kinds.Kind → mdf.Kind
kind_of Dt = dt
kind_of Dv = dv

abbrev pub fragment_of : SrcBlock → mdf.Fragment
fragment_of b = record { offset = b.offset; size = b.size; kind = kind_of b.kind }

abbrev pub leaf_from : Option kinds.Kind → mdf.Leaf
leaf_from (Some k) = leaf (kind_of k)
leaf_from None = none

-- a fragment, a DL or an HL
pub data Standing : Type 0 where
  data_block : mdf.Fragment → Standing
  data_list : Standing
  list-header : Standing

abbrev pub by_leaf : {A : Type 0} → mdf.Leaf → A → (mdf.Kind → A) → A
by_leaf none other f = other
by_leaf (leaf k) other f = f k

-- "header range, 12 in a data chain"
unfoldable pub node_at : Chain → List ℕ → ℕ → Checked Standing
node_at c s a =
    and_then (header_in s a)
    (λ _. by_leaf (leaf_of c (kind_at s a))
    (if_eq (kind_at s a) kind_dl (ok data_list) (if_eq (kind_at s a) kind_hl (ok list-header) (refused 12 a)))
    (λ k. ok (data_block (fragment s a k))))

-- the code's answer
abbrev pub node_of : Result Node Refusal → Checked Standing
node_of (Ok (Fragment b)) = ok (data_block (fragment_of b))
node_of (Ok Dl) = ok data_list
node_of (Ok Hl) = ok list-header
node_of (Err e) = refused (number_of e) (place_of e)
