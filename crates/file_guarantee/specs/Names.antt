-- Names in a result: a link to metadata is 0 or leads to a copied block, which stands and is whole; so every name passes.
use Rattle.std.specs.Prelude.{ℕ, ◌+◌, List, ◌++◌, ◌≡◌, refl, length}
use Rattle.std.proofs.Common.{append_assoc, arith, length-append}
use Rattle.std.proofs.Math.Option.{Option, none, some}
use Rattle.base.specs.Checked.{fine}
use Rattle.mdf.specs.Block.{kind_at, size_at, links_at}
use Rattle.mdf.specs.Name.{name_at}
use Rattle.plan.specs.Copies.{Copy, copy_of}
use Rattle.result.specs.Fill.{header, new_link, or_zero, copied_links, data_of, copied_bytes}
use Rattle.result.specs.Guarantee.{Stands, In}
use Rattle.copies_laws.specs.AnswerLaws.{Whole}
use Rattle.copies_laws.specs.LengthLaws.{length-copied}
use Rattle.copies_laws.specs.MemoLaws.{copy_in_lem}
use Rattle.shown_laws.specs.Header.{length-header}
use Rattle.guarantee.specs.Named.{CopyStands}
use Rattle.file_guarantee.specs.Passed.{name_none, name_fine}

-- a copied block that stands in f passes as a name
copy_name : {f : List ℕ} (s chain : List ℕ) (memo : List Copy) (fh a t : ℕ) → Whole s a → Stands f t (copied_bytes s chain memo fh a) → name_at f t ≡ fine
unfolding copied_bytes
copy_name {f} s chain memo fh a t w st =
    let long = length-copied s chain memo fh a w in
    let rest : List ℕ = copied_links s chain memo fh a (links_at s a) ++ data_of s a in
    let st' : Stands f t (header (kind_at s a) (size_at s a) (links_at s a) ++ rest) = rw append_assoc at st in
    let size : 24 + length rest ≡ size_at s a = rw length-append (omega (arith, simp (length-append, length-header) at long)) in
    name_fine (kind_at s a) (size_at s a) (links_at s a) rest st' size (omega (arith, w.short))

-- every name of a result: those that CG and CN lead to
pub names_fine : (s f chain : List ℕ) (memo : List Copy) (fh : ℕ) → ((c : Copy) → In c memo → CopyStands s f chain memo fh c)
    → (a : ℕ) → name_at f (new_link memo a) ≡ fine
unfolding new_link
names_fine s f chain memo fh all a = go (copy_of a memo) refl
  where
    go : (o : Option ℕ) → copy_of a memo ≡ o → name_at f (or_zero o) ≡ fine
    go none e = name_none f
    go (some t) e =
        let k = all (record { from = a; to = t }) (copy_in_lem a t memo e) in
        copy_name s chain memo fh a t k.made.whole k.stands
