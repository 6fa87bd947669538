-- Laws of the check of a compared group's data: the ways through it.
use Rattle.std.specs.Prelude.{ℕ, List, Bool, true, false, ◌≡◌}
use Rattle.std.proofs.Common.{sym, ◌∙◌, arith}
use Rattle.base.specs.Checked.{Verdict, fine}
use Rattle.mdf.specs.Chain.{Fragment}
use Rattle.mdf.specs.Walk.{id_size}
use Rattle.mdf.specs.Group.{samples, inval_bytes}
use Rattle.mdf.specs.Records.{any_dv, sorted_in}
use Rattle.result.specs.Sharing.{stream_in}
use Rattle.result.specs.SharingLaws.{stream_sorted, stream_ids, stream_empty_dv, stream_empty_dt}

module _ (s : List ℕ) (d g : ℕ) (fs : List Fragment) {n : ℕ} (a : n ≡ samples s g) where
  pub way_samples : (n ≡ 0 → ⊥) → {v : Verdict} → v ≡ sorted_in s d g fs → v ≡ stream_in s d g fs
  way_samples h w = w ∙ sym (stream_sorted s d g fs (omega arith))

  module _ (z : n ≡ 0) {m : ℕ} (b : m ≡ inval_bytes s g) where
    pub way_inval : (m ≡ 0 → ⊥) → {v : Verdict} → v ≡ sorted_in s d g fs → v ≡ stream_in s d g fs
    way_inval h w = w ∙ sym (stream_sorted s d g fs (omega arith))

    module _ (y : m ≡ 0) {t : Bool} (e : t ≡ any_dv fs) where
      pub way_dv : t ≡ true → fine ≡ stream_in s d g fs
      way_dv q = sym (stream_empty_dv s d g fs (sym e ∙ q) (omega arith) (omega arith))

      module _ (q : t ≡ false) {i : ℕ} (f : i ≡ id_size s d) where
        pub way_bare : i ≡ 0 → fine ≡ stream_in s d g fs
        way_bare x = sym (stream_empty_dt s d g fs (sym e ∙ q) (omega arith) (omega arith) (omega arith))

        pub way_ids : (i ≡ 0 → ⊥) → {v : Verdict} → v ≡ sorted_in s d g fs → v ≡ stream_in s d g fs
        way_ids x w = w ∙ sym (stream_ids s d g fs (sym e ∙ q) (omega arith))
