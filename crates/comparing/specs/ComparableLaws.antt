-- Laws of the comparison of two groups' time columns: the ways to its answer.
use Rattle.std.specs.Prelude.{ℕ, zero, suc, ◌+◌, ◌<◌, List, [], ◌∷◌, Bool, true, false, not, ◌≡◌, refl, length, get_or}
use Rattle.std.specs.Bool.{beq}
use Rattle.std.proofs.lemmas.Bool.{false≢true}
use Rattle.std.proofs.Common.{sym, ◌∙◌, arith}
use Rattle.base.specs.Blit.{part}
use Rattle.base.specs.Checked.{fine}
use Rattle.mdf.specs.Chain.{Fragment}
use Rattle.work_words.specs.Words.{fragments_of}
use Rattle.plan.specs.Channel.{channel_bytes, keeps_inval, fits, width}
use Rattle.plan.specs.Data.{records_in}
use Rattle.result.specs.Payload.{cell, cells}
use Rattle.result.specs.Sharing.{streams_in}
use Rattle.result.specs.SharingLaws.{same_self, stream_sorted}
use Rattle.payload_laws.specs.CellLaws.{width-within}
use Rattle.places.specs.Stretch.{body_bytes}
use Rattle.places.specs.FacingLaws.{not-true}
use Rattle.cells.specs.declared.cell.Shape.{Shape}
use Rattle.cells.specs.Shape.{ShapeOf}
use Rattle.comparing.specs.declared.times.Clock.{Clock}
use Rattle.comparing.specs.Comparable.{clock_records, clock_width, Comparable, TimesSame}
use Rattle.comparing.specs.Timed.{Timed, cells_from, RecordsSame}
use Rattle.comparing.specs.RunLaws.{width_is, widths}

-- a column of no bytes
no_cells : (s : List ℕ) (g c : ℕ) (rs : List (List ℕ)) → channel_bytes s c ≡ 0 → keeps_inval s g c ≡ false → cells s g c rs ≡ []
unfolding cells cell part
no_cells s g c [] z k = refl
no_cells s g c (r ∷ rs) z k = rw (z, k) (no_cells s g c rs z k)

unlike : (b c : Bool) → not (beq b c) ≡ true → b ≡ c → ⊥
unlike true true n e = false≢true n
unlike true false n e = false≢true (sym e)
unlike false true n e = false≢true e
unlike false false n e = false≢true n

pub alike : (b c : Bool) → not (beq b c) ≡ false → b ≡ c
alike true true n = refl
alike true false n = absurd (false≢true (sym n))
alike false true n = absurd (false≢true (sym n))
alike false false n = refl

-- ---- the form of a channel's cells
module _ {s : List ℕ} {g c : ℕ} {h : Shape} (w : ShapeOf s g c h) where
  bytes_are : h.bytes ≡ channel_bytes s c
  bytes_are = rw w.channel at w.shaped.bytes

  keep_are : h.keep ≡ keeps_inval s g c
  keep_are = rw (w.group, w.channel) at w.shaped.keep

  width_are : h.width ≡ width s g c
  width_are = rw (w.group, w.channel) at w.shaped.wide

  -- of width 0
  none_of : h.width ≡ 0 → (channel_bytes s c ≡ 0) × (keeps_inval s g c ≡ false)
  none_of z = go h.keep refl
    where
      go : (b : Bool) → h.keep ≡ b → (channel_bytes s c ≡ 0) × (keeps_inval s g c ≡ false)
      go true q = let e : h.width ≡ h.bytes + 1 = width_is w.shaped ∙ rw q in absurd (omega arith)
      go false q = let e : h.width ≡ h.bytes + 0 = width_is w.shaped ∙ rw q in (sym bytes_are ∙ omega arith, sym keep_are ∙ q)

-- ---- checked data of a group whose records have bytes
checked_of : (s : List ℕ) (d k : ℕ) (gs : List ℕ) (fs : List Fragment) → k < length gs → 0 < body_bytes s (get_or gs k 0) → streams_in s d gs fs ≡ fine
    → records_in s d gs fs ≡ fine
checked_of s d k [] fs h z e = absurd (omega arith)
checked_of s d zero (g ∷ []) fs h z e = sym (stream_sorted s d g fs z) ∙ e
checked_of s d (suc k) (g ∷ []) fs h z e = absurd (omega arith)
checked_of s d k (g ∷ f ∷ gs) fs h z e = e

-- of a group whose column has a width: its data was checked, and its records have bytes
timed-of : {s : List ℕ} {c : Clock} {gs ws : List ℕ} {h : Shape} → ShapeOf s c.at c.master h → Comparable s c gs ws → 0 < h.width
    → Timed s c h gs ws
timed-of {s} {c} {gs} {ws} {h} w y z =
    let e = width_are w in
    let m : 0 < clock_width s c = omega arith in
    let l = width-within s c.at c.master y.fitting in
    let b : 0 < body_bytes s (get_or gs c.number 0) = rw y.at (omega arith) in
    record {
      ready = record {
        listed = y.is_in;
        plain = rw y.at y.plain;
        checked = checked_of s c.dg c.number gs (fragments_of ws) y.is_in b (y.checked m);
        small = y.small m;
        some = b;
      };
      group = y.at ∙ sym w.group;
      many = y.counted m;
    }

module _ {s : List ℕ} {a : Clock} {gs ws : List ℕ} {b : Clock} {hs vs : List ℕ} where
  pub times-unfit : {t : Bool} → t ≡ fits s a.at a.master → not t ≡ true → TimesSame s a gs ws b hs vs false
  times-unfit {t} q z x y k = absurd (false≢true (sym (not-true t z) ∙ q ∙ x.fitting))

  pub times_unfitting : {t : Bool} → t ≡ fits s b.at b.master → not t ≡ true → TimesSame s a gs ws b hs vs false
  times_unfitting {t} q z x y k = absurd (false≢true (sym (not-true t z) ∙ q ∙ y.fitting))

  module _ {h i : Shape} (w : ShapeOf s a.at a.master h) (v : ShapeOf s b.at b.master i) where
    pub times-bytes : (h.bytes ≡ i.bytes → ⊥) → TimesSame s a gs ws b hs vs false
    times-bytes z x y k = absurd (z (bytes_are w ∙ k.bytes ∙ sym (bytes_are v)))

    pub times_keep : not (beq h.keep i.keep) ≡ true → TimesSame s a gs ws b hs vs false
    times_keep z x y k = absurd (unlike h.keep i.keep z (keep_are w ∙ k.keep ∙ sym (keep_are v)))

    pub times_empty : h.width ≡ 0 → TimesSame s a gs ws b hs vs true
    times_empty z x y k =
        let e = none_of w z in
        rw (
          no_cells s a.at a.master (clock_records s a gs ws) e.0 e.1,
          no_cells s b.at b.master (clock_records s b hs vs) (sym k.bytes ∙ e.0) (sym k.keep ∙ e.1),
        )
        (sym (same_self []))

    pub times-by : (h.width ≡ 0 → ⊥) → h.bytes ≡ i.bytes → h.keep ≡ i.keep → {r : Bool} → RecordsSame s a h gs ws b i hs vs r
        → TimesSame s a gs ws b hs vs r
    unfolding cells_from
    times-by z n m f x y k =
        let e = widths w.shaped v.shaped n m in
        rw (w.group, w.channel, v.group, v.channel) at
        (f (record { one = timed-of w x (omega arith); two = timed-of v y (omega arith); count = k.count }))
