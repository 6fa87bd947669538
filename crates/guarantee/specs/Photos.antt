-- The photos of a channel (document 02, request 9): how many a column refers to, and where its references lead.
use Rattle.std.specs.Prelude.{ℕ, zero, suc, ◌+◌, ◌*◌, ◌^◌, ◌≤◌, ◌<◌, List, [], ◌∷◌, Bool, true, false, ◌⊎◌, ◌≡◌, refl, get_or}
use Rattle.std.proofs.lemmas.Bool.{false≢true}
use Rattle.std.proofs.Common.{inl, inr, sym, ap, ◌∙◌, arith, lit<}
use Rattle.std.proofs.Math.ListN.{length}
use Rattle.base.specs.Field.{le_at}
use Rattle.base.specs.Checked.{fine}
use Rattle.mdf.specs.Block.{links_at, link_at, data_at}
use Rattle.mdf.specs.Chain.{is_in}
use Rattle.plan.specs.Columns.{Column}
use Rattle.plan.specs.Copies.{Attachment}
use Rattle.plan.specs.Photos.{photo_count, references, header_attachments, photos_of, photos_in}
use Rattle.result.specs.Fill.{moved_to, photo_links}
use Rattle.result.specs.Due.{photos_due}
use Rattle.result.specs.Names.{chain_place, PhotoDue, PhotosDue}
use Rattle.result.specs.Recording.{attached_from}
use Rattle.copies_laws.specs.AnswerLaws.{Whole}
use Rattle.shown_laws.specs.ImageBytes.{field_below}
use Rattle.plan.specs.PhotosLaws.{length-references, reference_at}
use Rattle.copies_laws.specs.PhotoLaws.{photos_fine, attached_each, attached_to, moved_at, moved_none}

-- ---- how many

-- links that fit a block
pub photos_few : (photos : Bool) (s : List ℕ) (c : ℕ) → photos_in photos s c ≡ fine → Whole s c → length (photos_of photos s c) ≤ 33554432
unfolding photos_of
photos_few false s c e w = omega arith
photos_few true s c e w = omega (arith, length-references s c, (photos_fine s c e).0, w.within, w.short)

-- as many as the count says, with the choice
pub photos_many : (photos : Bool) (s : List ℕ) (c : ℕ) → length (photos_of photos s c) ≡ photos_due photos s c
unfolding photos_of photos_due photo_count
photos_many false s c = refl
photos_many true s c = length-references s c

-- a count of 2 bytes
pub photos_small : (photos : Bool) (s : List ℕ) (c : Column) → ((i : ℕ) → get_or s i 0 < 256) → c.photos ≡ photos_of photos s c.channel
    → length c.photos < 256 ^ 2
unfolding photos_due
photos_small false s c bytes e = rw e (rw (photos_many false s c.channel) (lit< tt))
photos_small true s c bytes e = rw e (rw (photos_many true s c.channel) (field_below s bytes 2 (data_at s c.channel + 22)))

-- with the choice a column keeps its channel's references
pub photos_kept_lem : (photos : Bool) (s : List ℕ) (c : Column) → photos ≡ true → c.photos ≡ photos_of photos s c.channel → c.photos ≡ references s c.channel
unfolding photos_of
photos_kept_lem true s c b e = e
photos_kept_lem false s c b e = absurd (false≢true b)

-- ---- where they lead

-- reference number i, led to its attachment
pub photo_link : (ts : List Attachment) (refs : List ℕ) (i : ℕ) → i < length refs → get_or (photo_links ts refs) i 0 ≡ moved_to (get_or refs i 0) ts
unfolding photo_links
photo_link ts [] i h = absurd (omega arith)
photo_link ts (a ∷ refs) zero h = refl
photo_link ts (a ∷ refs) (suc i) h = photo_link ts refs i (omega arith)

module _ (f : List ℕ) (ts : List Attachment) (nonzero : is_in 0 (attached_from ts) ≡ false)
    (place : (k : ℕ) → k < length (attached_from ts)
    → (chain_place f (link_at f 64 3) k ≡ get_or (attached_to ts) k 0) × (get_or (attached_to ts) k 0 < 256 ^ 8)) where
  -- what is known of a reference a that was tested
  record Led (a : ℕ) : Type 0 where
    due : PhotoDue f (attached_from ts) a (moved_to a ts)
    small : moved_to a ts < 256 ^ 8

  led-none : (a : ℕ) → a ≡ 0 → Led a
  led-none a z =
      let e : moved_to a ts ≡ 0 = rw z (moved_none ts 0 nonzero) in
      record { due = record { zero_stays = λ _. e; moved = λ n. absurd (n z) }; small = omega (arith, e) }

  led-moved : (a : ℕ) → is_in a (attached_from ts) ≡ true → (a ≡ 0 → ⊥) → Led a
  led-moved a h n =
      let r = moved_at ts a h in
      let p = place r.number r.few in
      record {
        due = record { zero_stays = λ z. absurd (n z); moved = λ _. (r.number, r.few, r.stood, r.stands ∙ sym p.0) };
        small = omega (arith, r.stands, p.1);
      }

  led : (a : ℕ) → (a ≡ 0) ⊎ (is_in a (attached_from ts) ≡ true) → Led a
  led zero (inl z) = led-none zero z
  led zero (inr h) = led-none zero refl
  led (suc a) (inl z) = led-none (suc a) z
  led (suc a) (inr h) = led-moved (suc a) h (λ z. omega (arith, z))

  -- the CN at c of the recording s, and the one at cn of the result, whose links after the eighth are these
  pub photos_due_lem : (s : List ℕ) (c cn : ℕ) → header_attachments s ≡ attached_from ts → photos_in true s c ≡ fine
      → ((i : ℕ) → i < length (references s c) → get_or (photo_links ts (references s c)) i 0 < 256 ^ 8
      → link_at f cn (8 + i) ≡ get_or (photo_links ts (references s c)) i 0)
      → PhotosDue s f (attached_from ts) c cn
  unfolding photo_count
  photos_due_lem s c cn same e links =
      let h = photos_fine s c e in
      let tested = rw same at h.1 in
      record {
        linked = h.0;
        each = λ i l.
            let few : i < length (references s c) = omega (arith, length-references s c, l) in
            let r = led (get_or (references s c) i 0) (attached_each (attached_from ts) (references s c) tested i few) in
            let w = photo_link ts (references s c) i few in
            let q : link_at f cn (8 + i) ≡ moved_to (get_or (references s c) i 0) ts = links i few (rw w r.small) ∙ w in
            rw (q, ← reference_at s c i l) r.due;
      }
