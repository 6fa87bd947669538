-- Attachments stand in order, each after the blocks newly copied for it.
use Rattle.std.specs.Prelude.{ℕ, zero, suc, ◌+◌, ◌*◌, ◌-◌, ◌≤◌, ◌<◌, List, [], ◌∷◌, ◌++◌, ◌≡◌, length, drop}
use Rattle.std.proofs.Common.{append_assoc, append-nil, sym, ◌∙◌, le_refl, suc-mul, arith, length-append}
use Rattle.std.proofs.Math.Seq.{append_snoc, drop-append_seam}
use Rattle.base.specs.ChoiceLaws.{lt_first, lt_back}
use Rattle.base.specs.Checked.{ok}
use Rattle.mdf.specs.Block.{kind_at, size_at, links_at, first_link, header_in}
use Rattle.plan.specs.Geometry.{align8}
use Rattle.plan.specs.Copies.{Copy, Copies, copy_links, copy_root, Attachment, Attached, is_attached, attach, attachments_from, attachments_of}
use Rattle.plan.specs.Photos.{kind_at_block, most_attachments, attachment_in}
use Rattle.copies_laws.specs.AnswerLaws.{refused≢ok, ok_same, then_ok, by_eq, by-pick}
use Rattle.copies_laws.specs.Laid.{Laid, Tight, tight_from, tight_to, align_within, laid_from, laid-to, laid-ends, align_past, align_near, Grown}
use Rattle.copies_laws.specs.CopyLaws.{links_grown, root_grown}

-- an AT that passed its checks
pub record Moved (s : List ℕ) (a : ℕ) : Type 0 where
  pub range : a + size_at s a ≤ length s
  pub within : 24 + 8 * links_at s a ≤ size_at s a
  pub enough : 4 ≤ links_at s a

-- the attachments stand in order from a on, each after its own copies, and end by e
unfoldable pub LaidAt : List ℕ → ℕ → List Attachment → ℕ → Type 0
LaidAt s a [] e = a ≤ e
LaidAt s a (t ∷ ts) e = Laid s a t.own t.to × Moved s t.from × LaidAt s (t.to + size_at s t.from) ts e

-- each begins by the next multiple of 8, and so is e
unfoldable pub TightAt : List ℕ → ℕ → List Attachment → ℕ → Type 0
TightAt s a [] e = e ≤ align8 a
TightAt s a (t ∷ ts) e = Tight s a t.own t.to × TightAt s (t.to + size_at s t.from) ts e

-- the copies made for attachments
unfoldable pub own_copies : List Attachment → List Copy
own_copies [] = []
own_copies (t ∷ ts) = t.own ++ own_copies ts

pub moved-fits : (s : List ℕ) (a : ℕ) {u : Unit {0}} → attachment_in s a ≡ ok u → Moved s a
unfolding attachment_in
moved-fits s a e =
    let b = lt_back _ _ _ _ e refused≢ok in
    let c = lt_back _ _ _ _ b.1 refused≢ok in
    let d = lt_back _ _ _ _ c.1 refused≢ok in
    let f = lt_back _ _ _ _ d.1 refused≢ok in
    record { range = f.0; within = c.0; enough = b.0 }

pub laid_at_from : (s : List ℕ) (a b e : ℕ) (ts : List Attachment) → a ≤ b → LaidAt s b ts e → LaidAt s a ts e
unfolding LaidAt
laid_at_from s a b e [] h l = omega arith
laid_at_from s a b e (t ∷ ts) h l = (laid_from s a b t.to t.own h l.0, l.1, l.2)

tight_at_from : (s : List ℕ) (a b e : ℕ) (ts : List Attachment) → b ≤ align8 a → TightAt s b ts e → TightAt s a ts e
unfolding TightAt
tight_at_from s a b e [] h t = let k : e ≤ align8 b = t in omega (arith, align_within a b h)
tight_at_from s a b e (x ∷ ts) h t = (tight_from s a b x.to x.own h t.0, t.1)

pub laid_at_ends : (s : List ℕ) (a e : ℕ) (ts : List Attachment) → LaidAt s a ts e → a ≤ e
unfolding LaidAt
laid_at_ends s a e [] l = l
laid_at_ends s a e (t ∷ ts) l =
    let h : a ≤ t.to = laid-ends s a t.to t.own l.0 in
    let k : t.to + size_at s t.from ≤ e = laid_at_ends s (t.to + size_at s t.from) e ts l.2 in
    omega arith

-- t' has more attachments than t, laid past what t had placed; at most 64 attachments, and copies within the limit. An attachment takes at most the image's
-- length and 7 bytes before and after it
pub record GrownAt (limit : ℕ) (s : List ℕ) (t t' : Attached) : Type 0 where
  pub more : List Attachment
  pub attachments : t'.attachments ≡ t.attachments ++ more
  pub memo : t'.made.memo ≡ t.made.memo ++ own_copies more
  pub laid : LaidAt s t.made.next more t'.made.next
  pub tight : TightAt s t.made.next more t'.made.next
  pub few : length t.made.memo ≤ limit → length t'.made.memo ≤ limit
  pub most : length t.attachments ≤ 64 → length t'.attachments ≤ 64
  pub near : t'.made.next ≤ t.made.next + 268435463 * length (own_copies more) + length more * (length s + 14)

pub attached_same : {most : ℕ} (s : List ℕ) {t t' : Attached} → t ≡ t' → GrownAt most s t t'
unfolding LaidAt TightAt own_copies
attached_same s {t} e = rw (← e) (record {
  more = [];
  attachments = sym (append-nil t.attachments);
  memo = sym (append-nil t.made.memo);
  laid = le_refl t.made.next;
  tight = align_past t.made.next;
  few = λ h. h;
  most = λ h. h;
  near = omega arith;
})

-- one attachment, then more
pub attached_one : {most : ℕ} {s : List ℕ} {t t' : Attached} {m : Copies} (a : ℕ) → Moved s a → length t.attachments < 64 → Grown most s 0 t.made m
    → GrownAt most s (attach a (size_at s a) t.made m t) t' → GrownAt most s t t'
unfolding LaidAt TightAt own_copies attach
attached_one {most} {s} {t} {t'} {m} a w h f g =
    let one : Attachment = record { from = a; to = align8 m.next; own = drop (length t.made.memo) m.memo } in
    let own : one.own ≡ f.new = rw f.memo (drop-append_seam t.made.memo f.new) in
    let near1 : t'.made.next ≤ align8 (align8 m.next + size_at s a) + 268435463 * length (own_copies g.more) + length g.more * (length s + 14) =
    g.near in
    let small : a + size_at s a ≤ length s = w.range in
    let room : length m.memo + 0 ≤ most → length t'.made.memo ≤ most = λ q. g.few (omega arith) in
    record {
      more = one ∷ g.more;
      attachments = g.attachments ∙ append_snoc t.attachments one g.more;
      memo = g.memo ∙ rw (own, f.memo) (append_assoc t.made.memo f.new (own_copies g.more));
      laid = (
        rw own (laid-to s _ _ _ f.new f.laid (align_past m.next)),
        w,
        laid_at_from s _ _ _ g.more (align_past (align8 m.next + size_at s a)) g.laid,
      );
      tight = (rw own (tight_to s _ _ f.new f.tight), tight_at_from s _ _ _ g.more (le_refl _) g.tight);
      few = λ q. room (f.few (omega arith));
      most = λ q. g.most (rw length-append (omega arith));
      near = rw (own, length-append, suc-mul (length g.more) (length s + 14))
          (omega (arith, f.near, align_near m.next, align_near (align8 m.next + size_at s a)));
    }

-- the attachment chain
pub attachments_grown : {most : ℕ} (turns : ℕ) (s : List ℕ) (a : ℕ) (t t' : Attached) → attachments_from most turns s a t ≡ ok t' → GrownAt most s t t'
unfolding attachments_from
attachments_grown {most} zero s a t t' e = attached_same s (ok_same e)
attachments_grown {most} (suc turns) s a t t' e =
    let same : ok t ≡ ok t' → GrownAt most s t t' = λ q. attached_same s (ok_same q) in
    by_eq a 0 _ _ e same (λ q. by-pick (is_attached a t.attachments) _ _ q same (λ r.
    let h = then_ok (header_in s a) _ r in
    by_eq (kind_at s a) kind_at_block _ _ h.2 (λ k.
    let w = then_ok (attachment_in s a) _ k in
    let l = lt_first _ _ _ _ w.2 refused≢ok in
    let m = then_ok (copy_links (copy_root most s) s (links_at s a - 1) (a + 32) t.made) _ l.1 in
    attached_one a (moved-fits s a w.1) l.0
    (links_grown s 0 (copy_root most s) (root_grown s) (links_at s a - 1) (a + 32) t.made m.0 m.1)
    (attachments_grown turns s (first_link s a) _ t' m.2))
    same))

-- all attachments: the copies made before are kept, at most 64 are laid from the end of what was placed before
pub record AllAttached (limit : ℕ) (s : List ℕ) (m : Copies) (t : Attached) : Type 0 where
  pub memo : t.made.memo ≡ m.memo ++ own_copies t.attachments
  pub laid : LaidAt s m.next t.attachments t.made.next
  pub tight : TightAt s m.next t.attachments t.made.next
  pub few : length m.memo ≤ limit → length t.made.memo ≤ limit
  pub most : length t.attachments ≤ 64
  pub near : t.made.next ≤ m.next + 268435463 * length (own_copies t.attachments) + length t.attachments * (length s + 14)

pub all_attached : {most : ℕ} (s : List ℕ) (a : ℕ) (m : Copies) (t : Attached) → attachments_of most s a m ≡ ok t → AllAttached most s m t
unfolding attachments_of
all_attached s a m t e =
    let g = attachments_grown (most_attachments + 2) s a (record { attachments = []; made = m }) t e in
    let k : t.attachments ≡ g.more = g.attachments in
    record { memo = rw k g.memo; laid = rw k g.laid; tight = rw k g.tight; few = g.few; most = g.most (omega arith); near = rw k g.near }
