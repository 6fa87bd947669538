-- A result's attachments pass their checks again, and its columns' references lead to them.
use Prim.{Unit, tt}
use Rattle.std.specs.Prelude.{ℕ, zero, suc, ◌+◌, ◌-◌, ◌^◌, ◌≤◌, ◌<◌, ◌≡◌, length, get_or}
use mathlib.Core.List.{List, [], ◌∷◌, ◌++◌}
use Rattle.std.proofs.Math.Path.{refl, sym}
use Rattle.std.proofs.Common.{ap, subst, ◌∙◌, arith}
use Rattle.base.specs.ChoiceLaws.{lt_yes, lt_no, lt_first, lt_back}
use Rattle.base.specs.Checked.{Checked, ok, fine}
use Rattle.mdf.specs.Block.{kind_at, size_at, links_at, link_at, first_link, header_in}
use Rattle.plan.specs.Copies.{Copy, Copies, copy_links, copy_root, Attachment, Attached, is_attached, attach, attachments_from, attachments_of}
use Rattle.plan.specs.Photos.{kind_at_block, most_attachments, attachment_in, references}
use Rattle.result.specs.Fill.{Block, next_attachment, at_bytes, copied_blocks, attachment_blocks}
use Rattle.result.specs.Links.{Head, head_at}
use Rattle.result.specs.Guarantee.{Stands, In, here, there}
use Rattle.copies_laws.specs.AnswerLaws.{refused≢ok, ok_same, then_ok, by-pick}
use Rattle.copies_laws.specs.AttachLaws.{Moved, LaidAt}
use Rattle.copies_laws.specs.LengthLaws.{length_at}
use Rattle.payload_laws.specs.Lists.{in_append}
use Rattle.plan_laws.specs.Answers.{eq_cases}
use Rattle.plan_laws.specs.Lists.{in_none}
use Rattle.shown_laws.specs.Flat.{in_back}
use Rattle.shown_laws.specs.Joined.{stands_inside}
use Rattle.guarantee.specs.Named.{CopyStands}
use Rattle.guarantee.specs.Attached.{at_next, at_other, at_same, next_small}
use Rattle.again_laws.specs.GoodAgain.{Good, new_good, header-fine, head_links}

-- ---- the first call's checks
pub record Passed (s : List ℕ) (a : ℕ) : Type 0 where
  pub tested : attachment_in s a ≡ fine
  pub kind : kind_at s a ≡ kind_at_block

abbrev AllPassed : List ℕ → List Attachment → Type 0
AllPassed s ts = (u : Attachment) → In u ts → Passed s u.from

one_more : (s : List ℕ) (ts : List Attachment) (v : Attachment) → AllPassed s ts → Passed s v.from → AllPassed s (ts ++ (v ∷ []))
one_more s ts v h k u i = in_append ts (v ∷ []) (h u) (λ j. last u j) i
  where
    last : (u : Attachment) → In u (v ∷ []) → Passed s u.from
    last u here = k
    last u (there j) = absurd (in_none j)

passed-from : (most turns : ℕ) (s : List ℕ) (a : ℕ) (t t' : Attached) → AllPassed s t.attachments → attachments_from most turns s a t ≡ ok t' → AllPassed s t'.attachments
unfolding attachments_from attach
passed-from most zero s a t t' h e = subst (λ (x : Attached). AllPassed s x.attachments) (ok_same e) h
passed-from most (suc turns) s a t t' h e =
    let same : ◌≡◌ {A = Checked Attached} (ok t) (ok t') → AllPassed s t'.attachments = λ q. subst (λ (x : Attached). AllPassed s x.attachments) (ok_same q) h in
    eq_cases a 0 _ _ e (λ _ q. same q) (λ _ q.
    by-pick (is_attached a t.attachments) _ _ q same (λ r.
    let w = then_ok (header_in s a) _ r in
    eq_cases (kind_at s a) kind_at_block _ _ w.2 (λ k e1.
    let x = then_ok (attachment_in s a) _ e1 in
    let y = lt_first _ _ _ _ x.2 refused≢ok in
    let m = then_ok (copy_links (copy_root most s) s (links_at s a - 1) (a + 32) t.made) _ y.1 in
    passed-from most turns s (first_link s a) (attach a (size_at s a) t.made m.0 t) t'
    (one_more s t.attachments _ h (record { tested = x.1; kind = k })) m.2)
    (λ _ q. same q)))

pub all-passed : (most : ℕ) (s : List ℕ) (a : ℕ) (m : Copies) (t : Attached) → attachments_of most s a m ≡ ok t → AllPassed s t.attachments
unfolding attachments_of
all-passed most s a m t e = passed-from most (most_attachments + 2) s a (record { attachments = []; made = m }) t (λ u i. absurd (in_none i)) e

-- ---- in the file
head-kind : (f s : List ℕ) (a b : ℕ) → head_at f b ≡ head_at s a → kind_at f b ≡ kind_at s a
unfolding head_at
head-kind f s a b e = ap (λ (h : Head). h.kind) e

head-size : (f s : List ℕ) (a b : ℕ) → head_at f b ≡ head_at s a → size_at f b ≡ size_at s a
unfolding head_at
head-size f s a b e = ap (λ (h : Head). h.size) e

tested_again : (f s : List ℕ) (a b : ℕ) → links_at f b ≡ links_at s a → size_at f b ≡ size_at s a → b + size_at f b ≤ length f → attachment_in s a ≡ fine → attachment_in f b ≡ fine
unfolding attachment_in
tested_again f s a b l z inside e =
    let x = lt_back _ _ _ _ e refused≢ok in
    let y = lt_back _ _ _ _ x.1 refused≢ok in
    let w = lt_back _ _ _ _ y.1 refused≢ok in
    sym (lt_no _ _ _ _ (omega (arith, x.0)) (lt_no _ _ _ _ (omega (arith, y.0)) (lt_no _ _ _ _ (omega (arith, w.0)) (lt_no _ _ _ _ inside refl))))

module _ (s f : List ℕ) (bytes : (i : ℕ) → get_or s i 0 < 256) (chain : List ℕ) (memo : List Copy) (md fh : ℕ)
    (all : (c : Copy) → In c memo → CopyStands s f chain memo fh c) where
  -- an AT that stands, before the others
  pub record AtBlock (t : Attachment) (ts : List Attachment) : Type 0 where
    pub stands : Stands f t.to (at_bytes s memo t.from (next_attachment ts))
    pub moved : Moved s t.from
    pub passed : Passed s t.from
    pub above : 0 < t.to
    pub small : next_attachment ts < 256 ^ 8

  unfoldable pub AllAt : List Attachment → Type 0
  AllAt [] = Unit {0}
  AllAt (t ∷ ts) = AtBlock t ts × AllAt ts

  pub all-at : (ts : List Attachment) (n e : ℕ) → LaidAt s n ts e → AllPassed s ts
      → ((c : Block) → In c (attachment_blocks s chain memo fh ts) → 0 < c.at)
      → ((c : Block) → In c (attachment_blocks s chain memo fh ts) → c.at < 256 ^ 8)
      → ((c : Block) → In c (attachment_blocks s chain memo fh ts) → Stands f c.at c.bytes) → AllAt ts
  unfolding AllAt LaidAt attachment_blocks
  all-at [] n e laid passed above below stands = tt
  all-at (t ∷ ts) n e laid passed above below stands =
      let rest : (c : Block) → In c (attachment_blocks s chain memo fh ts) → In c (attachment_blocks s chain memo fh (t ∷ ts)) =
      λ c i. in_back (copied_blocks s chain memo fh t.own) (there i) in
      let here' = in_back (copied_blocks s chain memo fh t.own) here in (
        record {
          stands = stands _ here';
          moved = laid.1;
          passed = passed t here;
          above = above _ here';
          small = next_small s f bytes chain memo fh all ts (λ c i. below c (rest c i));
        },
        all-at ts _ e laid.2 (λ u i. passed u (there i)) (λ c i. above c (rest c i)) (λ c i. below c (rest c i)) (λ c i. stands c (rest c i)),
      )

  module _ (t : Attachment) (ts : List Attachment) (k : AtBlock t ts) where
    same_head : head_at f t.to ≡ head_at s t.from
    same_head = (at_same s f bytes chain memo fh all t.from t.to (next_attachment ts) k.moved k.above k.small k.stands).head

    pub size_is : size_at f t.to ≡ size_at s t.from
    size_is = head-size f s t.from t.to same_head

    links_is : links_at f t.to ≡ links_at s t.from
    links_is = head_links f s t.from t.to same_head

    inside : t.to + size_at f t.to ≤ length f
    inside =
        let long = length_at s memo t.from (next_attachment ts) k.moved in
        omega (arith, size_is, long, stands_inside (at_bytes s memo t.from (next_attachment ts)) k.stands (omega (arith, long, k.moved.within)))

    pub block-header : header_in f t.to ≡ fine
    block-header = header-fine f t.to (omega (arith, inside, size_is, k.moved.within))

    pub block_tested : attachment_in f t.to ≡ fine
    block_tested = tested_again f s t.from t.to links_is size_is inside k.passed.tested

    pub block-kind : kind_at f t.to ≡ kind_at_block
    block-kind = head-kind f s t.from t.to same_head ∙ k.passed.kind

    block-good : (i : ℕ) → suc i < links_at f t.to → Good memo md fh (link_at f t.to (suc i))
    block-good i l =
        rw (at_other s f bytes chain memo fh all t.from t.to (next_attachment ts) k.moved k.above k.small k.stands i (omega (arith, links_is)))
        (new_good memo md fh _)

    pub block-next : first_link f t.to ≡ next_attachment ts
    unfolding first_link
    block-next =
        sym (lt_yes _ _ _ _ (omega (arith, links_is, k.moved.enough))
        (sym (at_next s f bytes chain memo fh all t.from t.to (next_attachment ts) k.moved k.above k.small k.stands)))

  -- ---- what copying asks of them
  pub data AtFrom (b : ℕ) : Type 0 where
    none_left_lem : b ≡ 0 → AtFrom b
    standing : (t : Attachment) (ts : List Attachment) → b ≡ t.to → AtBlock t ts → AllAt ts → AtFrom b

  pub at_from : (ts : List Attachment) → AllAt ts → AtFrom (next_attachment ts)
  unfolding AllAt
  at_from [] h = none_left_lem refl
  at_from (t ∷ ts) h = standing t ts refl h.0 h.1

  pub at-header : (b : ℕ) → AtFrom b → (b ≡ 0 → ⊥) → header_in f b ≡ fine
  at-header b (none_left_lem e) n = absurd (n e)
  at-header b (standing t ts e k h) n = rw e (block-header t ts k)

  pub at_tested : (b : ℕ) → AtFrom b → (b ≡ 0 → ⊥) → attachment_in f b ≡ fine
  at_tested b (none_left_lem e) n = absurd (n e)
  at_tested b (standing t ts e k h) n = rw e (block_tested t ts k)

  pub at-good : (b : ℕ) → AtFrom b → (b ≡ 0 → ⊥) → (i : ℕ) → suc i < links_at f b → Good memo md fh (link_at f b (suc i))
  at-good b (none_left_lem e) n i l = absurd (n e)
  at-good b (standing t ts e k h) n i l = rw e (block-good t ts k i (rw e at l))

  pub at_following : (b : ℕ) → AtFrom b → (b ≡ 0 → ⊥) → AtFrom (first_link f b)
  at_following b (none_left_lem e) n = absurd (n e)
  at_following b (standing t ts e k h) n = rw (e, block-next t ts k) (at_from ts h)
