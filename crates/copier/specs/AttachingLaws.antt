-- The ways of the attachment chain.
use Rattle.std.specs.Prelude.{ℕ, zero, suc, ◌+◌, ◌*◌, ◌-◌, ◌≤◌, ◌<◌, List, [], ◌∷◌, ◌++◌, ◌≡◌, refl, Bool, true, false, eqb, ltb, set, get_or, Result, Ok, Err}
use Rattle.std.proofs.Math.Path.{sym, ap}
use Rattle.std.proofs.Common.{◌∙◌, sub-one, eq-eqb, ne_eqb, length-drop, length-set, get_or-drop, get_or-set_same, get_or-set_other}
use native.Mathlib.Omega.{arith}
use Rattle.std.proofs.Math.ListN.{length, drop, length-append}
use Rattle.base.specs.Choice.{pick, if_lt, if_eq}
use Rattle.base.specs.Checked.{Checked, ok, refused, and_then, Verdict}
use Rattle.base.specs.Blit.{blit}
use Rattle.base.specs.BlitLaws.{blit-append, length-blit}
use Rattle.mdf.specs.Block.{kind_at, size_at, links_at, first_link, header_in}
use Rattle.plan.specs.Geometry.{align8}
use Rattle.plan.specs.Copies.{Copies, copies, copy_root, copy_links, Attachment, Attached, is_attached, attach, attachments_from, attachments_of}
use Rattle.plan.specs.Photos.{kind_at_block, most_attachments, attachment_in}
use Rattle.work_words.specs.CopyWords.{attachment_words, attachments_at}
use Rattle.copier.specs.declared.memo.Copying.{Copying}
use Rattle.fields.specs.declared.refusal.Refusal.{Refusal}
use Rattle.fields.specs.Answer.{number_of, place_of}
use Rattle.copier.specs.Standing.{copies_from, copies_in, standing, Room, Ready, Past}
use Rattle.copier.specs.StandingLaws.{length-copies, copies-set, align_near, past_more, past_then, past_same}
use Rattle.copier.specs.Got.{Copied, AfterGot}
use Rattle.copier.specs.TurnLaws.{copied_at, copied_refused, after-at}
use Rattle.copier.specs.HistoryLaws.{past-blit}
use Rattle.copier.specs.Index.{Indexed}
use Rattle.copier.specs.IndexLaws.{indexed_same}
use Rattle.photos.specs.declared.Going.{Going}
use Rattle.photos.specs.Followed.{goes_on, going_as}
use Rattle.photos.specs.FollowedLaws.{goes_fits}
use Rattle.copier.specs.Attaching.{attached_in, on_attaches, Moving, MovedAll}

-- ---- the search: what is left of the attachments gives what all give
attached_none : (w : List ℕ) (p k a : ℕ) → k ≡ 0 → attached_in w p k a ≡ false
unfolding attached_in
attached_none w p k a e = rw e

attached_cons : (w : List ℕ) (p k a : ℕ) → 0 < k → attached_in w p k a ≡ pick (eqb (get_or w p 0) a) true (attached_in w (p + 3) (k - 1) a)
unfolding attached_in
attached_cons w p zero a h = absurd (omega arith)
attached_cons w p (suc k) a h = rw sub-one

module _ (w : List ℕ) (p k a : ℕ) {b : Bool} where
  pub attached_end : attached_in w p k a ≡ b → k ≡ 0 → false ≡ b
  attached_end i e = rw (attached_none w p k a e) at i

  pub attached_hit : attached_in w p k a ≡ b → 0 < k → get_or w p 0 ≡ a → true ≡ b
  attached_hit i h e = rw (attached_cons w p k a h, eq-eqb _ _ e) at i

  pub attached_miss : attached_in w p k a ≡ b → 0 < k → (get_or w p 0 ≡ a → ⊥) → attached_in w (p + 3) (k - 1) a ≡ b
  attached_miss i h e = rw (attached_cons w p k a h, ne_eqb _ _ e) at i

-- ---- the words of attachments
pub get_d_before : (bs : List ℕ) (j i : ℕ) (l : List ℕ) → i < j → get_or (blit j bs l) i 0 ≡ get_or l i 0
unfolding blit
get_d_before [] j i l h = refl
get_d_before (b ∷ bs) j i l h = get_d_before bs (suc j) i (set l j b) (omega arith) ∙ get_or-set_other l j i b 0 (λ e. omega arith)

attached_blit : (ts : List Attachment) (w : List ℕ) (p a : ℕ) → p + 3 * length ts ≤ length w → attached_in (blit p (attachment_words ts) w) p (length ts) a ≡ is_attached a ts
unfolding attached_in attachment_words is_attached blit
attached_blit [] w p a h = refl
attached_blit (t ∷ ts) w p a h =
    let x : List ℕ = set (set (set w p t.from) (suc p) t.to) (suc (suc p)) (length t.own) in
    let n : suc (suc (suc p)) ≡ p + 3 = omega arith in
    let first : get_or (blit (suc (suc (suc p))) (attachment_words ts) x) p 0 ≡ t.from =
    get_d_before (attachment_words ts) (suc (suc (suc p))) p x (omega arith)
    ∙ get_or-set_other (set (set w p t.from) (suc p) t.to) (suc (suc p)) p (length t.own) 0 (λ e. omega arith)
    ∙ get_or-set_other (set w p t.from) (suc p) p t.to 0 (λ e. omega arith) ∙ get_or-set_same w p t.from 0 (omega arith) in
    let room : p + 3 + 3 * length ts ≤ length x = simp length-set (omega arith) in
    let rest : attached_in (blit (suc (suc (suc p))) (attachment_words ts) x) (p + 3) (length ts) a ≡ is_attached a ts =
    rw n (attached_blit ts x (p + 3) a room) in
    rw (first, rest)

attached_past : {n : ℕ} {x y : List ℕ} (p k a : ℕ) → Past n x y → n ≤ p → attached_in y p k a ≡ attached_in x p k a
unfolding attached_in
attached_past p zero a h l = refl
attached_past {n} {x} {y} p (suc k) a h l =
    let e : p ≡ n + (p - n) = omega arith in
    let g : get_or y p 0 ≡ get_or x p 0 =
    ap (λ (i : ℕ). get_or y i 0) e ∙ sym (get_or-drop n y (p - n) 0) ∙ ap (λ (z : List ℕ). get_or z (p - n) 0) h.kept ∙ get_or-drop n x (p - n) 0
    ∙ ap (λ (i : ℕ). get_or x i 0) (sym e) in
    rw (g, attached_past (p + 3) k a h (omega arith))

words_snoc : (ts : List Attachment) (t : Attachment) → attachment_words (ts ++ (t ∷ [])) ≡ attachment_words ts ++ (t.from ∷ t.to ∷ length t.own ∷ [])
unfolding attachment_words
words_snoc [] t = refl
words_snoc (x ∷ ts) t = rw (words_snoc ts t)

pub length-words : (ts : List Attachment) → length (attachment_words ts) ≡ 3 * length ts
unfolding attachment_words
length-words [] = refl
length-words (t ∷ ts) = let e = length-words ts in omega arith

pub copies-blit : (bs w : List ℕ) (k j : ℕ) → 2 * k ≤ j → copies_from (blit j bs w) 0 k ≡ copies_from w 0 k
unfolding blit
copies-blit [] w k j h = refl
copies-blit (b ∷ bs) w k j h = copies-blit bs (set w j b) k (suc j) (omega arith) ∙ copies-set w 0 k j b (omega arith)

-- an AT's three words, and the state after it
pub three_stores : (i a b b' c : ℕ) (w : List ℕ) → b ≡ b' → set (set (set w i a) (i + 1) b) (i + 2) c ≡ blit i (a ∷ b' ∷ c ∷ []) w
unfolding blit
three_stores i a b b' c w e =
    let n : i + 1 ≡ suc i = omega arith in
    let m : i + 2 ≡ suc (suc i) = omega arith in
    rw (n, m, e)

pub attached_state : (used n size : ℕ) {x y : ℕ} → x ≡ align8 n → y ≡ align8 (x + size)
    → ◌≡◌ {A = Copying} (record { used = used; next = y }) (record { used = used; next = align8 (align8 n + size) })
attached_state used n size p q = rw (q, p)

-- ---- the next AT: whether the chain goes on, then the blocks that its links lead to, then itself and the rest
attach_more : ℕ → ℕ → List ℕ → ℕ → Attached → Checked Attached
attach_more most turns s a t =
    and_then (copy_links (copy_root most s) s (links_at s a - 1) (a + 32) t.made)
    (λ m. attachments_from most turns s (first_link s a) (attach a (size_at s a) t.made m t))

attach_open : (most turns : ℕ) (s : List ℕ) (a : ℕ) (t : Attached) → 0 < turns
    → attachments_from most turns s a t ≡ on_attaches (goes_on s a (is_attached a t.attachments) (length t.attachments)) t (attach_more most (turns - 1) s a t)
unfolding attachments_from goes_on if_eq if_lt attach_more
attach_open most zero s a t h = absurd (omega arith)
attach_open most (suc turns) s a t h =
    rw (sub-one (suc turns))
    (go (eqb a 0) (is_attached a t.attachments) (header_in s a) (eqb (kind_at s a) kind_at_block) (attachment_in s a) (ltb (length t.attachments) most_attachments))
  where
    go : (e i : Bool) (v : Verdict) (k : Bool) (f : Verdict) (l : Bool)
        → pick e (ok t) (pick i (ok t) (and_then v (λ _. pick k (and_then f (λ _. pick l (attach_more most turns s a t) (refused 19 a))) (ok t))))
        ≡ on_attaches
        (pick e (ok false) (pick i (ok false) (and_then v (λ _. pick k (and_then f (λ _. pick l (ok true) (refused 19 a))) (ok false)))))
        t (attach_more most turns s a t)
    go true i v k f l = refl
    go false true v k f l = refl
    go false false (refused n p) k f l = refl
    go false false (ok u) false f l = refl
    go false false (ok u) true (refused n p) l = refl
    go false false (ok u) true (ok x) true = refl
    go false false (ok u) true (ok x) false = refl

pub goes_by : (s : List ℕ) (a n : ℕ) {m b : Bool} {g h : Result Going Refusal} → b ≡ m → going_as g ≡ goes_on s a b n → g ≡ h → goes_on s a m n ≡ going_as h
goes_by s a n e i q = rw (← e, ← q) (sym i)

-- ---- the walk along the chain
pub record Chaining (most : ℕ) (s w₀ : List ℕ) (a : ℕ) (st₀ : Copying) (w : List ℕ) (at count : ℕ) (st : Copying) : Type 0 where
  pub moving : Moving count w₀ w st₀ st
  pub same : length w ≡ length w₀
  pub words : 8192 ≤ length w
  pub limit : most ≤ 2050
  pub short : length s ≤ 140737488355328
  pub start : st₀.next ≤ 576460752303423488
  pub room : Room st.used st.next
  pub rest : attachments_from most (66 - count) s at moving.told ≡ attachments_of most s a (standing w₀ st₀)

pub chain_begin : (most : ℕ) (s w : List ℕ) (a : ℕ) (st : Copying) → Ready w most st → length s ≤ 140737488355328
    → Chaining most s w a st w a 0 st
unfolding attachments_of attachment_words blit
chain_begin most s w a st r l =
    record {
      moving = record {
        told = record { attachments = []; made = standing w st };
        made = refl;
        counted = refl;
        few = omega arith;
        more = omega arith;
        most = r.few;
        near = omega arith;
        past = past_same _ w;
      };
      same = refl;
      words = r.words;
      limit = r.limit;
      short = l;
      start = r.near;
      room = record { few = r.few; near = omega (arith, r.near) };
      rest = refl;
    }

module _ {most : ℕ} {s w₀ : List ℕ} {a : ℕ} {st₀ : Copying} {w : List ℕ} {at count : ℕ} {st : Copying}
    (u : Chaining most s w₀ a st₀ w at count st) where
  met_told : attached_in w 4100 count at ≡ is_attached at u.moving.told.attachments
  met_told =
      let m = u.moving in
      attached_past 4100 count at m.past (omega arith)
      ∙ ap (λ (k : ℕ). attached_in (blit 4100 (attachment_words m.told.attachments) w₀) 4100 k at) (sym m.counted)
      ∙ attached_blit m.told.attachments w₀ 4100 at (omega arith)

  opened : {v : Checked Bool} → goes_on s at (attached_in w 4100 count at) count ≡ v
      → on_attaches v u.moving.told (attach_more most (66 - count - 1) s at u.moving.told) ≡ attachments_of most s a (standing w₀ st₀)
  opened e =
      ap (λ (v : Checked Bool). on_attaches v u.moving.told (attach_more most (66 - count - 1) s at u.moving.told))
      (sym e ∙ ap (λ (b : Bool). goes_on s at b count) met_told
      ∙ ap (λ (n : ℕ). goes_on s at (is_attached at u.moving.told.attachments) n) (sym u.moving.counted))
      ∙ sym (attach_open most (66 - count) s at u.moving.told (omega (arith, u.moving.few))) ∙ u.rest

  pub chain-ends : goes_on s at (attached_in w 4100 count at) count ≡ ok false → MovedAll count w₀ w st₀ st (attachments_of most s a (standing w₀ st₀))
  chain-ends e = record { moving = u.moving; is = sym (opened e) }

  pub chain_refused : {n p : ℕ} → goes_on s at (attached_in w 4100 count at) count ≡ refused n p → attachments_of most s a (standing w₀ st₀) ≡ refused n p
  chain_refused e = sym (opened e)

  module _ (e : goes_on s at (attached_in w 4100 count at) count ≡ ok true) {n : ℕ} (l : n ≡ links_at s at) {w' : List ℕ} {g : Result Copying Refusal}
      (c : Copied w w' g (copy_links (copy_root most s) s (n - 1) (at + 32) (standing w st))) where
    followed : {v : Checked Copies} → v ≡ copy_links (copy_root most s) s (n - 1) (at + 32) (standing w st)
        → copy_links (copy_root most s) s (links_at s at - 1) (at + 32) (standing w st) ≡ v
    followed q = rw (← l) (sym q)

    pub chain_stopped : {x : Refusal} → g ≡ Err x → attachments_of most s a (standing w₀ st₀) ≡ refused (number_of x) (place_of x)
    unfolding attach_more
    chain_stopped q = sym (rw (u.moving.made, followed (copied_refused c q)) at (opened e))

    pub chain_next : {t r : Copying} {b size : ℕ} {x : List ℕ} → AfterGot g st → g ≡ Ok t → length w' ≡ length w → size ≡ size_at s at
        → x ≡ blit (4100 + 3 * count) (at ∷ align8 t.next ∷ (t.used - st.used) ∷ []) w'
        → r ≡ record { used = t.used; next = align8 (align8 t.next + size) } → b ≡ first_link s at
        → Chaining most s w₀ a st₀ x b (count + 1) r
    unfolding attach_more attach
    chain_next {t} {r} {b} {size} {x} f q k z j i y =
        let d = copied_at c q in
        let k' = after-at f q in
        let m = u.moving in
        let g = goes_fits s at (attached_in w 4100 count at) count e in
        let turns : 66 - (count + 1) ≡ 66 - count - 1 = omega arith in
        let new : Attachment = record { from = at; to = align8 t.next; own = drop (length (copies_in w st.used)) (copies_in w' t.used) } in
        let own : length new.own ≡ t.used - st.used = simp (length-drop, length-copies) in
        let told : Attached = record { attachments = m.told.attachments ++ (new ∷ []); made = copies (copies_in w' t.used) (align8 (align8 t.next + size_at s at)) } in
        let kept : copies_in x t.used ≡ copies_in w' t.used = rw j (copies-blit _ w' t.used (4100 + 3 * count) (omega arith)) in
        let long : length x ≡ length w' = rw j (length-blit _ _ w') in
        let near = align_near t.next in
        let near' = align_near (align8 t.next + size) in
        let words : length (attachment_words m.told.attachments) ≡ 3 * count = length-words m.told.attachments ∙ ap (λ (n : ℕ). 3 * n) m.counted in
        let past : Past (2 * t.used) (blit attachments_at (attachment_words told.attachments) w₀) x =
        rw (words_snoc m.told.attachments new, own, blit-append (attachment_words m.told.attachments) 4100 _ w₀, words, j)
        (past-blit _ (4100 + 3 * count) (omega arith) (past_then (past_more _ (omega arith) m.past) d.1)) in
        rw i
        (record {
          moving = record {
            told = told;
            made = rw (kept, z);
            counted = simp length-append (omega arith);
            few = omega arith;
            more = omega arith;
            most = omega arith;
            near = omega arith;
            past = past;
          };
          same = long ∙ k ∙ u.same;
          words = omega arith;
          limit = u.limit;
          short = u.short;
          start = u.start;
          room = record { few = omega arith; near = omega arith };
          rest = rw (turns, y) (rw (u.moving.made, followed d.0) at (opened e));
        })

-- ---- words past the copies leave the index
pub indexed_blit : (bs w x : List ℕ) (n j : ℕ) → 2 * n ≤ j → Indexed w n x → Indexed (blit j bs w) n x
indexed_blit bs w x n j h t = indexed_same w (blit j bs w) x n (λ k l. sym (get_d_before bs j (2 * k) w (omega arith))) t

pub indexed_attached : (bs : List ℕ) (k n : ℕ) (t : Copying) {w x y : List ℕ} {r : Copying} → y ≡ blit (4100 + k) bs w → r ≡ record { used = t.used; next = n }
    → t.used ≤ 2050 → Indexed w t.used x → Indexed y r.used x
indexed_attached bs k n t {w} {x} {y} {r} e q h i = rw (e, q) (indexed_blit bs w x t.used (4100 + k) (omega arith) i)
