-- Laws of the next records of one of several groups.
use Rattle.std.specs.Prelude.{ℕ, zero, suc, ◌+◌, ◌≤◌, ◌<◌, Option, Some, None, List, [], ◌≡◌, refl, length}
use Rattle.std.proofs.Common.{sym, ap, ◌∙◌, subst, arith}
use Rattle.mdf.specs.Walk.{id_size}
use Rattle.mdf.specs.Records.{most64, Frame}
use Rattle.work_words.specs.Words.{fragments_of}
use Rattle.result.specs.Payload.{group_records}
use Rattle.records.specs.Table.{Tabled}
use Rattle.places.specs.declared.stretch.Stretch.{Stretch}
use Rattle.places.specs.declared.stretch.Scan.{Scan}
use Rattle.places.specs.Stretch.{Ready, StretchOf}
use Rattle.places.specs.StretchLaws.{stretch_none}
use Rattle.places.specs.Scan.{ScanOf, NextOf, NextBy}
use Rattle.places.specs.Longer.{RecordAt, LongerBy}
use Rattle.places.specs.declared.frame.Found.{Found}
use Rattle.places.specs.Facing.{Facing, Faced, FoundAt}
use Rattle.places.specs.FacingLaws.{Whole, whole_checked, group_framed, Numbered, numbered_end, numbered-other, numbered-own, own_low, own_at, framed_is}

-- the records found so far are a stretch, and the others of the group are ahead of the place c
pub record Nexting (s : List ℕ) (d k : ℕ) (gs ws : List ℕ) (c₀ : Scan) (t : Stretch) (c : Scan) : Type 0 where
  pub frames : List Frame
  pub facing : Facing s (id_size s d) gs ws c.at c.position c.left c.offset frames
  pub numbered : Numbered s d k gs ws frames c.number
  pub stretch : StretchOf s d k gs ws t
  pub from : t.number ≡ c₀.number
  pub to : t.number + t.count ≡ c.number

abbrev pub Going : List ℕ → ℕ → ℕ → List ℕ → List ℕ → List ℕ → List ℕ → Scan → Stretch → Scan → Type 0
Going s n k gs ws ids sizes c₀ t c =
    (d : ℕ) → n ≡ id_size s d → (length gs ≡ 1 → ⊥) → Tabled s gs ids sizes → Ready s d k gs ws → ScanOf s d k gs ws c₀
    → Nexting s d k gs ws c₀ t c

module _ (s : List ℕ) (n k : ℕ) (gs ws ids sizes : List ℕ) (c₀ : Scan) where
  whole_ready : (d : ℕ) → (length gs ≡ 1 → ⊥) → Ready s d k gs ws → Whole s d gs ws
  whole_ready d o r = let h = r.listed in whole_checked s d gs ws o (omega arith) r.checked

  pub going_begin : Going s n k gs ws ids sizes c₀ (record { number = c₀.number; first = 0; stride = 0; count = 0 }) c₀
  going_begin d e o tb r c =
      let v = c.several o in
      let h = r.listed in
      let g = group_framed s d k gs (fragments_of ws) o (omega arith) in
      record {
        frames = v.whole.frames;
        facing = record { rest = v.rest; within = v.within; read = v.whole.read; known = v.whole.known };
        numbered = record { records = rw g v.records; few = rw g v.few };
        stretch = stretch_none c₀.number 0 0 (rw g v.few);
        from = refl;
        to = omega arith;
      }

  -- the place is one of the group's
  module _ {t : Stretch} {c : Scan} (g : Going s n k gs ws ids sizes c₀ t c) where
    scan_at : (d : ℕ) → (length gs ≡ 1 → ⊥) → Ready s d k gs ws → Nexting s d k gs ws c₀ t c → ScanOf s d k gs ws c
    scan_at d o r v =
        let f = v.facing in
        let h = r.listed in
        let q = group_framed s d k gs (fragments_of ws) o (omega arith) in
        record {
          alone = λ one. absurd (o one);
          several = λ _. record {
            rest = f.rest;
            within = f.within;
            whole = record { frames = v.frames; read = f.read; known = f.known };
            records = rw q at v.numbered.records;
            few = rw q at v.numbered.few;
          };
        }

    next_is : (d : ℕ) → (length gs ≡ 1 → ⊥) → Ready s d k gs ws → Nexting s d k gs ws c₀ t c
        → (c.number < length (group_records s d k gs (fragments_of ws)) → 0 < t.count)
        → NextOf s d k gs ws c₀ (record { stretch = t; scan = c })
    next_is d o r v some =
        let a = v.from in
        let b = v.to in
        record {
          stretch = v.stretch;
          from = a;
          some = λ h. zero_or t.count (λ z. some (omega (arith, a, b, h, z)));
          scan = scan_at d o r v;
          to = omega (arith, a, b);
        }
      where
        zero_or : (m : ℕ) → (m ≡ 0 → 0 < m) → 0 < m
        zero_or zero f = f refl
        zero_or (suc m) f = omega arith

    module _ {v : Option Found} (f : FoundAt s n gs ws ids sizes c v) where
      found : (d : ℕ) → n ≡ id_size s d → (length gs ≡ 1 → ⊥) → Tabled s gs ids sizes → Ready s d k gs ws → (u : Nexting s d k gs ws c₀ t c)
          → (v ≡ None → u.frames ≡ [])
          × ((x : Found) → v ≡ Some x
          → Faced s (id_size s d) gs ws u.frames x.group x.place x.past.at x.past.position x.past.left x.past.offset)
      found d i o tb r u = let w = whole_ready d o r in let z = w.id in f.right d i (omega (arith, z, i)) tb w.bytes u.frames u.facing

      pub next_end : v ≡ None → NextBy s n k gs ws ids sizes c₀ (record { stretch = t; scan = c })
      next_end q d i o tb r b =
          let u = g d i o tb r b in
          let a = numbered_end u.numbered ((found d i o tb r u).0 q) in
          next_is d o r u (λ h. absurd (omega arith))

      -- a record that doesn't lie at the distance of the others
      pub next_stop : {p : ℕ} {u : Option Stretch} → LongerBy t p u → u ≡ None
          → NextBy s n k gs ws ids sizes c₀ (record { stretch = t; scan = c })
      next_stop a z d i o tb r b = next_is d o r (g d i o tb r b) (λ _. some t.count (λ w. a.first w z))
        where
          some : (m : ℕ) → (m ≡ 0 → ⊥) → 0 < m
          some m h = omega arith

      module _ {x : Found} (q : v ≡ Some x) where
        -- numbers of 64 bits are enough
        pub next-many : x.group ≡ k → most64 ≤ c.number → NextBy s n k gs ws ids sizes c₀ (record { stretch = t; scan = c })
        next-many y h d i o tb r b =
            let u = g d i o tb r b in
            let w = whole_ready d o r in
            let z = r.listed in
            let a = own_low u.numbered ((found d i o tb r u).1 x q) y in
            let l = ap length (framed_is s d k gs ws o w (omega arith)) in
            let z = w.records k in
            absurd (omega (arith, h, a, l, z))

        pub going_other : (x.group ≡ k → ⊥) → Going s n k gs ws ids sizes c₀ t x.past
        going_other y d i o tb r b =
            let u = g d i o tb r b in
            let a = (found d i o tb r u).1 x q in
            let e = f.number x q in
            record {
              frames = a.later;
              facing = a.facing;
              numbered = subst (λ (m : ℕ). Numbered s d k gs ws a.later m) (sym e) (numbered-other u.numbered a y);
              stretch = u.stretch;
              from = u.from;
              to = u.to ∙ sym e;
            }

        pub going_own : {l : Option Stretch} {u : Stretch} → x.group ≡ k → LongerBy t x.place l → l ≡ Some u
            → Going s n k gs ws ids sizes c₀ u
            (record {
              at = x.past.at;
              position = x.past.position;
              left = x.past.left;
              offset = x.past.offset;
              number = c.number + 1;
            })
        going_own {u = u} y lb z d i o tb r b =
            let w = g d i o tb r b in
            let a = (found d i o tb r w).1 x q in
            let w1 = w.from in
            let w2 = w.to in
            let l1 = lb.from u z in
            let l2 = lb.count u z in
            let h : RecordAt s d k gs ws (t.number + t.count) x.place = rw w2 (own_at w.numbered a y r.plain) in
            record {
              frames = a.later;
              facing = a.facing;
              numbered = numbered-own w.numbered a y;
              stretch = lb.right u z s d k gs ws w.stretch h;
              from = l1 ∙ w1;
              to = omega (arith, l1, l2, w2);
            }
