-- The zeros that have room are all that count.
use Rattle.std.proofs.Common.{arith, sym, ◌∙◌, ◌≡◌, ◌+◌, ◌-◌, length, take, drop, replicate, length-take-le, length-drop}
use Rattle.std.proofs.lemmas.List.{length-replicate}
use Rattle.puts.specs.PutLaws.{blit-past, zero_clip, laid_at}
use Rattle.puts.proofs.zero.Goals as goal

pub returns-then-room-at : goal.returns-then-room-at
returns-then-room-at c = sym (blit-past _ _ _ (omega arith))

pub returns : goal.returns
returns c =
    let a = c.args in
    let k = c.min-k.result in
    let n : a.at + k - a.at ≡ k = omega arith in
    let m : length (take k (drop a.at a.d.now)) ≡ k = length-take-le k (drop a.at a.d.now) (simp length-drop (omega arith)) in
    let is : c.fill.new.self ≡ replicate k 0 = rw (n, m) at (c.fill.ensures.after (λ y e. e)) in
    rw is (laid_at a.at k _ _ a.d.now (omega arith) (length-replicate k 0) (omega arith) ∙ zero_clip _ _ _ _ c.min-k.ensures)
