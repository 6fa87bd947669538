-- The laws of fragments kept in words.
use Rattle.std.specs.Prelude.{ℕ, ◌+◌, ◌*◌, ◌≡◌, refl, List, [], ◌∷◌, ◌++◌, length, Result, Ok, Err}
use Rattle.std.proofs.Common.{append_assoc, add_assoc, arith, length-append}
use Rattle.base.specs.Choice.{if_eq}
use Rattle.base.specs.Blit.{blit}
use Rattle.base.specs.BlitLaws.{length-blit, blit-append}
use Rattle.mdf.specs.Chain.{Kind, dt, dv, Fragment, Found, found, stopped}
use Rattle.work_words.specs.Words.{kind_word, kind_of, fragment_words, fragments_of}
use Rattle.fields.specs.declared.refusal.Refusal.{Refusal}
use Rattle.chains.specs.declared.chain.Stopped.{Stopped}
use Rattle.chains.specs.Kept.{kept, counted, given, laid}

pub length-words : (fs : List Fragment) → length (fragment_words fs) ≡ 3 * length fs
unfolding fragment_words
length-words [] = refl
length-words (f ∷ fs) = let ih = length-words fs in omega arith

pub words_append : (fs gs : List Fragment) → fragment_words (fs ++ gs) ≡ fragment_words fs ++ fragment_words gs
unfolding fragment_words
words_append [] gs = refl
words_append (f ∷ fs) gs = rw (words_append fs gs)

kind-word : (k : Kind) → kind_of (kind_word k) ≡ k
unfolding kind_of if_eq
kind-word dt = refl
kind-word dv = refl

-- the words give the fragments back
pub words_back : (fs : List Fragment) → fragments_of (fragment_words fs) ≡ fs
unfolding fragment_words fragments_of
words_back [] = refl
words_back (f ∷ fs) = rw (words_back fs, kind-word f.kind)

pub kept-none : (n : ℕ) (w : List ℕ) → kept n [] w ≡ w
unfolding kept fragment_words blit
kept-none n w = refl

pub length-kept : (n : ℕ) (fs : List Fragment) (w : List ℕ) → length (kept n fs w) ≡ length w
unfolding kept
length-kept n fs w = length-blit (3 * n) (fragment_words fs) w

pub kept_append : (n : ℕ) (fs gs : List Fragment) (w : List ℕ) → kept n (fs ++ gs) w ≡ kept (n + length fs) gs (kept n fs w)
unfolding kept
kept_append n fs gs w =
    let e : 3 * (n + length fs) ≡ 3 * n + 3 * length fs = omega arith in
    rw (words_append, blit-append, length-words, e)

-- fs, then what was found after them
abbrev pub onto : List Fragment → Found → Found
onto fs (found gs) = found (fs ++ gs)
onto fs (stopped x p gs) = stopped x p (fs ++ gs)

pub onto-onto : (fs gs : List Fragment) (g : Found) → onto fs (onto gs g) ≡ onto (fs ++ gs) g
onto-onto fs gs (found hs) = rw append_assoc
onto-onto fs gs (stopped x p hs) = rw append_assoc

pub laid-onto : (fs : List Fragment) (g : Found) (n : ℕ) (w : List ℕ) → laid (onto fs g) n w ≡ laid g (n + length fs) (kept n fs w)
unfolding laid
laid-onto fs (found gs) n w = rw (length-append, ← add_assoc, kept_append)
laid-onto fs (stopped x p gs) n w = rw (length-append, ← add_assoc, kept_append)

-- the words keep their length
pub laid_same : (g : Found) (n : ℕ) (w : List ℕ) (r : Result ℕ Stopped) (w' : List ℕ) → given r w' ≡ laid g n w → length w' ≡ length w
unfolding laid
laid_same (found fs) n w (Ok m) w' e = let v : w' ≡ kept n fs w = cc in rw (v, length-kept)
laid_same (found fs) n w (Err x) w' e = absurd (let z : ◌≡◌ {A = ℕ} 0 1 = cc in omega arith)
laid_same (stopped x p fs) n w (Ok m) w' e = absurd (let z : ◌≡◌ {A = ℕ} 0 1 = cc in omega arith)
laid_same (stopped x p fs) n w (Err y) w' e = let v : w' ≡ kept n fs w = cc in rw (v, length-kept)

-- what a refusal with a count says of the one without
pub record Counted {A : Type 0} (n : ℕ) (o : Result A Refusal) (r : Result A Stopped) : Type 0 where
  pub ok : {x : A} → r ≡ Ok x → o ≡ Ok x
  pub refusal : {x : Stopped} → r ≡ Err x → o ≡ Err x.refusal
  pub count : {x : Stopped} → r ≡ Err x → x.count ≡ n

pub counted_by : {A : Type 0} (n : ℕ) (o : Result A Refusal) {r : Result A Stopped} → r ≡ counted n o → Counted n o r
counted_by n (Ok y) e = record { ok = λ q. cc; refusal = λ q. absurd (let z : ◌≡◌ {A = ℕ} 0 1 = cc in omega arith); count = λ q. absurd (let z : ◌≡◌ {A = ℕ} 0 1 = cc in omega arith) }
counted_by n (Err y) e =
    record {
      ok = λ q. absurd (let z : ◌≡◌ {A = ℕ} 0 1 = cc in omega arith);
      refusal = λ {x} q. let v : x ≡ record { refusal = y; count = n } = cc in rw v;
      count = λ {x} q. let v : x ≡ record { refusal = y; count = n } = cc in rw v;
    }
