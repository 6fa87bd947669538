-- What planning and the data stage give: bounds of columns, and the words that planning leaves.
use Rattle.std.specs.Prelude.{ℕ, ◌+◌, ◌≤◌, List, ◌++◌, Bool, ◌≡◌, length, Result}
use Rattle.std.proofs.Common.{arith}
use Rattle.base.specs.Checked.{fine}
use Rattle.base.specs.Blit.{blit}
use Rattle.mdf.specs.Chain.{Fragment}
use Rattle.work_words.specs.Words.{fragment_words}
use Rattle.plan.specs.Columns.{Column, Signal, no_signal, signal_data, size_of_signal, Plan}
use Rattle.work_words.specs.PlanWords.{signal_fragments, laid_plan}
use Rattle.plan.specs.Data.{signal_in, blocks_in}
use Rattle.plan.specs.Layout.{layout}
use Rattle.result.specs.Guarantee.{In}
use Rattle.payload_laws.specs.ColumnLaws.{Ready}
use Rattle.payload_laws.specs.BoundLaws.{fragments_small, payload_small, blocks-small}
use Rattle.fields.specs.declared.refusal.Refusal.{Refusal}
use Rattle.placing.specs.declared.layout.Numbers.{Numbers}
use Rattle.placing.specs.Laying.{on_unit, Lays, LaysOut}
use Rattle.placing.specs.InWords.{AllWithin, Referring, signal_bytes_of, AllBounded}
use Rattle.placing.specs.ColumnsLaws.{all-within, columns-stand}

-- a column whose data was read
pub record Known (s : List ℕ) (c : Column) : Type 0 where
  pub ready : Ready s c
  pub signals : signal_in s c.signal_of ≡ fine
  pub few : length c.group.data_group.fragments ≤ 1024
  pub few_signals : size_of_signal c.signal_of ≤ 1024
  pub few_photos : length c.photos ≤ 33554432

signal_small : (s : List ℕ) (g : Signal) → signal_in s g ≡ fine → length s ≤ 4294967296 → size_of_signal g ≤ 1024 → signal_bytes_of g ≤ 4398046511104
signal_small s no_signal e h k = omega arith
signal_small s (signal_data fs) e h k = fragments_small s fs e h k

pub all_bounded : (s : List ℕ) (size : ℕ) (cs : List Column) → length s ≤ 4294967296 → blocks_in s size cs ≡ fine
    → ((c : Column) → In c cs → Known s c) → AllBounded s size cs
all_bounded s size cs h b z = record {
  each = λ c i.
      let k = z c i in
      record {
        blocks = blocks-small s size cs c b i;
        photos = k.few_photos;
        payload = payload_small s c k.ready h k.few;
        signal = signal_small s c.signal_of k.signals h k.few_signals;
      };
}

-- the columns of a plan, in the words that planning leaves, are within the bounds
pub plan-within : (ph : Bool) (s : List ℕ) (size : ℕ) (p : Plan) (fs : List Fragment) (w f : List ℕ) → length p.columns ≤ 512 → 4096 ≤ length w
    → length fs + length (signal_fragments p.columns) ≤ 1024 → 3072 ≤ length f → AllBounded s size p.columns → Referring ph s p.columns
    → AllWithin ph s size (laid_plan (length fs) p w) (blit 0 (fragment_words (fs ++ signal_fragments p.columns)) f) 0 (length p.columns)
plan-within ph s size p fs w f a b c d e g =
    all-within ph s size (laid_plan (length fs) p w) (blit 0 (fragment_words (fs ++ signal_fragments p.columns)) f) (length fs) 0 p.columns
    (columns-stand p fs w f a b c d) e g

-- and what is laid out over those words is the plan's layout
pub plan-laid : (u : ℕ) (ph : Bool) (s : List ℕ) (size text : ℕ) (p : Plan) (fs : List Fragment) (w f : List ℕ) (n : ℕ) {m m' : List ℕ} {r : Result Numbers Refusal}
    → length p.columns ≤ 512 → 4096 ≤ length w → length fs + length (signal_fragments p.columns) ≤ 1024 → 3072 ≤ length f → length p.columns ≡ n → Referring ph s p.columns
    → LaysOut u ph s size text (laid_plan (length fs) p w) (blit 0 (fragment_words (fs ++ signal_fragments p.columns)) f) n m m' r
    → Lays m m' r (layout (on_unit u) s size text p.columns)
plan-laid u ph s size text p fs w f n a b c d l g h = h.is (length fs) p.columns (columns-stand p fs w f a b c d) l g
