-- Why width is asked for: document 01's example with its master made a channel of type 3, which has no bytes. The time column has 20 records and no
-- blocks, so that it counts none when its file is converted again, and the signal column loses its master (reason 1).
use Rattle.std.specs.Prelude.{ℕ, List, [], ◌∷◌, false, ◌≡◌, refl, length, replicate, set}
use Rattle.base.specs.Checked.{Checked, ok, refused}
use Rattle.plan.specs.Columns.{omission_words}
use Rattle.result.specs.Result.{Args, Decided, answer}
use Rattle.cases.specs.Evaluated.{evaluated}
use Rattle.cases.specs.Starred.{image, args}
use Rattle.cases.specs.Excluded.{file_in}
use Rattle.again_cases.specs.Closed.{are_wide, columns_in}

-- the type is the first data byte of the master's CN
abbrev narrow : Args
narrow =
    record {
      image = set image 584 3;
      block_size = 64;
      ident = args.ident;
      text = args.text;
      time = 0;
      unit = 8;
      table = [];
      share = false;
      photos = false;
    }

abbrev again : Args
again =
    record {
      image = file_in narrow (answer narrow 1096 1);
      block_size = 64;
      ident = args.ident;
      text = args.text;
      time = 0;
      unit = 8;
      table = [];
      share = false;
      photos = false;
    }

abbrev answered : Checked Decided → List ℕ
answered (ok d) = d.laid_out.file_size_lem ∷ omission_words d.planned.omissions
answered (refused number place) = number ∷ place ∷ []

-- the first call is accepted, without an omission, but a column with records has no width
pub first : answered (answer narrow 1096 1) ≡ 1096 ∷ 0 ∷ []
unfolding evaluated
first = refl

pub not_wide : are_wide narrow.image (columns_in (answer narrow 1096 1)) ≡ false
unfolding evaluated
not_wide = refl

-- the second omits the master of the second column, whose CG is at 648
pub second : answered (answer again 1176 3) ≡ 1176 ∷ 1 ∷ 648 ∷ 1 ∷ []
unfolding evaluated
second = refl
