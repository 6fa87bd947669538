-- The number, then addresses and reasons.
use Rattle.std.proofs.Common.{refl, arith, length-set, rules}
use Rattle.writing.specs.OmissionsLaws.{list-room, list_same, list_put}
use Rattle.writing.proofs.omissions.write_list.Goals as goal

-- src/omissions.rt:26:5
pub put_words-requires : goal.put_words-requires
put_words-requires c = simp length-set (search rules)

-- src/omissions.rt:27:5
pub put_words-requires-2 : goal.put_words-requires-2
put_words-requires-2 c = let a = c.args in (
  list-room a.n _ a.n
      _ a.list.now _ c.put_words.ensures
      c.requires.0,
  omega (
    arith,
    c.requires.1,
  ),
)

-- src/omissions.rt:21:1
pub shape_of-list : goal.shape_of-list
shape_of-list c = let a = c.args in list_same _ 0
    _ a.n _ _ a.list.now _ _ c.put_words.ensures
    c.put_words-2.ensures

-- src/omissions.rt:21:1
pub returns : goal.returns
returns c = list_put _ _ _ _ _ _ refl c.put_words.ensures
    c.put_words-2.ensures
