use Rattle.{std.proofs.{Common.length, Common.sym, lemmas.Bool.ltb-false}, abc_words.proofs.WordLaws.{not_sung}}
use Rattle.abc_words.proofs.words.put_sung.Goals as goal

pub returns-in-None : goal.returns-in-None
returns-in-None c =
    not_sung c.args.row.now c.as_slice.result.now c.args.verse c.args.sung.now c.as_slice.ensures
    (ltb-false c.args.verse (length c.as_slice.result.now) (sym c.in-None.ensures.lookup.0))
