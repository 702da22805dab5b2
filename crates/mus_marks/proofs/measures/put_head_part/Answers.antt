use Rattle.{std.proofs.Common.{subst, sym}, mus_units.specs.Good.{AreGoodSigns}, mus_marks.proofs.Goods.{first_good}}
use Rattle.mus_marks.proofs.measures.put_head_part.Goals as goal

pub put_head-requires : goal.put_head-requires
put_head-requires c =
    subst AreGoodSigns (sym c.as_slice-signs.ensures)
    (first_good c.args.measures.now c.first-item.result c.in-len1-up.len_at_least c.first-item.is
    c.requires.good).opening
