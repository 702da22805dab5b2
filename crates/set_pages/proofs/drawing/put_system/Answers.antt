use Rattle.std.proofs.{Common.arith, lemmas.Int.to_z-of_z}
use mir.Syntax.{w64}
use Rattle.set_pages.proofs.drawing.put_system.Goals as goal

pub system_item-requires : goal.system_item-requires
system_item-requires c =
    let top = to_z-of_z w64 c.args.spot.top (record { sfits = omega arith }) in let k = c.requires.ready.content in
    rw (top, c.as_slice.ensures, c.as_slice-2.ensures)
    (record {
      shown = k.shown;
      wide = c.requires.wide;
      top = c.requires.ready.within;
      count = k.count;
      rise = k.rise;
      numbers = k.numbers;
      bases = k.bases;
      heights = k.heights;
    })
