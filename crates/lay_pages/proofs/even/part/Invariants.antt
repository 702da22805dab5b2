use Rattle.std.proofs.Common.{◌≡◌, ◌<◌, ◌+◌, ◌^◌, ◌++◌, length}
use Rattle.lay_pages.specs.Even.{group_heights}
use Rattle.lay_pages.specs.Parting.{AreFitting, parted_from, parted_spots}
use Rattle.lay_pages.specs.Filling.{AreGoodBlocks}
use Rattle.lay_pages.proofs.even.part.Given as goal

abbrev pub invariant-placing : goal.invariant-placing
invariant-placing l = record {
  value : l.spots ++ parted_from l.high l.ends l.group l.place l.rest ≡ parted_spots l.high l.breaks l.blocks;
  good : AreGoodBlocks l.rest;
  page : l.place.page + length l.rest < 2 ^ 32;
  groups : l.group + length l.rest < 2 ^ 32;
  fits : AreFitting l.high l.place.down l.group l.ends (group_heights l.rest);
}

abbrev pub decreases-placing : goal.decreases-placing
decreases-placing l = length l.rest
