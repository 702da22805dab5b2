use Rattle.std.proofs.Common.{◌≡◌, ◌≤◌, ◌+◌, ◌++◌, length}
use Rattle.lay_pages.specs.Filling.{AreGoodBlocks, spots_from, standing_from}
use Rattle.lay_pages.proofs.Fitting.{IsReady}
use Rattle.lay_pages.proofs.filling.spots_from.Given as goal

abbrev pub invariant-placing : goal.invariant-placing
invariant-placing l = record {
  value : l.spots ++ spots_from l.high l.place l.rest ≡ spots_from l.high l.fn.first l.blocks;
  last_block : standing_from l.high l.place l.rest ≡ standing_from l.high l.fn.first l.blocks;
  good : AreGoodBlocks l.rest;
  page : l.place.page + length l.rest ≤ l.fn.first.page + length l.blocks;
  ready : IsReady l.high l.place l.rest;
}

abbrev pub decreases-placing : goal.decreases-placing
decreases-placing l = length l.rest
