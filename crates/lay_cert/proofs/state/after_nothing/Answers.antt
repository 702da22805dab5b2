use Rattle.{std.proofs.Common.{refl}, lay_cert.specs.declared.lines.ListingLine.{ListingLine}}
use Rattle.lay_cert.proofs.state.after_nothing.Goals as goal

pub returns-then-branch : goal.returns-then-branch
returns-then-branch c = record {
  line = ListingLine.Listing;
  spelled = c.in_ok-is_line.ensures.0 c.if-branch.true;
  may = tt;
  next = (refl, tt);
}
