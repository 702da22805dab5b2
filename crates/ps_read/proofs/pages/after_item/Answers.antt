use Rattle.std.proofs.Common.{subst, w64}
use Rattle.std.proofs.lemmas.Int.{to_z-of_z}
use Rattle.ps_text.proofs.Numbers.{fits}
use Rattle.ps_read.specs.Titles.{IsTitleRead}
use Rattle.ps_read.proofs.Stepping.{on_title}
use Rattle.ps_read.proofs.pages.after_item.Goals as goal

pub returns-in_ok-page-in-Some : goal.returns-in_ok-page-in-Some
returns-in_ok-page-in-Some c =
    let k = subst (IsTitleRead c.args.raw.now) c.in-Some.is c.in_ok-x.ensures in
    let is = rw (
      to_z-of_z w64 c.in-Some.field-0.x (fits c.in-Some.field-0.x k.0.across),
      to_z-of_z w64 c.in-Some.field-0.y (fits c.in-Some.field-0.y k.0.base),
    ) at c.in_ok-page-in-Some.ensures in
    on_title c.args.page c.args.raw.now c.in-Some.field-0 c.in_ok-page-in-Some.page k.1 k.0 k.2 is
