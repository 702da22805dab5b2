use Rattle.std.proofs.{Common.arith, Common.refl, lemmas.Int.to_z-of_z}
use mir.Syntax.{w64}
use Rattle.ps_text.proofs.Numbers.{fits}
use Rattle.set_pages.proofs.titles.row_item.Goals as goal

pub returns-clause-value : goal.returns-clause-value
returns-clause-value c =
    let top = to_z-of_z w64 c.args.top c.ranges.top in
    let x = to_z-of_z w64 c.args.row.now.x (fits _ c.requires.across) in
    let base = to_z-of_z w64 _ (fits _ c.requires.base) in
    let down = to_z-of_z w64 c.args.row.now.down (record { sfits = omega arith }) in
    rw (x, top, down, base, c.in_ok-page_words.ensures.value, c.as_slice.ensures) refl

pub returns-clause-good : goal.returns-clause-good
returns-clause-good c =
    let top = to_z-of_z w64 c.args.top c.ranges.top in
    let x = to_z-of_z w64 c.args.row.now.x (fits _ c.requires.across) in
    let base = to_z-of_z w64 _ (fits _ c.requires.base) in
    let down = to_z-of_z w64 c.args.row.now.down (record { sfits = omega arith }) in
    rw (x, top, down, base)
    (record { across = c.requires.across; base = c.requires.base; good = c.in_ok-page_words.ensures.good })
