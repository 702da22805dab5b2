use Rattle.std.proofs.Common.{◌≡◌, All, map, take}
use Rattle.{ps_text.specs.Range.{IsPageMark}, set_staves.specs.Marks.{page_mark}}
use Rattle.set_staves.proofs.marks.place_marks.Given as goal

abbrev pub invariant-loop-laid : goal.invariant-loop-laid
invariant-loop-laid l = record {
  value : l.placed ≡ map (λ laid. page_mark l.at laid.mark) (take l.laid-index l.marks);
  good : All (IsPageMark l.y) l.placed;
}
