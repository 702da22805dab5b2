use Rattle.std.proofs.Common.{◌≤◌, ◌^◌, take, drop, All}
use Rattle.{abc_items.specs.{Good.IsGoodItem, Body.BodyGives, Reading.ReadsSome}, abc_lines.specs.Good.{size_of}}
use Rattle.abc_items.proofs.body.read_lines.Given as goal

abbrev pub invariant-loop-line : goal.invariant-loop-line
invariant-loop-line l = record {
  reads : ReadsSome (BodyGives l.breaks (take l.line-index l.lines)) l.fn.body l.body;
  good : All IsGoodItem l.body.items;
  small : size_of (drop l.line-index l.lines) ≤ 2 ^ 30;
}
