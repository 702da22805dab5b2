use Rattle.std.proofs.{Common.rules, lemmas.Int.to_z-of_z}
use mir.Syntax.{w64}
use Rattle.ps_text.proofs.Ranges.{span_of}
use Rattle.ps_text.proofs.range.is_span.Goals as goal

pub returns-else-is_stretch : goal.returns-else-is_stretch
returns-else-is_stretch c =
    let x1 = to_z-of_z w64 c.args.x1 c.ranges.x1 in
    let x2 = to_z-of_z w64 c.args.x2 c.ranges.x2 in
    let tells = rw (x1, x2) at c.is_stretch.ensures in
    (λ t. let f = c.if-is_stretch.false in let x : ⊥ = cc (t, f) in absurd x, λ s. tells.1 s.stretch)

pub returns-then-is_stretch : goal.returns-then-is_stretch
returns-then-is_stretch c =
    let y = to_z-of_z w64 c.args.y c.ranges.y in
    let x1 = to_z-of_z w64 c.args.x1 c.ranges.x1 in
    let x2 = to_z-of_z w64 c.args.x2 c.ranges.x2 in
    let from = to_z-of_z w64 c.args.from c.ranges.from in
    let to = to_z-of_z w64 c.args.to c.ranges.to in let rise = to_z-of_z w64 c.args.rise c.ranges.rise in
    span_of c.args.y c.args.x1 c.args.x2 c.args.from c.args.to c.args.rise _ _ _
    (rw (y, rise) at c.is_base_and_rise.ensures) (search rules) (rw (x1, x2) at c.is_stretch.ensures)
    (rw (y, from, rise, to) at c.are_ends.ensures) c.if-is_stretch.true
