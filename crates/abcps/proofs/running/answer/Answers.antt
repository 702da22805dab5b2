use Rattle.std.proofs.{Common.arith, lemmas.Int.to_z-of_z}
use mir.Syntax.{w8}
use Rattle.abcps.proofs.running.answer.Goals as goal

pub returns-in-Set : goal.returns-in-Set
returns-in-Set g c =
    let by = to_z-of_z w8 c.in-Set.by (record { sfits = omega arith }) in rw c.in-Set.is (rw by at c.set.ensures)

pub returns-in-Systems : goal.returns-in-Systems
returns-in-Systems g c =
    let by = to_z-of_z w8 c.in-Systems.by (record { sfits = omega arith }) in
    rw c.in-Systems.is (rw by at c.systems.ensures)

pub returns-in-Inspect : goal.returns-in-Inspect
returns-in-Inspect g c = rw (c.in-Inspect.is, ← c.as_slice.ensures) c.inspect.ensures

pub returns-in-Check : goal.returns-in-Check
returns-in-Check g c = rw (c.in-Check.is, ← c.as_slice-in-Check.ensures) c.check.ensures

pub returns-in-Paint : goal.returns-in-Paint
returns-in-Paint g c = rw (c.in-Paint.is, ← c.as_slice-in-Paint.ensures) c.paint.ensures

pub returns-in-Hear : goal.returns-in-Hear
returns-in-Hear g c = rw (c.in-Hear.is, ← c.as_slice-in-Hear.ensures) c.hear.ensures
