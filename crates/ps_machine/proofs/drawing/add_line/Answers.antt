use Rattle.std.proofs.Common.{rules, FitsSigned, w64}
use Rattle.std.proofs.lemmas.Int.{to_z-of_z}
use Rattle.ps_machine.specs.Doing.{state_of}
use Rattle.ps_machine.proofs.Did.{line_did}
use Rattle.ps_machine.proofs.drawing.add_line.Goals as goal

pub returns : goal.returns
returns c =
    let px : FitsSigned w64 c.args.x = search rules in
    let py : FitsSigned w64 c.args.y = search rules in
    let qx : FitsSigned w64 c.in_ok-x.x = search rules in
    let qy : FitsSigned w64 c.in_ok-x.y = search rules in
    let p = simp to_z-of_z at c.in_ok-x.ensures in
    let o = simp to_z-of_z at c.in_ok-push.ensures.ok in
    rw o (line_did c.args.x c.args.y (state_of c.args.m.now) c.in_ok-x.x c.in_ok-x.y c.in_ok-on_path.ensures p)
