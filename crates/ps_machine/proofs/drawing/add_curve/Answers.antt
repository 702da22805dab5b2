use Rattle.std.{proofs.{Common.{◌≡◌, rules, sym, subst, FitsSigned, w64}, lemmas.Int.to_z-of_z}, specs.Prelude.Err}
use Rattle.ps_steps.specs.Operators.{curveto}
use Rattle.ps_machine.specs.Doing.{state_of, DidOrStopped, numbers_of}
use Rattle.ps_machine.proofs.Did.{curve_did, point_passed, first_stops, second_stops, third_stops}
use Rattle.ps_machine.proofs.drawing.add_curve.Goals as goal

pub returns-in_err-a : goal.returns-in_err-a
returns-in_err-a c =
    let is : c.from_residual-in_err-a.result ≡ Err c.in_err-a.field-0.0 = search rules in
    subst (λ r. DidOrStopped (curveto (numbers_of c.args.bend.now) (state_of c.args.m.now)) r (state_of c.args.m.now))
    (sym is)
    (first_stops c.args.bend.now.first.0 c.args.bend.now.first.1 c.args.bend.now.second.0 c.args.bend.now.second.1
    c.args.bend.now.end.0 c.args.bend.now.end.1 (state_of c.args.m.now) (state_of c.args.m.now) c.in_err-a.field-0.0
    c.in_ok-on_path.ensures
    (point_passed c.args.m.now.canvas.now c.args.bend.now.first.0 c.args.bend.now.first.1 _ (search rules)
    (search rules) c.in_err-a.ensures))

pub returns-in_err-c : goal.returns-in_err-c
returns-in_err-c c =
    let is : c.from_residual-in_err-c.result ≡ Err c.in_err-c.field-0.0 = search rules in
    subst (λ r. DidOrStopped (curveto (numbers_of c.args.bend.now) (state_of c.args.m.now)) r (state_of c.args.m.now))
    (sym is)
    (second_stops c.args.bend.now.first.0 c.args.bend.now.first.1 c.args.bend.now.second.0 c.args.bend.now.second.1
    c.args.bend.now.end.0 c.args.bend.now.end.1 (state_of c.args.m.now) (state_of c.args.m.now) c.in_err-c.field-0.0
    c.in_ok-on_path.ensures
    (point_passed c.args.m.now.canvas.now c.args.bend.now.second.0 c.args.bend.now.second.1 _ (search rules)
    (search rules) c.in_err-c.ensures))

pub returns-in_err-x : goal.returns-in_err-x
returns-in_err-x c =
    let is : c.from_residual-in_err-x.result ≡ Err c.in_err-x.field-0.0 = search rules in
    subst (λ r. DidOrStopped (curveto (numbers_of c.args.bend.now) (state_of c.args.m.now)) r (state_of c.args.m.now))
    (sym is)
    (third_stops c.args.bend.now.first.0 c.args.bend.now.first.1 c.args.bend.now.second.0 c.args.bend.now.second.1
    c.args.bend.now.end.0 c.args.bend.now.end.1 (state_of c.args.m.now) (state_of c.args.m.now) c.in_err-x.field-0.0
    c.in_ok-on_path.ensures
    (point_passed c.args.m.now.canvas.now c.args.bend.now.end.0 c.args.bend.now.end.1 _ (search rules) (search rules)
    c.in_err-x.ensures))

pub returns : goal.returns
returns c =
    let pa : FitsSigned w64 c.args.bend.now.first.0 = search rules in
    let pb : FitsSigned w64 c.args.bend.now.first.1 = search rules in
    let pc : FitsSigned w64 c.args.bend.now.second.0 = search rules in
    let pd : FitsSigned w64 c.args.bend.now.second.1 = search rules in
    let px : FitsSigned w64 c.args.bend.now.end.0 = search rules in
    let py : FitsSigned w64 c.args.bend.now.end.1 = search rules in
    let qa : FitsSigned w64 c.in_ok-a.a = search rules in
    let qb : FitsSigned w64 c.in_ok-a.b = search rules in
    let qc : FitsSigned w64 c.in_ok-c.c = search rules in
    let qd : FitsSigned w64 c.in_ok-c.d = search rules in
    let qx : FitsSigned w64 c.in_ok-x.x = search rules in
    let qy : FitsSigned w64 c.in_ok-x.y = search rules in
    let first = simp to_z-of_z at c.in_ok-a.ensures in
    let second = simp to_z-of_z at c.in_ok-c.ensures in
    let third = simp to_z-of_z at c.in_ok-x.ensures in
    let piece = simp to_z-of_z at c.in_ok-push.ensures.ok in
    rw piece
    (curve_did c.args.bend.now.first.0 c.args.bend.now.first.1 c.args.bend.now.second.0 c.args.bend.now.second.1
    c.args.bend.now.end.0 c.args.bend.now.end.1 (state_of c.args.m.now) c.in_ok-a.a c.in_ok-a.b c.in_ok-c.c c.in_ok-c.d
    c.in_ok-x.x c.in_ok-x.y c.in_ok-on_path.ensures first second third)
