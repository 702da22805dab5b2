use Rattle.std.proofs.Common.{◌≡◌, ◌∙◌, ◌++◌, ◌-◌, List, append_assoc, take, drop, subst, sym, ap, arith}
use Rattle.std.specs.List.{slice_range}
use Rattle.std.specs.Prelude.{OnOk}
use Rattle.mus_drawn.specs.declared.drawn.DrawnMeasure.{DrawnMeasure}
use Rattle.mus_drawn.specs.Good.{AreGoodMeasures}
use Rattle.mus_time.proofs.Goods.{good_slice}
use Rattle.mus_bridges.specs.Arcs.{arcs_between}
use Rattle.mus_bridges.specs.Bridges.{beams_between, grace_beams_between}
use Rattle.mus_bridges.specs.Ends.{measure_ended, over}
use Rattle.mus_bridges.proofs.Ending.{bridges_ended}
use Rattle.mus_bridges.proofs.bridges.put_bridges_of.Goals as goal

pub put_grace_beams_between-requires-clause-good : goal.put_grace_beams_between-requires-clause-good
put_grace_beams_between-requires-clause-good c =
    subst (λ ms. AreGoodMeasures (take (c.args.frame.now.b - c.args.frame.now.a) (drop c.args.frame.now.a ms)))
    (sym c.as_slice-all.ensures)
    (good_slice c.args.frame.now.a (c.args.frame.now.b - c.args.frame.now.a) c.args.v.now.measures c.requires.good)

pub returns : goal.returns
returns c =
    let frame = c.args.frame.now in
    let lengths = frame.lengths.now in
    let a = frame.a in
    let b = frame.b in
    let v = c.args.v.now in
    let ends = c.args.ends.now in
    let old = c.args.out.now in
    let all = c.as_slice-all.result.now in
    let beams = λ (ms : List DrawnMeasure). beams_between a (over measure_ended ends (slice_range ms a b)) in
    let graces = λ (ms : List DrawnMeasure). grace_beams_between a (slice_range ms a b) in
    let arcs = λ (ms : List DrawnMeasure).
    arcs_between lengths a b (take a ms ++ over measure_ended ends (drop a ms)) in
    let count = c.requires.lengths in
    subst (λ t. OnOk c.put_arcs_between.result (c.put_arcs_between.new.out ≡ t))
    (ap (λ t. t ++ arcs all c.as_slice.result.now)
    (c.in_ok-put_grace_beams_between.ensures
    ∙ ap (λ t. t ++ graces all) c.in_ok-put_beams_between.ensures
    ∙ append_assoc old (beams all) (graces all))
    ∙ append_assoc old (beams all ++ graces all) (arcs all c.as_slice.result.now)
    ∙ ap (λ t. old ++ t)
    (ap (λ ms. (beams ms ++ graces ms) ++ arcs ms c.as_slice.result.now) c.as_slice-all.ensures
    ∙ ap (λ given. (beams v.measures ++ graces v.measures) ++ arcs v.measures given) c.as_slice.ensures
    ∙ bridges_ended lengths a b ends v (omega (arith, count, frame.within, frame.order))))
    c.put_arcs_between.ensures
