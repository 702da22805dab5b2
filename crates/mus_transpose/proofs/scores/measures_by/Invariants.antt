use Rattle.std.{proofs.Common.◌≡◌, proofs.Common.◌++◌, proofs.Common.drop, proofs.Common.map, specs.List.list_all}
use Rattle.mus_transpose.specs.Moved.{body_may, measure_by}
use Rattle.mus_transpose.proofs.scores.measures_by.Given as goal

abbrev pub invariant-loop-measure : goal.invariant-loop-measure
invariant-loop-measure l =
    (l.out ++ map (measure_by l.by) (drop l.measure-index l.measures) ≡ map (measure_by l.by) l.measures)
    × (list_all (λ x. body_may l.by x.body) (drop l.measure-index l.measures)
    ≡ list_all (λ x. body_may l.by x.body) l.measures)
