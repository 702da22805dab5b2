use Rattle.std.proofs.Common.{◌≤◌, ◌*◌, ◌^◌, ◌++◌, length, ap, ◌∙◌, sym, subst, arith}
use Rattle.std.proofs.lemmas.List.{append-nil, drop_all}
use Rattle.std.specs.List.{All}
use Rattle.lay_reaches.{specs.Lanes.gaps_of, proofs.Gaps.gaps_narrow, proofs.Gaps.gaps_few}
use Rattle.lay_reaches.proofs.lanes.gaps_of.Goals as goal

pub returns-clause-value : goal.returns-clause-value
returns-clause-value c =
    let past : length c.args.verses.now ≤ c.loop-count.count-index = grind (arith, c.loop-count-test.false) in
    let none = drop_all c.loop-count.count-index c.args.verses.now past in
    sym (append-nil c.loop-count.out) ∙ ap (λ t. c.loop-count.out ++ gaps_of t) (sym none) ∙ c.loop-count.invariant

pub returns-clause-narrow : goal.returns-clause-narrow
returns-clause-narrow c =
    λ lane l.
    subst (λ t. All (λ g. g ≤ 2 ^ 20) t) (sym (returns-clause-value c)) (gaps_narrow c.args.verses.now) lane 0 l

pub returns-clause-few : goal.returns-clause-few
returns-clause-few c =
    λ h.
    subst (λ t. length t ≤ 258 * length c.args.verses.now) (sym (returns-clause-value c)) (gaps_few c.args.verses.now h)
