use Rattle.std.proofs.Common.{◌≡◌, ◌∙◌, ◌++◌, ap, map, subst, sym}
use Rattle.std.proofs.lemmas.List.Elements.{All-same}
use Rattle.mus_score.specs.Good.{IsGoodFlat}
use Rattle.mus_score.specs.Even.{AreEvenEvents}
use Rattle.mus_score.specs.Times.{flats_of, in_row, leaves_within}
use Rattle.mus_score.proofs.Bounds.{flats_good}
use Rattle.mus_score.proofs.Even.{flats_even}
use Rattle.mus_score.proofs.times.flatten.Goals as goal

pub returns-clause-each : goal.returns-clause-each
returns-clause-each c =
    let leaves = in_row (map leaves_within c.args.body.now) 1 1 in
    let e : c.put_nodes.new.out ≡ flats_of c.args.body.now =
    c.in_ok-put_nodes.ensures.0
    ∙ ap (λ out. out ++ (leaves c.no_waits-waits.result).flats) c.in_ok-out.ensures
    ∙ ap (λ waits. (leaves waits).flats) c.no_waits-waits.ensures in
    All-same IsGoodFlat c.put_nodes.new.out (flats_of c.args.body.now) e (flats_good c.args.body.now c.requires)

pub returns-clause-even : goal.returns-clause-even
returns-clause-even c =
    let leaves = in_row (map leaves_within c.args.body.now) 1 1 in
    let e : c.put_nodes.new.out ≡ flats_of c.args.body.now =
    c.in_ok-put_nodes.ensures.0
    ∙ ap (λ out. out ++ (leaves c.no_waits-waits.result).flats) c.in_ok-out.ensures
    ∙ ap (λ waits. (leaves waits).flats) c.no_waits-waits.ensures in
    subst (λ r. AreEvenEvents r c.args.body.now) (sym e) (flats_even c.args.body.now c.requires)
