use Rattle.std.proofs.Common.{◌≡◌, sym, subst, rules}
use Rattle.{mus_score.specs.GoodScore.{IsGoodScore}, lay_shared.{specs.Drawn.drawn_of, proofs.DrawnLaws.drawn_good}}
use Rattle.lay_shared.proofs.drawing.drawn.Goals as goal

pub returns-clause-good : goal.returns-clause-good
returns-clause-good c =
    let value : record {
      voices = c.in_ok-drawn_voices.field-0;
      measures = c.args.s.now.measures;
      forced = c.in_ok-copy.field-0;
      spread = c.args.s.now.spread;
    } ≡ drawn_of c.args.s.now c.args.p.now = search rules in
    subst IsGoodScore (sym value) (drawn_good c.args.s.now c.args.p.now c.requires.good c.requires.plan)
