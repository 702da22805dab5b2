use Rattle.{std.proofs.Common.{subst, sym, length}, abc_pieces.specs.declared.token.PieceBefore.TheVariants.{Other}}
use Rattle.abc_music.specs.declared.token.LineRest.{LineRest}
use Rattle.abc_music.specs.Tokens.{GivesTokensOf, GivesTokensFrom, PartOf}
use Rattle.abc_music.proofs.GoodLaws.{good_prefix}
use Rattle.abc_music.proofs.Line.{read_more}
use Rattle.abc_music.proofs.OnePrefix.{one_prefix_of}
use Rattle.abc_music.proofs.reader.read_prefix.Goals as goal

pub loop-tokens-preserved : goal.loop-tokens-preserved
loop-tokens-preserved c =
    let part : PartOf c.args.bang c.args.line.now c.loop-tokens.place c.in_ok-part.part.tokens
    (LineRest.More c.in-More.next) = rw c.in-More.is at c.in_ok-part.ensures.part in
    record {
      read = read_more c.args.bang c.args.line.now c.loop-tokens.place c.in-More.next c.loop-tokens.tokens
          c.in_ok-part.part.tokens c.append.new.self c.loop-tokens.invariant.read part.0 c.in_ok-append.ensures.ok;
      within = part.1;
    }

pub returns-in-End-clause-prefix : goal.returns-in-End-clause-prefix
returns-in-End-clause-prefix c =
    let part : GivesTokensFrom c.args.bang c.args.line.now c.loop-tokens.place c.in_ok-part.part.tokens c.in-End.fault =
    rw c.in-End.is at c.in_ok-part.ensures.part in
    subst (λ us. GivesTokensOf c.args.bang c.args.line.now us c.in-End.fault) (sym c.in_ok-append.ensures.ok)
    (c.loop-tokens.invariant.read c.in_ok-part.part.tokens c.in-End.fault part)

pub returns-in-End-clause-only : goal.returns-in-End-clause-only
returns-in-End-clause-only c =
    λ others other is.
    one_prefix_of c.args.bang c.args.line.now c.append.new.self others c.in-End.fault other
    (returns-in-End-clause-prefix c) is

pub returns-in-End-clause-good : goal.returns-in-End-clause-good
returns-in-End-clause-good c =
    let prefix = returns-in-End-clause-prefix c in
    good_prefix c.args.bang (length c.args.line.now.text) Other 0 c.args.line.now.text c.append.new.self prefix.0
    prefix.1
