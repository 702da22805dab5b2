use Rattle.std.proofs.Common.{◌≡◌, ◌∷◌, arith, rules, None, Some, length, refl, ap, ◌∙◌}
use Rattle.abc_pieces.specs.Reading.{token_of}
use Rattle.abc_music.specs.declared.token.LineRest.{LineRest}
use Rattle.abc_music.specs.Tokens.{column}
use Rattle.abc_music.proofs.Prefixes.{good_part}
use Rattle.abc_music.proofs.Line.{done_at, stuck_at, step, consumes, put_few}
use Rattle.abc_music.proofs.reader.read_part.Goals as goal

pub returns-in_default-clause-part : goal.returns-in_default-clause-part
returns-in_default-clause-part c =
    done_at c.args.bang c.args.line.now c.args.place c.pieces.place c.pieces.tokens c.pieces.invariant.leads
    c.in_default.ensures.cases

pub returns-in_default-clause-good : goal.returns-in_default-clause-good
returns-in_default-clause-good c =
    good_part c.args.bang c.args.line.now c.args.place c.pieces.tokens (LineRest.End None)
    (returns-in_default-clause-part c)

pub returns-in_default-piece_at-clause-part : goal.returns-in_default-piece_at-clause-part
returns-in_default-piece_at-clause-part c =
    let cut : c.pieces.place.rest.now ≡ c.in-Some.first.now ∷ c.in-Some.following.now = search rules in
    stuck_at c.args.bang c.args.line.now c.args.place c.pieces.place c.pieces.tokens c.in-Some.first.now
    c.in-Some.following.now c.line_flaw-flaw.result c.fault_at.result c.pieces.invariant.leads cut
    c.in_default-piece_at.ensures.read c.line_flaw-flaw.ensures.flaw c.fault_at.ensures

pub returns-in_default-piece_at-clause-good : goal.returns-in_default-piece_at-clause-good
returns-in_default-piece_at-clause-good c =
    good_part c.args.bang c.args.line.now c.args.place c.pieces.tokens (LineRest.End (Some c.fault_at.result))
    (returns-in_default-piece_at-clause-part c)

pub pieces-smaller : goal.pieces-smaller
pieces-smaller c =
    consumes c.args.bang c.pieces.place.before c.pieces.place.rest.now
    (token_of c.args.bang c.in-Some-piece_at.piece.found) c.in-Some-piece_at.piece.after
    c.in-Some-piece_at.piece.rest.now c.in-Some-piece_at.ensures.read

pub pieces-preserved : goal.pieces-preserved
pieces-preserved c =
    let t = token_of c.args.bang c.in-Some-piece_at.piece.found in
    let shorter = consumes c.args.bang c.pieces.place.before c.pieces.place.rest.now t c.in-Some-piece_at.piece.after
    c.in-Some-piece_at.piece.rest.now c.in-Some-piece_at.ensures.read in
    let few = put_few t c.column-column.result c.pieces.tokens c.add.new.out c.in_ok-add.ensures in
    record {
      leads =
          step c.args.bang c.args.line.now c.args.place c.pieces.place
          (record {
            rest = c.in-Some-piece_at.piece.rest;
            before = c.in-Some-piece_at.piece.after;
            at = length c.pieces.place.rest.now;
          }) c.pieces.tokens c.add.new.out c.column-column.result t
          c.pieces.invariant.leads c.in-Some-piece_at.ensures.read refl
          (c.column-column.ensures ∙ ap (λ n. column n (length c.pieces.place.rest.now)) c.len-in-pieces.ensures)
          c.in_ok-add.ensures;
      within = (omega (arith, shorter, c.pieces.invariant.within.0), c.pieces.invariant.within.0);
      few = omega (arith, few, c.pieces-test.true, c.len.ensures);
      shorter = omega (arith, few, shorter, c.pieces.invariant.shorter);
    }

pub returns-clause-good : goal.returns-clause-good
returns-clause-good c =
    good_part c.args.bang c.args.line.now c.args.place c.pieces.tokens (LineRest.More c.pieces.place) (
      c.pieces.invariant.leads,
      c.pieces.invariant.within,
      omega (arith, c.pieces.invariant.shorter, c.pieces-test.false, c.len.ensures),
    )

pub returns-clause-full : goal.returns-clause-full
returns-clause-full c = omega (arith, c.pieces.invariant.few, c.pieces-test.false, c.len.ensures)
