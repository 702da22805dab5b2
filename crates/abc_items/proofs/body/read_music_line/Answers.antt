use Rattle.std.proofs.lemmas.Result.{on_ok_weaker, IfErr-weaker}
use Rattle.abc_music.specs.declared.token.LineRest.{LineRest}
use Rattle.abc_music.specs.Tokens.{GivesTokensFrom, PartOf}
use Rattle.abc_items.specs.Body.{item_of_line_end, MusicGives}
use Rattle.abc_items.specs.Reading.{Stops, StopsBy}
use Rattle.abc_items.proofs.MusicLaws.{part_more, part_stops, part_ends, end_stops}
use Rattle.abc_items.proofs.body.read_music_line.Goals as goal

pub returns-in-Err-clause-stops : goal.returns-in-Err-clause-stops
returns-in-Err-clause-stops c =
    part_stops c.args.breaks c.args.line.now c.args.body.now c.loop-part.place c.loop-part.body
    c.loop-part.invariant.stage c.in_ok-part.part.tokens c.in_ok-part.part.following c.in-Err.e
    c.in_ok-part.ensures.part
    c.in-Err.ensures.stops

pub loop-part-preserved : goal.loop-part-preserved
loop-part-preserved c =
    let part : PartOf c.args.breaks.bang c.args.line.now c.loop-part.place c.in_ok-part.part.tokens
    (LineRest.More c.in-More.next) = rw c.in-More.is at c.in_ok-part.ensures.part in
    record {
      stage =
          part_more c.args.breaks c.args.line.now c.args.body.now c.loop-part.place c.loop-part.body
          c.loop-part.invariant.stage c.in_ok-part.part.tokens c.in-More.next c.put_tokens.new.body part.0
          c.in-Ok.ensures.reads;
      within = part.1;
      good = c.in-Ok.ensures.good;
    }

pub returns-in-End-clause-reads : goal.returns-in-End-clause-reads
returns-in-End-clause-reads c =
    let part : GivesTokensFrom c.args.breaks.bang c.args.line.now c.loop-part.place c.in_ok-part.part.tokens
    c.in-End.fault = rw c.in-End.is at c.in_ok-part.ensures.part in
    on_ok_weaker c.put_end.result
    (part_ends c.args.breaks c.args.line.now c.args.body.now c.loop-part.place c.loop-part.body
    c.loop-part.invariant.stage c.in_ok-part.part.tokens c.in-End.fault c.put_tokens.new.body c.put_end.new.body part
    c.in-Ok.ensures.reads)
    c.put_end.ensures.reads

pub returns-in-End-clause-stops : goal.returns-in-End-clause-stops
returns-in-End-clause-stops c =
    let part : GivesTokensFrom c.args.breaks.bang c.args.line.now c.loop-part.place c.in_ok-part.part.tokens
    c.in-End.fault = rw c.in-End.is at c.in_ok-part.ensures.part in
    IfErr-weaker c.put_end.result
    (Stops c.put_tokens.new.body (item_of_line_end c.args.breaks c.args.line.now c.in-End.fault))
    (StopsBy (MusicGives c.args.breaks c.args.line.now) c.args.body.now)
    (λ e.
    end_stops c.args.breaks c.args.line.now c.args.body.now c.loop-part.place c.loop-part.body
    c.loop-part.invariant.stage c.in_ok-part.part.tokens c.in-End.fault c.put_tokens.new.body e part
    c.in-Ok.ensures.reads)
    c.put_end.ensures.stops
