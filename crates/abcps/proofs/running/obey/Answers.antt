use Rattle.std.proofs.Common.{refl}
use Rattle.std.proofs.KnownBytes.{Keeps-refl}
use Rattle.abcps_words.specs.declared.command.Command.{Command}
use Rattle.abcps.proofs.Answered.{unread_obeyed}
use Rattle.abcps.proofs.running.obey.Goals as goal

pub returns-in-Make : goal.returns-in-Make
returns-in-Make g c =
    unread_obeyed c.args.command (Command.Make c.in-Make.tunes) (g.S.Source.left c.args.input.now)
    (g.S.Source.faults c.args.input.now) _ _ c.make_book.result
    c.in-Make.is ((Keeps-refl (g.S.Source.left c.args.input.now), refl), refl) c.make_book.ensures

pub returns-in-Trial : goal.returns-in-Trial
returns-in-Trial g c =
    unread_obeyed c.args.command (Command.Trial c.in-Trial.tunes c.in-Trial.flow c.in-Trial.jobs c.in-Trial.even)
    (g.S.Source.left c.args.input.now)
    (g.S.Source.faults c.args.input.now) _ _ c.trial.result
    c.in-Trial.is ((Keeps-refl (g.S.Source.left c.args.input.now), refl), refl) c.trial.ensures
