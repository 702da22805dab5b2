use Rattle.abc_music.proofs.Line.{no_chord, no_grace}
use Rattle.abc_music.proofs.reader.own_flaw.Goals as goal

pub bracket_flaw-requires-clause-none : goal.bracket_flaw-requires-clause-none
bracket_flaw-requires-clause-none c =
    λ chord.
    no_chord c.args.bang c.args.before c.args.first c.args.following.now c.if-first-eq91.true c.requires.none chord

pub grace_fault-requires-clause-none : goal.grace_fault-requires-clause-none
grace_fault-requires-clause-none c =
    no_grace c.args.bang c.args.before c.args.first c.args.following.now c.if-first-eq123.true c.requires.none
