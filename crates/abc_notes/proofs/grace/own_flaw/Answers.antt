use Rattle.{std.proofs.Common.{rules}, abc_notes.proofs.GraceLaws.{no_chord}}
use Rattle.abc_notes.proofs.grace.own_flaw.Goals as goal

pub chord_fault-requires-clause-none : goal.chord_fault-requires-clause-none
chord_fault-requires-clause-none c =
    no_chord c.args.bang c.args.bytes.now _ c.in-Some.byte.now (search rules) c.if-byte-eq91.true c.requires.none
