use Rattle.std.proofs.{Common.{ap, sym, ◌∙◌, eqb-true}, lemmas.Bool.eqb-false}
use Rattle.abc_notes.specs.Runs.{begins}
use Rattle.abc_notes.specs.Chords.{is_bracket}
use Rattle.abc_notes.proofs.ChordLaws.{chord-unclosed, chord-open, chord-headless, chord-flawed}
use Rattle.abc_notes.proofs.chord.chord_fault.Goals as goal

pub returns-then-is_empty-clause-fault : goal.returns-then-is_empty-clause-fault
returns-then-is_empty-clause-fault c =
    chord-unclosed c.args.bang c.args.bytes.now _ _ c.bracketed.ensures.read
    (eqb-true _ 0 (sym c.is_empty.ensures ∙ c.if-is_empty.true))

pub returns-in-Ok-clause-fault : goal.returns-in-Ok-clause-fault
returns-in-Ok-clause-fault c = chord-open c.args.bang c.args.bytes.now c.in-Ok.ensures.0

pub returns-in-Err-clause-fault : goal.returns-in-Err-clause-fault
returns-in-Err-clause-fault c =
    let bracket = sym c.begins_with_bracket.ensures ∙ c.if-begins_with_bracket.true in
    chord-headless c.args.bang c.args.bytes.now c.requires.none
    (ap (begins is_bracket) (sym c.after_parts.ensures) ∙ bracket)

pub returns-in-Err-2-clause-fault : goal.returns-in-Err-2-clause-fault
returns-in-Err-2-clause-fault c =
    let some = eqb-false _ 0 (sym c.is_empty.ensures ∙ c.if-is_empty.false) in
    let other = ap (begins is_bracket) (sym c.after_parts.ensures)
    ∙ sym c.begins_with_bracket.ensures
    ∙ c.if-begins_with_bracket.false in
    chord-flawed c.args.bang c.args.bytes.now _ _ c.in-Err.field-0 c.bracketed.ensures.read some c.in-Err.ensures.0
    other c.in-Err.ensures.1
