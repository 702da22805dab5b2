use Rattle.std.proofs.Common.{◌≡◌, ◌∙◌, ◌++◌, ◌||◌, Bool, None, rules, subst, sym, ap}
use Rattle.std.specs.Prelude.{OnOk}
use Rattle.mus_units.specs.Good.{AreGoodSigns}
use Rattle.mus_score.specs.Seats.{is_lower}
use Rattle.mus_slots.specs.Staff.{slots_laid}
use Rattle.mus_slots.specs.Voice.{change_slots}
use Rattle.mus_slots.proofs.Laid.{change_laid}
use Rattle.mus_marks.proofs.events.put_change_part.Goals as goal

pub put_change-requires-clause-old : goal.put_change-requires-clause-old
put_change-requires-clause-old c = subst AreGoodSigns (sym c.as_slice.ensures) c.requires.good.old

pub returns : goal.returns
returns c =
    let keys = c.args.keys.now in
    let m = c.args.measure in
    let e = c.args.e.now in
    let laid = λ (drawn : Bool). slots_laid keys None (change_slots m drawn e) in
    subst (λ more. OnOk c.put_change.result (c.put_change.new.pen.marks ≡ c.args.pen.now.marks ++ more))
    (change_laid keys m e
    ∙ ap laid
    (sym
    (ap (λ b. b || is_lower e.seat) c.if-in_head.false ∙ sym c.is_lower.ensures ∙ c.if-is_lower.false)))
    (search rules)
