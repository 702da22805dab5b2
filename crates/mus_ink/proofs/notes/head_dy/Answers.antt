use Rattle.std.proofs.Common.{◌≡◌, ◌∙◌, ap, rules, to_z, of_z, w32}
use Rattle.mus_units.specs.Pitch.{height_of}
use Rattle.mus_ink.specs.Drawing.{cut_dy, steps_dy}
use Rattle.mus_ink.specs.Notes.{dy_of}
use Rattle.mus_ink.proofs.Cuts.{cut_inside}
use Rattle.mus_ink.proofs.notes.head_dy.Goals as goal

pub returns : goal.returns
unfolding dy_of
returns c =
    let at : to_z w32 (of_z w32 c.cut_dy.result) ≡ cut_dy (height_of c.args.head.pitch c.args.clef) = search rules in
    let dy : to_z w32 (of_z w32 c.steps_dy.result) ≡ steps_dy (to_z w32 (of_z w32 c.cut_dy.result)) = search rules in
    dy ∙ ap steps_dy at ∙ cut_inside _
