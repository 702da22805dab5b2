use Rattle.std.proofs.Common.{◌≡◌, drop}
use Rattle.ps_heard.specs.Hearing.{sign_of_glyph}
use Rattle.ps_heard.proofs.heads.sign_of_glyph.Given as goal

abbrev pub invariant-loop-note : goal.invariant-loop-note
invariant-loop-note l = sign_of_glyph l.dy (drop l.note-index l.notes) ≡ sign_of_glyph l.dy l.notes
