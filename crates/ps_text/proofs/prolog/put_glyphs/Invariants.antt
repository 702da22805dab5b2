use Rattle.std.proofs.Common.{◌≡◌, ◌++◌, take}
use Rattle.ps_text.specs.Prolog.{glyph_lines}
use Rattle.ps_text.proofs.prolog.put_glyphs.Given as goal

abbrev pub invariant-loop-g : goal.invariant-loop-g
invariant-loop-g l = l.out ≡ l.fn.out ++ glyph_lines (take l.g-index l.glyphs)
