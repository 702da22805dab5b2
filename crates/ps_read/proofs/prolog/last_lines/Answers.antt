use Rattle.std.proofs.Common.{◌++◌, ◌∙◌, ap}
use Rattle.ps_text.specs.{Prolog.glyph_lines, Prolog.last_text, declared.prolog.TheConstants.LAST}
use Rattle.ps_read.proofs.prolog.last_lines.Goals as goal

pub returns : goal.returns
unfolding last_text
returns c =
    c.in_ok-append.ensures.ok
    ∙ ap (λ t. t ++ LAST.now)
    (c.in_ok-put_glyphs.ensures
    ∙ (ap (λ t. t ++ glyph_lines c.all_glyphs.result.now) c.new-rest.ensures ∙ ap glyph_lines c.all_glyphs.ensures))
