-- Each name is of two letters.
use Rattle.std.proofs.Common.{◌≡◌, length, refl}
use Rattle.{mus_units.specs.declared.glyph.Glyph.{Glyph, TheVariants.Hb}, glyph_paths.specs.Names.{glyph_name}}

pub letters_of_glyph : (glyph : Glyph) → length (glyph_name glyph) ≡ 2
letters_of_glyph Hb = refl
letters_of_glyph _ = refl
