-- What holds for the name and for the outline of each glyph.
use Rattle.std.{proofs.Common.{◌≡◌, true, false, Some, refl, codes, nat_le, ◌==◌}, specs.{List.list_all, Str.bytes_eq}}
use Rattle.mus_units.specs.declared.glyph.Glyph.{Glyph}
use Rattle.glyph_paths.specs.Names.{glyph_name}
use Rattle.glyph_paths.specs.Outlines.{outline_of}
use Rattle.ps_steps.specs.Tokens.{is_regular, is_name, begins, word_token}
use Rattle.ps_steps.specs.declared.token.SimpleToken.TheVariants.{Name as name_token}
use Rattle.ps_paint.proofs.Glyphs.{are_small, is_drawn, cost}

-- its name may be defined and isn't an operator of the prolog's lines, and its outline is drawn in a few tokens
pub record IsFine (g : Glyph) : Type 0 where
  pub regular : list_all is_regular (glyph_name g) ≡ true
  pub good : is_name (glyph_name g) ≡ true
  pub other : begins (λ b. b == 67) (glyph_name g) ≡ false
  pub token : word_token (glyph_name g) ≡ Some (name_token (glyph_name g))
  pub no_def : bytes_eq (glyph_name g) (codes "def") ≡ false
  pub small : are_small (outline_of g) ≡ true
  pub drawn : is_drawn false (outline_of g) ≡ true
  pub few : nat_le (cost (outline_of g)) 90 ≡ true

pub fine : (g : Glyph) → IsFine g
fine Glyph.Hb = record {
  regular = refl;
  good = refl;
  other = refl;
  token = refl;
  no_def = refl;
  small = refl;
  drawn = refl;
  few = refl;
}
fine _ = record {
  regular = refl;
  good = refl;
  other = refl;
  token = refl;
  no_def = refl;
  small = refl;
  drawn = refl;
  few = refl;
}
