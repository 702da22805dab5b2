-- The names of the glyphs, and their order in the prolog, from their rows.
pub use Rattle.glyph_paths.specs.Rows.{glyph_name}
unfoldable pub use Rattle.glyph_paths.specs.Rows.{glyphs_in_order}
