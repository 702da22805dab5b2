-- The columns of a staff as determined by the ranks of its marks: at each rank what the glyphs there say, and where
-- ties end. The column of rank 0 leads its system.
use Rattle.std.specs.Prelude.{ℕ, zero, suc, ℤ, ◌-ℤ◌, ◌==◌, ◌&&◌, if◌then◌else◌, List, [], ◌∷◌, flat_map}
use Rattle.mus_laid.specs.declared.laid.Laid.{Laid}
use Rattle.mus_laid.specs.declared.laid.Mark.{Mark}
use Rattle.ps_heard.specs.declared.column.HeardColumn.{HeardColumn}
use Rattle.ps_heard.specs.declared.column.HeardGlyph.{HeardGlyph}
use Rattle.ps_heard.specs.Columns.{bulges_as_tie, noted}
use Rattle.ps_heard.specs.Roles.{role_of}

abbrev pub noted_at : ℕ → Mark → List HeardGlyph
noted_at r (Mark.Glyph glyph rank dx dy) = if r == rank then noted (role_of glyph dy) dy else []
noted_at r _ = []

-- the height of the head at which a tie ends at a rank
abbrev pub tied_at : ℕ → Mark → List ℤ
tied_at r (Mark.Arc first last from to bulge) = if (r == last) && bulges_as_tie bulge then (to -ℤ bulge) ∷ [] else []
tied_at r _ = []

abbrev pub notes_at : List Laid → ℕ → List HeardGlyph
notes_at all r = flat_map (λ l. noted_at r l.mark) all

abbrev pub tie_ends_at : List Laid → ℕ → List ℤ
tie_ends_at all r = flat_map (λ l. tied_at r l.mark) all

abbrev pub rank_column : List Laid → ℕ → HeardColumn
rank_column all r = record { leads = r == 0; notes = notes_at all r; ties = tie_ends_at all r }

-- this number of columns, the first of which has rank r
abbrev pub columns_after : List Laid → ℕ → ℕ → List HeardColumn
columns_after all r zero = []
columns_after all r (suc n) = rank_column all r ∷ columns_after all (suc r) n

abbrev pub ranked_columns : ℕ → List Laid → List HeardColumn
ranked_columns n all = columns_after all 0 n
