-- What a listener heeds of columns: a column that leads or has a note, and of its ties those that end at a head.
use Rattle.std.specs.{Prelude.{Bool, true, false, ◌||◌, if◌then◌else◌, List, [], ◌∷◌}, List.list_any}
use Rattle.ps_heard.specs.declared.column.HeardColumn.{HeardColumn}
use Rattle.ps_heard.specs.declared.column.HeardGlyph.{HeardGlyph}
use Rattle.ps_heard.specs.declared.column.Role.{Role}

abbrev pub is_listed : Role → Bool
is_listed Role.Head = true
is_listed _ = false

abbrev pub has_notes : List HeardGlyph → Bool
has_notes [] = false
has_notes (n ∷ ns) = true

abbrev pub is_reported : HeardColumn → Bool
is_reported col = col.leads || has_notes col.notes

abbrev pub plain : HeardColumn → HeardColumn
plain col = record {
  leads = col.leads;
  notes = col.notes;
  ties = if list_any (λ n. is_listed n.role) col.notes then col.ties else [];
}

abbrev pub columns_heard : List HeardColumn → List HeardColumn
columns_heard [] = []
columns_heard (col ∷ cols) = if is_reported col then plain col ∷ columns_heard cols else columns_heard cols
