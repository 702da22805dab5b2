-- A list of values; a single value is kept in place.
use Rattle.{std.specs.Prelude.{List}, mus_units.specs.declared.few.FewStore.{FewStore}}

abbrev pub stored_values : {T : Type 0} → FewStore T → List T
stored_values (FewStore.One values) = values
stored_values (FewStore.Row values) = values
