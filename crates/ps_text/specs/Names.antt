-- The names of the procedures that show words and fill beams.
use Rattle.{std.specs.Prelude.{ℕ, List, codes}, mus_units.specs.{declared.glyph.Size.Size, declared.glyph.Way.Way}}

abbrev pub size_name : Size → List ℕ
size_name Size.Small = codes "t1"
size_name Size.Big = codes "t2"

abbrev pub way_name : Way → List ℕ
way_name Way.Up = codes "bu"
way_name Way.Down = codes "bd"
way_name Way.Grace = codes "gb"
