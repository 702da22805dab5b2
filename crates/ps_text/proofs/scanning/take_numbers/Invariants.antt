use Rattle.std.{proofs.Common.{◌≡◌, ℕ, ℤ, ◌++◌, List, length, true}, specs.List.{AllByRecursion, list_all}}
use Rattle.glyph_paths.specs.Procedure.{numbers}
use Rattle.ps_text.specs.Range.{IsNumber}
use Rattle.ps_text.specs.Scanning.{is_field_byte}
use Rattle.ps_text.proofs.Taken.{NumbersLeft}
use Rattle.ps_text.proofs.scanning.take_numbers.Given as goal

abbrev pub invariant-loop-z : goal.invariant-loop-z
invariant-loop-z l =
    (zs : List ℤ) (name : List ℕ)
    → AllByRecursion IsNumber zs → list_all is_field_byte name ≡ true → l.bytes ≡ numbers zs ++ name
    → NumbersLeft l.zs l.rest zs name

abbrev pub decreases-loop-z : goal.decreases-loop-z
decreases-loop-z l = length l.rest
