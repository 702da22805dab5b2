-- The text of a line, with each part before what follows it, and that its numbers may be on a page.
use Rattle.std.proofs.Common.{◌≡◌, ℕ, ℤ, pos, ◌≤◌, ◌^◌, true, ◌+◌, ◌/◌, ◌%◌, List, [], ◌∷◌, ◌++◌, refl, ◌∙◌, ap, arith}
use Rattle.std.proofs.Common.{codes, decimal}
use Rattle.std.proofs.lemmas.Fmt.{decimal_digit}
use Rattle.std.proofs.lemmas.Int.{ints}
use Rattle.std.specs.List.{flat_map, list_all}
use mathlib.Core.List.{append_assoc}
use Rattle.mus_units.specs.Distances.{top_line, fourth_line, third_line, second_line}
use Rattle.{mus_units.specs.declared.glyph.Size.{Size}, glyph_paths.specs.Procedure.{numbers}}
use Rattle.ps_text.specs.Document.{title_line}
use Rattle.ps_text.specs.Fields.{shown, in_parentheses}
use Rattle.ps_text.specs.Names.{size_name}
use Rattle.ps_text.specs.Prolog.{page_line, page_start, page_end, scaling, percent}
use Rattle.ps_text.specs.declared.prolog.TheConstants.{PAGE_START}
use Rattle.ps_text.specs.Range.{IsNumber}
use Rattle.ps_text.specs.Scanning.{is_field_byte}

abbrev pub title_numbers : ℤ → ℤ → List ℤ
title_numbers x y = pos 0 ∷ pos 0 ∷ x ∷ y ∷ []

pub title_form : (x y : ℤ) (size : Size) (words : List ℕ)
    → title_line x y size words
    ≡ codes "(" ++ (flat_map shown words ++ (41 ∷ (32 ∷ (numbers (title_numbers x y) ++ size_name size))))
unfolding title_line in_parentheses
title_form x y size words = simp append_assoc

pub small_number : (n : ℕ) → n ≤ 2 ^ 31 → IsNumber (pos n)
small_number n l = record { low = omega (arith, ints); high = omega (arith, ints, l) }

pub size_is_field : (size : Size) → list_all is_field_byte (size_name size) ≡ true
size_is_field Size.Small = refl
size_is_field Size.Big = refl

abbrev pub rules_numbers : ℕ → ℤ → List ℤ
rules_numbers w y =
    pos w ∷ pos top_line ∷ pos w ∷ pos fourth_line ∷ pos w ∷ pos third_line ∷ pos w ∷ pos second_line ∷ pos w ∷ pos 0
    ∷ pos 0 ∷ y ∷ []

abbrev pub after_bottom : ℕ → List ℕ
after_bottom s = percent s ++ (32 ∷ (percent s ++ page_end))

pub page_form : (l b s : ℕ)
    → page_line l b s
    ≡ PAGE_START.now ++ (decimal l ++ (32 ∷ (decimal b ++ (32 ∷ (codes "translate " ++ after_bottom s)))))
unfolding page_line page_start scaling
page_form l b s =
    let f = percent s in let d = decimal l in let g = decimal b in let t = codes " translate " in
    append_assoc PAGE_START.now (d ++ 32 ∷ g ++ t ++ f ++ 32 ∷ f) page_end ∙ ap (λ v. PAGE_START.now ++ v)
    (append_assoc (d ++ 32 ∷ g ++ t ++ f) (32 ∷ f) page_end
    ∙ (append_assoc (d ++ 32 ∷ g ++ t) f (32 ∷ (f ++ page_end))
    ∙ (append_assoc (d ++ 32 ∷ g) t (after_bottom s) ∙ append_assoc d (32 ∷ g) (t ++ after_bottom s))))

pub percent_bytes : (p : ℕ) (rest : List ℕ)
    → p ≤ 150 → percent p ++ rest ≡ (48 + p / 100) ∷ 46 ∷ (48 + p / 10 % 10) ∷ (48 + p % 10) ∷ rest
unfolding percent
percent_bytes p rest l =
    ap (λ s. (s ++ 46 ∷ (48 + p / 10 % 10) ∷ (48 + p % 10) ∷ []) ++ rest) (decimal_digit (p / 100) (omega arith))
