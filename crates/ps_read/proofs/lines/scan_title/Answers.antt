use Rattle.std.proofs.Common.{◌∷◌, ◌++◌, Some, ◌∙◌, ap, codes, lit≤}
use Rattle.std.specs.List.{flat_map}
use Rattle.glyph_paths.specs.Procedure.{numbers}
use Rattle.ps_text.specs.Fields.{shown}
use Rattle.ps_text.specs.Names.{size_name}
use Rattle.ps_read.specs.Titles.{title_of}
use Rattle.ps_read.proofs.Forms.{title_numbers, title_form, small_number, size_is_field}
use Rattle.ps_read.proofs.lines.scan_title.Goals as goal
use Rattle.eng_lines.proofs.Words.{after_prefix}

pub returns-in_default : goal.returns-in_default
returns-in_default c x y size words good e =
    absurd (c.in_default.ensures (flat_map shown words ++ (41 ∷ (32 ∷ (numbers (title_numbers x y) ++ size_name size))))
    (e ∙ title_form x y size words))

pub returns-in_default-strip : goal.returns-in_default-strip
returns-in_default-strip c x y size words good e =
    let more = numbers (title_numbers x y) ++ size_name size in
    let s = after_prefix (codes "(") c.args.raw.now c.in-Some.shown.now (flat_map shown words ++ (41 ∷ (32 ∷ more)))
    c.in-Some.ensures (e ∙ title_form x y size words) in
    let t = c.in_ok-text.ensures words (32 ∷ more) good.good.shown s in absurd (c.in_default-strip.ensures more t.1)

pub returns : goal.returns
returns c x y size words good e =
    let more = numbers (title_numbers x y) ++ size_name size in
    let s = after_prefix (codes "(") c.args.raw.now c.in-Some.shown.now (flat_map shown words ++ (41 ∷ (32 ∷ more)))
    c.in-Some.ensures (e ∙ title_form x y size words) in
    let t = c.in_ok-text.ensures words (32 ∷ more) good.good.shown s in
    let n =
    after_prefix (codes ") ") c.in_ok-text.rest.now c.in-Some-strip.numbers.now more c.in-Some-strip.ensures t.1 in
    let z = small_number 0 (lit≤ tt) in
    let k = c.in_ok-zs.ensures (title_numbers x y) (size_name size) (z, (z, (good.across, (good.base, tt))))
    (size_is_field size) n in
    c.title_of.ensures x y size (c.as_slice.ensures ∙ k.0) k.1 ∙ ap (λ words. Some (title_of x y size words)) t.0
