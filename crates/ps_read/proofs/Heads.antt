-- How lines begin, and that none contains an LF.
use Rattle.std.proofs.lemmas.Bool.{ne_eqb}
use Rattle.std.proofs.lemmas.List.Folds.{list_all-append}
use Rattle.std.proofs.Common.{◌≡◌, ◌≢◌, ℕ, ℤ, pos, negsuc, zero, suc, ◌/◌, ◌%◌, ◌≤◌, Bool, true, false, ◌==◌}
use Rattle.std.proofs.Common.{if◌then◌else◌, List, [], ◌∷◌, ◌++◌, refl, sym, subst, arith, codes, IsTrue, not}
use Rattle.std.proofs.Common.{true≢false, length}
use Rattle.std.specs.Fmt.{decimal, signed_decimal, digits, digits_onto, digit_glyph}
use Rattle.std.specs.List.{flat_map, list_all}
use Rattle.mus_units.specs.declared.glyph.Glyph.{Glyph}
use Rattle.mus_units.specs.declared.glyph.Size.{Size}
use Rattle.mus_units.specs.declared.glyph.Way.{Way}
use Rattle.glyph_paths.specs.Names.{glyph_name}
use Rattle.glyph_paths.specs.Procedure.{numbers}
use Rattle.ps_text.specs.Document.{rules_line, staff_line, join_line, system_line, title_line, tune_line, heading_line}
use Rattle.ps_text.specs.Document.{count_line}
use Rattle.ps_text.specs.Fields.{shown, in_parentheses}
use Rattle.ps_text.specs.Line.{glyph_line, words_line, stem_line, beam_line, arc_line, points, mark_line}
use Rattle.ps_text.specs.Names.{size_name, way_name}
use Rattle.ps_text.specs.Prolog.{box_line, page_line, box_start, page_start, page_end, scaling, percent}
use Rattle.ps_text.specs.Range.{is_shown, IsPageMark}
use Rattle.ps_text.specs.declared.marks.PageMark.{PageMark}
use Rattle.eng_lines.specs.Lines.{Lacks}
use Rattle.eng_lines.proofs.Words.{head_of}
use Rattle.ps_read.specs.Lines.{Line, line_text}
use Rattle.ps_read.specs.ReaderStates.{MayCome}
use Rattle.ps_read.specs.declared.state.ReaderState.{ReaderState}
use Rattle.ps_read.specs.Lines as line

abbrev IsDigit : ℕ → Type 0
IsDigit b = (48 ≤ b) × (b ≤ 57)

-- a digit
glyph_range : (n : ℕ) → IsDigit (digit_glyph false (n % 10))
glyph_range n = (grind arith, grind arith)

by_test : (P : List ℕ → Type 0) (t : Bool) (x y : List ℕ) → P x → P y → P (if t then x else y)
by_test P true x y h k = h
by_test P false x y h k = k

-- what one more leading digit keeps holds for a number
pub digits_keep : (P : List ℕ → Type 0)
    → ((d : ℕ) (ds : List ℕ) → IsDigit d → P ds → P (d ∷ ds)) → (k n : ℕ) (ds : List ℕ) → P ds
    → P (digits_onto k 10 false n ds)
digits_keep P more zero n ds h = h
digits_keep P more (suc k) n ds h =
    let d = digit_glyph false (n % 10) in
    let g = more d ds (glyph_range n) h in
    by_test P (n / 10 == 0) (d ∷ ds) (digits_onto k 10 false (n / 10) (d ∷ ds)) g
    (digits_keep P more k (n / 10) (d ∷ ds) g)

-- lines of numbers or words begin neither as a comment nor as `grestore`
abbrev pub IsMarkStart : ℕ → Type 0
IsMarkStart b = (b ≢ 37) × (b ≢ 103)

decimal_start : (n : ℕ) → IsMarkStart (head_of (decimal n))
unfolding digits
decimal_start n =
    digits_keep (λ s. IsMarkStart (head_of s))
    (λ d ds i h. let low = i.0 in let high = i.1 in (λ e. omega (arith, low, e), λ e. omega (arith, high, e))) 64 n []
    (λ e. omega arith, λ e. omega arith)

number_start : (ds zs name : List ℕ)
    → IsMarkStart (head_of ds) → IsMarkStart (head_of (((ds ++ 32 ∷ []) ++ zs) ++ name))
number_start [] zs name h = (λ e. omega arith, λ e. omega arith)
number_start (d ∷ ds) zs name h = h

numbers_start : (z : ℤ) (zs : List ℤ) (name : List ℕ) → IsMarkStart (head_of (numbers (z ∷ zs) ++ name))
unfolding numbers
numbers_start (pos n) zs name = number_start (decimal n) (numbers zs) name (decimal_start n)
numbers_start (negsuc n) zs name = (λ e. omega arith, λ e. omega arith)

pub mark_start : (y : ℤ) (m : PageMark) → IsMarkStart (head_of (mark_line y m))
unfolding glyph_line words_line in_parentheses stem_line beam_line arc_line points
mark_start y (PageMark.Glyph g x dx dy) = numbers_start dx _ (glyph_name g)
mark_start y (PageMark.Words size x dx dy words) = (λ e. omega arith, λ e. omega arith)
mark_start y (PageMark.Stem x dx from to) = numbers_start dx _ (codes "st")
mark_start y (PageMark.Beam way x1 x2 from to) = numbers_start _ _ (way_name way)
mark_start y (PageMark.Arc x1 x2 from to bulge) = numbers_start _ _ (codes "ac")

pub rules_start : (w : ℕ) (y : ℤ) → IsMarkStart (head_of (rules_line w y))
unfolding rules_line
rules_start w y = numbers_start (pos w) _ (codes "sf")

pub join_start : (top foot : ℤ) → IsMarkStart (head_of (join_line top foot))
unfolding join_line
join_start top foot = numbers_start (pos 0) _ (codes "vl")

pub title_start : (x y : ℤ) (size : Size) (words : List ℕ) → IsMarkStart (head_of (title_line x y size words))
unfolding title_line in_parentheses
title_start x y size words = (λ e. omega arith, λ e. omega arith)

-- no LF inside
abbrev is_whole : List ℕ → Bool
is_whole s = list_all (λ b. not (b == 10)) s

lacks : (s : List ℕ) → is_whole s ≡ true → Lacks 10 s
lacks [] e = tt
lacks (x ∷ s) e = (λ q. grind (arith, e, q), lacks s (grind (arith, e)))

decimal_whole : (n : ℕ) → is_whole (decimal n) ≡ true
unfolding digits
decimal_whole n = digits_keep (λ s. is_whole s ≡ true) (λ d ds i h. let low = i.0 in grind (arith, low, h)) 64 n [] refl

signed_whole : (z : ℤ) → is_whole (signed_decimal z) ≡ true
signed_whole (pos n) = decimal_whole n
signed_whole (negsuc n) = decimal_whole (suc n)

numbers_whole : (zs : List ℤ) → is_whole (numbers zs) ≡ true
unfolding numbers
numbers_whole [] = refl
numbers_whole (z ∷ zs) = grind (arith, list_all-append, signed_whole z, numbers_whole zs)

shown_whole : (b : ℕ) → IsTrue (is_shown b) → is_whole (shown b) ≡ true
unfolding shown is_shown
shown_whole b h =
    let P : ℕ → Type 0 = λ b. IsTrue (is_shown b) in
    let other = ne_eqb b 10 (λ e. true≢false (sym (subst P e h))) in
    grind (arith, other)

words_whole : (words : List ℕ) → IsTrue (list_all is_shown words) → is_whole (flat_map shown words) ≡ true
words_whole [] h = refl
words_whole (b ∷ words) h = grind (arith, list_all-append, shown_whole b, words_whole words, h)

parentheses_whole : (words : List ℕ) → IsTrue (list_all is_shown words) → is_whole (in_parentheses words) ≡ true
unfolding in_parentheses
parentheses_whole words h = grind (arith, list_all-append, words_whole words h)

percent_whole : (p : ℕ) → is_whole (percent p) ≡ true
unfolding percent
percent_whole p = grind (arith, list_all-append, decimal_whole)

size_whole : (size : Size) → is_whole (size_name size) ≡ true
size_whole Size.Small = refl
size_whole Size.Big = refl

way_whole : (way : Way) → is_whole (way_name way) ≡ true
way_whole Way.Up = refl
way_whole way = refl

glyph_whole : (g : Glyph) → is_whole (glyph_name g) ≡ true
glyph_whole Glyph.Hb = refl
glyph_whole g = refl

mark_whole : (y : ℤ) (m : PageMark) → IsPageMark y m → is_whole (mark_line y m) ≡ true
unfolding glyph_line words_line stem_line beam_line arc_line points
mark_whole y (PageMark.Words size x dx dy words) h =
    grind (arith, list_all-append, numbers_whole, parentheses_whole words h.1.shown, size_whole)
mark_whole y m h = grind (arith, list_all-append, numbers_whole, glyph_whole, way_whole)

count_whole : (k : ℕ) → is_whole (count_line k) ≡ true
unfolding count_line
count_whole k = decimal_whole k

-- no good line contains an LF
pub may_lack : (p : ReaderState) (l : Line) → MayCome p l → Lacks 10 (line_text l)
unfolding box_line box_start page_line page_start page_end scaling heading_line tune_line title_line system_line
    join_line staff_line rules_line
may_lack (ReaderState.Boxed w h rest) (line.Fixed text) m = m.whole
may_lack (ReaderState.Framed f rest) (line.Fixed text) m = m.whole
may_lack (ReaderState.Trailer s) (line.Fixed text) m = lacks text (rw m (count_whole (length s.pages)))
may_lack p (line.Fixed text) m = lacks text (grind (arith, m))
may_lack (ReaderState.Items p) (line.Title x y size words) m =
    lacks (title_line x y size words)
    (grind (arith, list_all-append, numbers_whole, parentheses_whole words m.good.shown, size_whole size))
may_lack (ReaderState.Marks o s) (line.Mark y k) m = lacks (mark_line y k) (rw m.0 (mark_whole s.y k m.1))
may_lack p l m = lacks (line_text l) (grind (arith, list_all-append, decimal_whole, percent_whole, numbers_whole))
