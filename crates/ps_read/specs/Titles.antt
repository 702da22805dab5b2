-- What a line says, composed from its parts, and what a reader of such a line returns: what the line says and that it
-- says nothing else, or that it says nothing of this kind.
use Rattle.std.specs.Prelude.{◌≡◌, ℕ, ℤ, ◌≤◌, ◌^◌, List, Option, MatchOption}
use Rattle.mus_units.specs.declared.glyph.Size.{Size}
use Rattle.ps_text.specs.Document.{title_line, join_line, rules_line}
use Rattle.ps_text.specs.Line.{mark_line}
use Rattle.ps_text.specs.Range.{IsNumber, IsTitle, IsPageMark}
use Rattle.ps_text.specs.declared.marks.PageMark.{PageMark}
use Rattle.ps_read.specs.{declared.lines.Rules.Rules, declared.lines.Title.Title, declared.state.Joined.Joined}

abbrev pub title_of : ℤ → ℤ → Size → List ℕ → Title
title_of x y size words = record { x = x; y = y; size = size; text = words }

abbrev pub joined_of : ℤ → ℤ → Joined
joined_of top foot = record { top = top; foot = foot }

abbrev pub rules_of : ℕ → ℤ → Rules
rules_of width y = record { width = width; y = y }

abbrev pub IsTitleRead : List ℕ → Option Title → Type 0
IsTitleRead raw o = MatchOption o
    ((x y : ℤ) (size : Size) (words : List ℕ) → IsTitle x y words → raw ≡ title_line x y size words → ⊥)
    (λ t.
    IsTitle t.x t.y t.text
    × (raw ≡ title_line t.x t.y t.size t.text)
    × ((x y : ℤ) (size : Size) (words : List ℕ)
    → IsTitle x y words → raw ≡ title_line x y size words → t ≡ title_of x y size words))

abbrev pub IsJoinRead : List ℕ → Option Joined → Type 0
IsJoinRead raw o = MatchOption o
    ((top foot : ℤ) → IsNumber top → IsNumber foot → raw ≡ join_line top foot → ⊥)
    (λ j.
    (IsNumber j.top × IsNumber j.foot)
    × (raw ≡ join_line j.top j.foot)
    × ((top foot : ℤ) → IsNumber top → IsNumber foot → raw ≡ join_line top foot → j ≡ joined_of top foot))

abbrev pub IsRulesRead : List ℕ → Option Rules → Type 0
IsRulesRead raw o = MatchOption o
    ((w : ℕ) (y : ℤ) → 1 ≤ w → w ≤ 2 ^ 31 → IsNumber y → raw ≡ rules_line w y → ⊥)
    (λ r.
    ((1 ≤ r.width) × (r.width ≤ 2 ^ 31) × IsNumber r.y)
    × (raw ≡ rules_line r.width r.y)
    × ((w : ℕ) (y : ℤ) → 1 ≤ w → w ≤ 2 ^ 31 → IsNumber y → raw ≡ rules_line w y → r ≡ rules_of w y))

-- on a staff at y
abbrev pub IsMarkRead : ℤ → List ℕ → Option PageMark → Type 0
IsMarkRead y raw o = MatchOption o
    ((m : PageMark) → IsPageMark y m → raw ≡ mark_line y m → ⊥)
    (λ m. IsPageMark y m × (raw ≡ mark_line y m) × ((k : PageMark) → IsPageMark y k → raw ≡ mark_line y k → k ≡ m))
