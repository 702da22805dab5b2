-- The values that may be on a page: the range of each number, and for each type the values that have a text.
use Rattle.std.specs.Prelude.{ℕ, ℤ, pos, negsuc, ◌^◌, ◌<◌, ◌≤◌, ◌+ℤ◌, ◌<ℤ◌, ◌≤ℤ◌, Bool, ◌&&◌, ◌||◌, nat_le, IsTrue}
use Rattle.std.specs.Prelude.{List, [], ◌∷◌, length, All, ⊤}
use Rattle.std.specs.List.{list_all}
use Rattle.mus_units.specs.Distances.{beam_thickness, top_line}
use Rattle.ps_text.specs.declared.marks.PageMark.{PageMark}
use Rattle.ps_text.specs.declared.sheet.Frame.{Frame}
use Rattle.ps_text.specs.declared.sheet.Staff.{Staff}
use Rattle.ps_text.specs.declared.sheet.Item.{Item}
use Rattle.ps_text.specs.declared.sheet.Page.{Page}
use Rattle.ps_text.specs.declared.sheet.Sheet.{Sheet}

-- a number of a page is within 2^40 of 0
pub record IsNumber (z : ℤ) : Type 0 where
  pub low : negsuc 1099511627775 ≤ℤ z
  pub high : z ≤ℤ pos 1099511627776

-- within 2^41 of 0: a number of a page, or one moved by an offset
pub record IsNearNumber (z : ℤ) : Type 0 where
  pub low : negsuc 2199023255551 ≤ℤ z
  pub high : z ≤ℤ pos 2199023255552

-- an offset of a mark is a signed number of 32 bits
pub record IsOffset (z : ℤ) : Type 0 where
  pub low : negsuc 2147483647 ≤ℤ z
  pub high : z ≤ℤ pos 2147483647

-- a byte that words may have: 20 to 7E and A0 to FF
unfoldable pub is_shown : ℕ → Bool
is_shown b = (nat_le 32 b && nat_le b 126) || (nat_le 160 b && nat_le b 255)

-- words have 1 to 60 bytes, each of which may be shown
pub record IsWords (words : List ℕ) : Type 0 where
  pub shown : IsTrue (list_all is_shown words)
  pub some : 1 ≤ length words
  pub few : length words ≤ 60

-- a glyph or words at x, with offsets, on a staff at y
pub record IsPlacedMark (y x dx dy : ℤ) : Type 0 where
  pub base : IsNumber y
  pub anchor : IsNumber x
  pub across : IsOffset dx
  pub above : IsOffset dy

-- a stem at dx from x, between two heights above y
pub record IsStem (y x dx from to : ℤ) : Type 0 where
  pub start : IsPlacedMark y x dx from
  pub end : IsOffset to

-- an end of a beam or an arc: a point at a height above y, and one this far above that
pub record IsArcEnd (y height rise : ℤ) : Type 0 where
  pub offset : IsOffset height
  pub point : IsNumber (y +ℤ height)
  pub above : IsNumber ((y +ℤ height) +ℤ rise)

-- from left to right
pub record IsStretch (x1 x2 : ℤ) : Type 0 where
  pub first : IsNumber x1
  pub last : IsNumber x2
  pub rising : x1 <ℤ x2

-- a beam or an arc goes from left to right, between two ends
pub record IsSpan (y x1 x2 from to rise : ℤ) : Type 0 where
  pub base : IsNumber y
  pub stretch : IsStretch x1 x2
  pub rises : IsOffset rise
  pub left : IsArcEnd y from rise
  pub right : IsArcEnd y to rise

-- a mark that may be on a staff at y
abbrev pub IsPageMark : ℤ → PageMark → Type 0
IsPageMark y (PageMark.Glyph glyph x dx dy) = IsPlacedMark y x dx dy
IsPageMark y (PageMark.Words size x dx dy words) = IsPlacedMark y x dx dy × IsWords words
IsPageMark y (PageMark.Stem x dx from to) = IsStem y x dx from to
IsPageMark y (PageMark.Beam way x1 x2 from to) = IsSpan y x1 x2 from to (pos beam_thickness)
IsPageMark y (PageMark.Arc x1 x2 from to bulge) = IsSpan y x1 x2 from to bulge

-- a staff has lines of 1 to 2^31, and marks that may be on it
pub record IsStaff (s : Staff) : Type 0 where
  pub base : IsNumber s.y
  pub some : 1 ≤ s.width
  pub wide : s.width ≤ 2 ^ 31
  pub drawn : All (IsPageMark s.y) s.marks

-- the line that joins two or more staves begins at the top line of the first
abbrev pub IsJoined : List Staff → Type 0
IsJoined [] = ⊤
IsJoined (s ∷ []) = ⊤
IsJoined (s ∷ t ∷ rest) = IsNumber (s.y +ℤ pos top_line)

-- a system of the measures a to b - 1, on at least one staff
pub record IsSystemItem (a b : ℕ) (staves : List Staff) : Type 0 where
  pub rising : a < b
  pub last : b < 2 ^ 32
  pub some : 1 ≤ length staves
  pub joined : IsJoined staves
  pub good : All IsStaff staves

pub record IsTitle (x y : ℤ) (words : List ℕ) : Type 0 where
  pub across : IsNumber x
  pub base : IsNumber y
  pub good : IsWords words

-- the ordinal of a tune or a page
pub record IsOrdinal (k : ℕ) : Type 0 where
  pub low : 1 ≤ k
  pub high : k < 2 ^ 32

abbrev pub IsItem : Item → Type 0
IsItem (Item.Tune ordinal) = IsOrdinal ordinal
IsItem (Item.Title x y size words) = IsTitle x y words
IsItem (Item.System a b staves) = IsSystemItem a b staves

-- whether a title may come directly after an item: not after a system
abbrev pub IsAfter : Item → Item → Type 0
IsAfter (Item.System a b staves) (Item.Title x y size words) = ⊥
IsAfter _ _ = ⊤

-- each item may come directly after the one before it
abbrev pub InOrder : List Item → Type 0
InOrder [] = ⊤
InOrder (i ∷ []) = ⊤
InOrder (i ∷ j ∷ rest) = IsAfter i j × InOrder (j ∷ rest)

pub record IsPage (p : Page) : Type 0 where
  pub items : All IsItem p.items
  pub order : InOrder p.items

-- a frame's sizes and margins are below 2^32, its scale is 40 to 150 percent
pub record IsFrame (f : Frame) : Type 0 where
  pub wide : f.wide < 2 ^ 32
  pub high : f.high < 2 ^ 32
  pub left : f.left < 2 ^ 32
  pub bottom : f.bottom < 2 ^ 32
  pub least_scale : 40 ≤ f.scale
  pub greatest_scale : f.scale ≤ 150

-- pages are counted by ordinals
pub record IsSheet (s : Sheet) : Type 0 where
  pub frame : IsFrame s.frame
  pub few : length s.pages < 2 ^ 32
  pub pages : All IsPage s.pages
