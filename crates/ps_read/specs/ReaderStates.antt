-- Which line may follow which: the lines of a document, each judged by the lines before it alone.
use Rattle.std.specs.Prelude.{◌≡◌, ℕ, ℤ, pos, ◌+◌, ◌<◌, ◌≤◌, ◌^◌, ◌+ℤ◌, List, [], ◌∷◌, ◌++◌, length, codes, Option}
use Rattle.std.specs.Prelude.{Some, None, IsSome, ⊤}
use Rattle.mus_units.specs.Distances.{top_line}
use Rattle.ps_text.specs.Document.{count_line}
use Rattle.ps_text.specs.Prolog.{procedures, glyph_lines, last_text}
use Rattle.ps_text.specs.Range.{IsNumber, IsPageMark, IsTitle, IsOrdinal, IsFrame}
use Rattle.ps_text.specs.declared.marks.PageMark.{PageMark}
use Rattle.ps_text.specs.declared.sheet.Frame.{Frame}
use Rattle.ps_text.specs.declared.sheet.Staff.{Staff}
use Rattle.ps_text.specs.declared.sheet.Item.{Item}
use Rattle.ps_text.specs.declared.sheet.Sheet.{Sheet}
use Rattle.glyph_paths.specs.Names.{glyphs_in_order}
use Rattle.eng_reader.specs.Grammar.{Grammar}
use Rattle.ps_read.specs.Lines.{Line, Fixed, Box, PageStart, Heading, Tune, Title, System, Join, StaffHead, Rules, Mark}
use Rattle.ps_read.specs.Lines.{line_text, after_line, IsFirstLine}
use Rattle.ps_read.specs.declared.state.Joined.{Joined}
use Rattle.ps_read.specs.declared.state.OpenPage.{OpenPage}
use Rattle.ps_read.specs.declared.state.OpenSystem.{OpenSystem}
use Rattle.ps_read.specs.declared.state.ReaderState.{ReaderState}

abbrev pub frame_from_numbers : ℕ → ℕ → ℕ → ℕ → ℕ → Frame
frame_from_numbers wide high left bottom scale =
    record { wide = wide; high = high; left = left; bottom = bottom; scale = scale }

abbrev pub with_item : OpenPage → Item → OpenPage
with_item p item = record { sheet = p.sheet; items = p.items ++ item ∷ [] }

-- the sheet with one more page
abbrev pub with_page : OpenPage → Sheet
with_page p = record { frame = p.sheet.frame; pages = p.sheet.pages ++ record { items = p.items } ∷ [] }

abbrev pub staff_with_mark : Staff → PageMark → Staff
staff_with_mark s m = record { y = s.y; width = s.width; marks = s.marks ++ m ∷ [] }

abbrev pub system_with_staff : OpenSystem → Staff → OpenSystem
system_with_staff o s = record { page = o.page; a = o.a; b = o.b; join = o.join; staves = o.staves ++ s ∷ [] }

abbrev pub with_join : OpenSystem → ℤ → ℤ → OpenSystem
with_join o top foot =
    record { page = o.page; a = o.a; b = o.b; join = Some (record { top = top; foot = foot }); staves = o.staves }

abbrev pub open_system : OpenPage → ℕ → ℕ → OpenSystem
open_system p a b = record { page = p; a = a; b = b; join = None; staves = [] }

-- the page with a system that ends with this staff
abbrev pub system_ended : OpenSystem → Staff → OpenPage
system_ended o s = with_item o.page (Item.System o.a o.b (o.staves ++ s ∷ []))

-- the first staff that a line joins has its top line at the top of that line
abbrev pub IsUnderTop : Option Joined → List Staff → ℤ → Type 0
IsUnderTop (Some j) [] y = (y +ℤ pos top_line) ≡ j.top
IsUnderTop j staves y = ⊤

-- a system may end with a staff at y if no line joins its staves, or if it has another staff and y is the foot of
-- that line
abbrev pub MayEnd : Option Joined → List Staff → ℤ → Type 0
MayEnd None staves y = ⊤
MayEnd (Some j) staves y = (1 ≤ length staves) × (y ≡ j.foot)

-- the line may come next
abbrev pub MayCome : ReaderState → Line → Type 0
MayCome ReaderState.Begun (Fixed text) = text ≡ codes "%!PS-Adobe-3.0"
MayCome ReaderState.Titled (Box wide high) = (wide < 2 ^ 32) × (high < 2 ^ 32)
MayCome (ReaderState.Boxed wide high rest) (Fixed text) = IsFirstLine text rest
MayCome (ReaderState.Boxed wide high rest) (PageStart left bottom scale) =
    (rest ≡ []) × IsFrame (frame_from_numbers wide high left bottom scale)
MayCome (ReaderState.Framed frame rest) (Fixed text) = IsFirstLine text rest
MayCome (ReaderState.Between s) (Heading k) = (k ≡ length s.pages + 1) × (k < 2 ^ 32)
MayCome (ReaderState.Between s) (Fixed text) = text ≡ codes "%%Trailer"
MayCome (ReaderState.Headed s) (Fixed text) = text ≡ codes "pg"
MayCome (ReaderState.Items p) (Tune k) = IsOrdinal k
MayCome (ReaderState.Items p) (Title x y size words) = IsTitle x y words
MayCome (ReaderState.Items p) (System a b) = (a < b) × (b < 2 ^ 32)
MayCome (ReaderState.Items p) (Fixed text) = text ≡ codes "grestore"
MayCome (ReaderState.System o) (Join top foot) = (o.join ≡ None) × IsNumber top × IsNumber foot
MayCome (ReaderState.System o) (StaffHead k) = k ≡ 0
MayCome (ReaderState.Staff o) (Rules width y) =
    (1 ≤ width) × (width ≤ 2 ^ 31) × IsNumber y × IsUnderTop o.join o.staves y
MayCome (ReaderState.Marks o s) (Mark y m) = (y ≡ s.y) × IsPageMark s.y m
MayCome (ReaderState.Marks o s) (StaffHead k) = IsSome o.join × (k ≡ length o.staves + 1)
MayCome (ReaderState.Marks o s) (Tune k) = MayEnd o.join o.staves s.y × IsOrdinal k
MayCome (ReaderState.Marks o s) (System a b) = MayEnd o.join o.staves s.y × (a < b) × (b < 2 ^ 32)
MayCome (ReaderState.Marks o s) (Fixed text) = MayEnd o.join o.staves s.y × (text ≡ codes "grestore")
MayCome (ReaderState.Closed p) (Fixed text) = text ≡ codes "showpage"
MayCome (ReaderState.Trailer s) (Fixed text) = text ≡ count_line (length s.pages)
MayCome (ReaderState.Counted s) (Fixed text) = text ≡ codes "%%EOF"
MayCome p l = ⊥

-- pages come after the prolog
abbrev pub after_prolog : Frame → List ℕ → ReaderState
after_prolog frame [] = ReaderState.Between (record { frame = frame; pages = [] })
after_prolog frame (b ∷ rest) = ReaderState.Framed frame (b ∷ rest)

-- the state after the line
abbrev pub state_after : ReaderState → Line → ReaderState
state_after ReaderState.Begun (Fixed text) = ReaderState.Titled
state_after ReaderState.Titled (Box wide high) = ReaderState.Boxed wide high procedures
state_after (ReaderState.Boxed wide high rest) (Fixed text) = ReaderState.Boxed wide high (after_line text rest)
state_after (ReaderState.Boxed wide high rest) (PageStart left bottom scale) =
    ReaderState.Framed (frame_from_numbers wide high left bottom scale) (glyph_lines glyphs_in_order ++ last_text)
state_after (ReaderState.Framed frame rest) (Fixed text) = after_prolog frame (after_line text rest)
state_after (ReaderState.Between s) (Heading k) = ReaderState.Headed s
state_after (ReaderState.Between s) (Fixed text) = ReaderState.Trailer s
state_after (ReaderState.Headed s) (Fixed text) = ReaderState.Items (record { sheet = s; items = [] })
state_after (ReaderState.Items p) (Tune k) = ReaderState.Items (with_item p (Item.Tune k))
state_after (ReaderState.Items p) (Title x y size words) = ReaderState.Items (with_item p (Item.Title x y size words))
state_after (ReaderState.Items p) (System a b) = ReaderState.System (open_system p a b)
state_after (ReaderState.Items p) (Fixed text) = ReaderState.Closed p
state_after (ReaderState.System o) (Join top foot) = ReaderState.System (with_join o top foot)
state_after (ReaderState.System o) (StaffHead k) = ReaderState.Staff o
state_after (ReaderState.Staff o) (Rules width y) = ReaderState.Marks o (record { y = y; width = width; marks = [] })
state_after (ReaderState.Marks o s) (Mark y m) = ReaderState.Marks o (staff_with_mark s m)
state_after (ReaderState.Marks o s) (StaffHead k) = ReaderState.Staff (system_with_staff o s)
state_after (ReaderState.Marks o s) (Tune k) = ReaderState.Items (with_item (system_ended o s) (Item.Tune k))
state_after (ReaderState.Marks o s) (System a b) = ReaderState.System (open_system (system_ended o s) a b)
state_after (ReaderState.Marks o s) (Fixed text) = ReaderState.Closed (system_ended o s)
state_after (ReaderState.Closed p) (Fixed text) = ReaderState.Between (with_page p)
state_after (ReaderState.Trailer s) (Fixed text) = ReaderState.Counted s
state_after (ReaderState.Counted s) (Fixed text) = ReaderState.Ended s
state_after p l = p

-- the lines of documents
abbrev pub documents : Grammar
documents = record {
  State = ReaderState;
  Line = Line;
  Whole = Sheet;
  line_text = line_text;
  begun = ReaderState.Begun;
  ended = ReaderState.Ended;
  MayCome = MayCome;
  state_after = state_after;
}
