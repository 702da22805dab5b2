-- The prolog of a document: the fixed lines, the lines that give the paper, and a procedure for each glyph.
use Rattle.std.specs.{Prelude.{ℕ, ◌/◌, ◌%◌, List, [], ◌∷◌, ◌++◌, codes, decimal}, List.flat_map}
use Rattle.mus_units.specs.declared.glyph.Glyph.{Glyph}
use Rattle.glyph_paths.specs.Characters.{digit, line_end, point, space}
use Rattle.glyph_paths.specs.Names.{glyphs_in_order}
use Rattle.glyph_paths.specs.Procedure.{procedure_text}
use Rattle.ps_text.specs.declared.sheet.Frame.{Frame}

-- a percent as a number with two decimals
unfoldable pub percent : ℕ → List ℕ
percent p = decimal (p / 100) ++ point ∷ digit (p / 10 % 10) ∷ digit (p % 10) ∷ []

-- the first line
unfoldable pub first_text : List ℕ
first_text = codes "%!PS-Adobe-3.0\n"

-- the bounding box, up to the width
unfoldable pub box_start : List ℕ
box_start = codes "%%BoundingBox: 0 0 "

-- from after the bounding box to the procedure that begins a page
unfoldable pub procedures : List ℕ
procedures =
    codes "%%LanguageLevel: 2\n"
    ++ codes "%%Pages: (atend)\n"
    ++ codes "%%EndComments\n"
    ++ codes "%%BeginProlog\n"
    ++ codes "/m {moveto} def\n"
    ++ codes "/l {lineto} def\n"
    ++ codes "/c {curveto} def\n"
    ++ codes "/h {closepath fill} def\n"
    ++ codes "/k {stroke} def\n"
    ++ codes "/sf {gsave translate 0 0 m l 0 500 m l 0 1000 m l 0 1500 m l 0 2000 m l stroke grestore} def\n"
    ++ codes "/vl {m l stroke} def\n"
    ++ codes "/st {gsave translate m l stroke grestore} def\n"
    ++ codes "/bu {gsave 280 0 translate m l l l h grestore} def\n"
    ++ codes "/bd {gsave -280 0 translate m l l l h grestore} def\n"
    ++ codes "/gb {gsave 190 0 translate m l l l h grestore} def\n"
    ++ codes "/ac {m c stroke} def\n"
    ++ codes "/t1 {gsave translate m show grestore} def\n"
    ++ codes "/t2 {gsave /EngFont findfont 1600 scalefont setfont translate m show grestore} def\n"
    ++ codes
    "/Courier findfont dup length dict begin {1 index /FID ne {def} {pop pop} ifelse} forall /Encoding "
    ++ codes "ISOLatin1Encoding def currentdict end /EngFont exch definefont pop\n"

-- the procedure that begins a page, up to the left margin
unfoldable pub page_start : List ℕ
page_start = codes "/pg {gsave 0.01 0.01 scale "

-- that procedure from after the scale
unfoldable pub page_end : List ℕ
page_end = codes " scale 60 setlinewidth /EngFont findfont 900 scalefont setfont} def"

-- the last line of the prolog
unfoldable pub last_text : List ℕ
last_text = codes "%%EndProlog\n"

-- the line of the bounding box, in points, without its LF
unfoldable pub box_line : ℕ → ℕ → List ℕ
box_line wide high = box_start ++ decimal wide ++ space ∷ decimal high

-- margins in u and the scale, twice
unfoldable pub scaling : ℕ → ℕ → ℕ → List ℕ
scaling left bottom scale =
    decimal left ++ space ∷ decimal bottom ++ codes " translate " ++ percent scale ++ space ∷ percent scale

-- the line that defines how a page begins, without its LF
unfoldable pub page_line : ℕ → ℕ → ℕ → List ℕ
page_line left bottom scale = page_start ++ scaling left bottom scale ++ page_end

-- a line for each glyph
unfoldable pub glyph_lines : List Glyph → List ℕ
glyph_lines glyphs = flat_map (λ g. procedure_text g ++ line_end ∷ []) glyphs

-- from the first line to the line of the bounding box
unfoldable pub heading : Frame → List ℕ
heading f = first_text ++ box_line f.wide f.high ++ line_end ∷ []

-- the prolog of a document, up to the line `%%EndProlog`
unfoldable pub prolog : Frame → List ℕ
prolog f =
    heading f ++ procedures ++ page_line f.left f.bottom f.scale ++ line_end ∷ glyph_lines glyphs_in_order ++ last_text
