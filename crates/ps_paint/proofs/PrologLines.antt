-- A prolog makes its definitions and its font.
use Rattle.std.proofs.Common.{◌≡◌, ℕ, ◌+◌, ◌*◌, ◌/◌, ◌%◌, ◌<◌, ◌≤◌, pos, true, false, Bool, List, [], ◌∷◌, ◌++◌, length}
use Rattle.std.proofs.Common.{length-append, append_assoc, map, Some, None, refl, ap, arith, decimal, codes, ◌==◌}
use Rattle.std.proofs.lemmas.Fmt.{decimal_digit}
use Rattle.std.proofs.lemmas.Int.{ints}
use Rattle.std.proofs.lemmas.Bool.Decides.{nat_tests}
use Rattle.std.specs.Char.{digit_value}
use Rattle.std.specs.List.{list_all}
use Rattle.mus_units.specs.Bytes.{is_digit}
use Rattle.mus_units.specs.declared.glyph.Glyph.{Glyph}
use Rattle.mus_units.specs.declared.glyph.Size.{Size}
use Rattle.mus_units.specs.declared.glyph.Way.{Way}
use Rattle.glyph_paths.specs.Names.{glyph_name, glyphs_in_order}
use Rattle.glyph_paths.specs.Procedure.{numbers}
use Rattle.ps_text.specs.Prolog.{percent, first_text}
use Rattle.ps_text.specs.Prolog.{box_start, procedures, page_start, page_end, last_text, box_line, scaling, page_line}
use Rattle.ps_text.specs.Prolog.{glyph_lines, heading, prolog}
use Rattle.ps_text.specs.declared.sheet.Frame.{Frame}
use Rattle.ps_text.specs.Range.{IsFrame}
use Rattle.ps_steps.specs.Tokens.{is_regular, is_name, begins, font_line, font_front, Body, word_token, pointed_number}
use Rattle.ps_steps.specs.declared.token.SimpleToken.{SimpleToken}
use Rattle.ps_steps.specs.declared.token.SimpleToken.TheVariants.{Pointed as pointed_token}
use Rattle.ps_steps.specs.declared.token.SimpleToken.TheVariants.{Whole as whole_token, Label as label_token}
use Rattle.ps_steps.specs.declared.token.SimpleToken.TheVariants.{Font as font_token}
use Rattle.ps_steps.specs.Near.{is_near, is_near_hundredths}
use Rattle.ps_steps.specs.State.{State, Names, first_graphics}
use Rattle.ps_steps.specs.State.{first_state, no_names}
use Rattle.ps_steps.specs.Operators.{defined, moveto_op, lineto_op, curveto_op, closepath_op, fill_op, stroke_op}
use Rattle.ps_steps.specs.Operators.{gsave_op, scale_op, translate_op, setlinewidth_op, findfont_op}
use Rattle.ps_steps.specs.Operators.{scalefont_op, setfont_op}
use Rattle.ps_paint.specs.Distances.{line_width, small_height}
use Rattle.ps_paint.proofs.Runs.{no_more, op}
use Rattle.ps_paint.proofs.Bodies.{sf_body, vl_body, st_body, beam_body, ac_body, size_body, pg_body, glyph_body}
use Rattle.ps_paint.proofs.Lexing.{Lexes, both_lexed}
use Rattle.ps_paint.proofs.Lexing.{lex_one, ends, lex_numbers, pieces_of, spaced, piece_token, piece_stands, lexed}
use Rattle.ps_paint.proofs.Lexing.{lexed_to}
use Rattle.ps_paint.proofs.Made.{with_fixed, with_pg, with_glyphs, all_names}
use Rattle.ps_paint.proofs.Takes.{Takes, word_stands}
use Rattle.ps_paint.proofs.Takes.{nothing_taken, both_taken, takes_token, line_end_passed, space_passed, IsTokenWord}
use Rattle.ps_paint.proofs.Takes.{digit_regular, digit_no_minus}
use Rattle.ps_paint.proofs.Comments.{takes_comment, two_in_line}
use Rattle.ps_paint.proofs.Defining.{definition}
use Rattle.ps_paint.proofs.Defining.{takes_definition, takes_glyph}
use Rattle.ps_paint.proofs.GlyphTable.{fine}
use Rattle.ps_paint.proofs.Starts.{between}
use Rattle.ps_paint.proofs.Lines.{Leads}
use Rattle.ps_paint.specs.PaintOf.{edge}

-- a state in which only definitions were made
abbrev pub being : Names → Bool → State
being ds made =
    record { stack = []; names = ds; made = made; now = first_graphics; saved = []; paints = []; pages = [] }

-- a line of fixed text
fixed : {ds : Names} (name front last : List ℕ) (body : List SimpleToken)
    → list_all is_regular name ≡ true → is_name name ≡ true → begins (λ b. b == 67) name ≡ false
    → spaced (pieces_of front) ≡ front
    → map piece_token (pieces_of front ++ last ∷ []) ≡ map (λ t. Some t) body
    → ds (codes "def") ≡ None
    → Takes 3 (definition name (front ++ last)) (being ds false) (being (defined name body ds) false)
fixed {ds} name front last body r g o e f free =
    takes_definition name (front ++ last) body (being ds false) (record { regular = r; good = g; other = o })
    (lexed_to front last body e f) free

-- the line that makes the font
font_taken : Takes 1 (font_line ++ 10 ∷ []) (being with_fixed false) (being with_fixed true)
font_taken =
    takes_token {t = font_token} {w = font_line} {k = being with_fixed true}
    (record { front = λ b rest stop. font_front (b ∷ rest) refl }) line_end_passed refl no_more

procedures_taken : Takes 43 procedures (being no_names false) (being with_fixed true)
unfolding procedures
procedures_taken =
    let start = being no_names false in
    let level = takes_comment (codes "%LanguageLevel: 2") start refl in
    let pages = both_taken level (takes_comment (codes "%Pages: (atend)") start refl) in
    let comments = both_taken pages (takes_comment (codes "%EndComments") start refl) in
    let begins = both_taken comments (takes_comment (codes "%BeginProlog") start refl) in
    let m =
    both_taken begins (fixed (codes "m") [] (codes "moveto") (op moveto_op ∷ []) refl refl refl refl refl refl) in
    let l = both_taken m (fixed (codes "l") [] (codes "lineto") (op lineto_op ∷ []) refl refl refl refl refl refl) in
    let c = both_taken l (fixed (codes "c") [] (codes "curveto") (op curveto_op ∷ []) refl refl refl refl refl refl) in
    let h = both_taken c
    (fixed (codes "h") (codes "closepath ") (codes "fill") (op closepath_op ∷ op fill_op ∷ []) refl refl refl refl refl
    refl) in
    let k = both_taken h (fixed (codes "k") [] (codes "stroke") (op stroke_op ∷ []) refl refl refl refl refl refl) in
    let sf = both_taken k
    (fixed (codes "sf") (codes "gsave translate 0 0 m l 0 500 m l 0 1000 m l 0 1500 m l 0 2000 m l stroke ")
    (codes "grestore") sf_body refl refl refl refl refl refl) in
    let vl = both_taken sf (fixed (codes "vl") (codes "m l ") (codes "stroke") vl_body refl refl refl refl refl refl) in
    let st = both_taken vl
    (fixed (codes "st") (codes "gsave translate m l stroke ") (codes "grestore") st_body refl refl refl refl refl
    refl) in
    let bu = both_taken st
    (fixed (codes "bu") (codes "gsave 280 0 translate m l l l h ") (codes "grestore") (beam_body (edge Way.Up)) refl
    refl refl refl refl refl) in
    let bd = both_taken bu
    (fixed (codes "bd") (codes "gsave -280 0 translate m l l l h ") (codes "grestore") (beam_body (edge Way.Down)) refl
    refl refl refl refl refl) in
    let gb = both_taken bd
    (fixed (codes "gb") (codes "gsave 190 0 translate m l l l h ") (codes "grestore") (beam_body (edge Way.Grace)) refl
    refl refl refl refl refl) in
    let ac = both_taken gb (fixed (codes "ac") (codes "m c ") (codes "stroke") ac_body refl refl refl refl refl refl) in
    let t1 = both_taken ac
    (fixed (codes "t1") (codes "gsave translate m show ") (codes "grestore") (size_body Size.Small) refl refl refl refl
    refl refl) in
    let t2 = both_taken t1
    (fixed (codes "t2") (codes "gsave /EngFont findfont 1600 scalefont setfont translate m show ") (codes "grestore")
    (size_body Size.Big) refl refl refl refl refl refl) in
    both_taken t2 font_taken

-- the lines of glyphs
glyphs_taken : (gs : List Glyph) (ds : Names)
    → ds (codes "def") ≡ None → Takes (3 * length gs) (glyph_lines gs) (being ds true) (being (with_glyphs gs ds) true)
unfolding glyph_lines
glyphs_taken [] ds free = nothing_taken
glyphs_taken (g ∷ gs) ds free =
    let es = defined (glyph_name g) (glyph_body g) ds in
    let still : es (codes "def") ≡ None = rw ((fine g).no_def, defined) free in
    let count : 3 + 3 * length gs ≡ 3 * length {A = Glyph} (g ∷ gs) = omega arith in
    rw count at (both_taken (takes_glyph g (being ds true) free) (glyphs_taken gs es still))

-- a percentage with two decimals
digit_small : (a : ℕ) → a < 10 → is_digit (48 + a) ≡ true
digit_small a l = grind (arith, nat_tests)

digit_is : (a : ℕ) → a < 10 → digit_value (48 + a) ≡ a
digit_is a l = grind (arith, nat_tests)

three_digits : (a b c : ℕ)
    → a < 10 → b < 10 → c < 10
    → word_token ((48 + a) ∷ 46 ∷ (48 + b) ∷ (48 + c) ∷ [])
    ≡ Some (pointed_number (pos (((0 * 10 + a) * 10 + b) * 10 + c)))
three_digits a b c la lb lc =
    rw (
      digit_no_minus (48 + a) (digit_small a la),
      digit_small a la,
      digit_small b lb,
      digit_small c lc,
      digit_is a la,
      digit_is b lb,
      digit_is c lc,
    ) refl

-- as a token
percent_word : (p : ℕ) → p ≤ 150 → IsTokenWord (pointed_token (pos p)) (percent p)
unfolding percent
percent_word p l =
    let a = p / 100 in
    let b = p / 10 % 10 in
    let c = p % 10 in
    let la : a < 10 = omega arith in
    let lb : b < 10 = omega arith in
    let lc : c < 10 = omega arith in
    let sum : ((0 * 10 + a) * 10 + b) * 10 + c ≡ p = omega arith in
    let small : is_near_hundredths (pos p) ≡ true = grind (arith, ints) in
    let token : word_token ((48 + a) ∷ 46 ∷ (48 + b) ∷ (48 + c) ∷ []) ≡ Some (pointed_token (pos p)) =
    rw (three_digits a b c la lb lc, sum, small) refl in
    rw (decimal_digit a la)
    (record { some = omega arith; regular = simp (digit_regular, digit_small, la, lb, lc); token = token })

-- the text of the procedure that begins a page
pg_text : Frame → List ℕ
pg_text f =
    ((((codes "gsave 0.01 0.01 scale " ++ numbers (pos f.left ∷ pos f.bottom ∷ [])) ++ codes "translate ")
    ++ (percent f.scale ++ 32 ∷ []))
    ++ (percent f.scale ++ 32 ∷ []))
    ++ codes "scale 60 setlinewidth /EngFont findfont 900 scalefont "

pg_lexed : (f : Frame)
    → IsFrame f → (rest : List ℕ) → Body ((pg_text f ++ codes "setfont") ++ 125 ∷ rest) (pg_body f) rest
unfolding pg_text
pg_lexed f fr rest =
    let percent_piece : Lexes (percent f.scale ++ 32 ∷ []) (pointed_token (pos f.scale) ∷ []) =
    lex_one (word_stands (percent_word f.scale fr.greatest_scale)) space_passed in
    let near_left : is_near (pos f.left) ≡ true = grind (arith, ints) in
    let near_bottom : is_near (pos f.bottom) ≡ true = grind (arith, ints) in
    let opened = lexed (codes "gsave 0.01 0.01 scale ")
    (op gsave_op ∷ pointed_token (pos 1) ∷ pointed_token (pos 1) ∷ op scale_op ∷ []) refl refl in
    let placed = both_lexed
    (both_lexed opened (lex_numbers (pos f.left ∷ pos f.bottom ∷ []) (rw (near_left, near_bottom) refl)))
    (lexed (codes "translate ") (op translate_op ∷ []) refl refl) in
    let scaled = both_lexed (both_lexed placed percent_piece) percent_piece in
    let last = lexed (codes "scale 60 setlinewidth /EngFont findfont 900 scalefont ")
    (op scale_op ∷ whole_token (pos line_width) ∷ op setlinewidth_op ∷ label_token (codes "EngFont") ∷ op findfont_op
    ∷ whole_token small_height ∷ op scalefont_op ∷ [])
    refl refl in
    ends (both_lexed scaled last) (piece_stands (codes "setfont") (op setfont_op) refl) rest

with_first : (x : ℕ) (a b : List ℕ) → (x ∷ a) ++ b ≡ x ∷ (a ++ b)
with_first x a b = refl

pg_parts : (o l b t p z e d : List ℕ) → (o ++ ((((l ++ 32 ∷ b) ++ 32 ∷ t) ++ p) ++ 32 ∷ p)) ++ 32 ∷ (z ++ (e ++ d))
    ≡ ((((((o ++ ((l ++ 32 ∷ []) ++ ((b ++ 32 ∷ []) ++ []))) ++ t) ++ (p ++ 32 ∷ [])) ++ (p ++ 32 ∷ [])) ++ z) ++ e)
    ++ d
pg_parts o l b t p z e d = simp (append_assoc, with_first)

pg_definition : (f : Frame)
    → page_line f.left f.bottom f.scale ++ 10 ∷ [] ≡ definition (codes "pg") (pg_text f ++ codes "setfont")
unfolding page_line page_start scaling page_end pg_text numbers
pg_definition f =
    rw (append_assoc (page_start ++ scaling f.left f.bottom f.scale) page_end (10 ∷ [])) (ap (λ x. codes "/pg {" ++ x)
    (pg_parts (codes "gsave 0.01 0.01 scale ") (decimal f.left) (decimal f.bottom) (codes "translate ")
    (percent f.scale)
    (codes "scale 60 setlinewidth /EngFont findfont 900 scalefont ") (codes "setfont") (codes "} def\n")))

procedures_many : 2 ≤ length procedures
unfolding procedures
procedures_many = omega arith

glyphs_few : length glyphs_in_order ≤ 50
unfolding glyphs_in_order
glyphs_few = omega arith

few_tokens : (f : Frame) → ((((0 + 0) + 43) + 3) + 3 * length glyphs_in_order) + 0
    ≤ 100
    * length
    (((((first_text ++ (box_line f.wide f.high ++ 10 ∷ [])) ++ procedures)
    ++ (page_line f.left f.bottom f.scale ++ 10 ∷ []))
    ++ glyph_lines glyphs_in_order)
    ++ last_text)
few_tokens f =
    let heading = first_text ++ (box_line f.wide f.high ++ 10 ∷ []) in
    let start = page_line f.left f.bottom f.scale ++ 10 ∷ [] in
    let glyphs = glyph_lines glyphs_in_order in
    omega (
      arith,
      procedures_many,
      glyphs_few,
      length-append heading procedures,
      length-append (heading ++ procedures) start,
      length-append ((heading ++ procedures) ++ start) glyphs,
      length-append (((heading ++ procedures) ++ start) ++ glyphs) last_text,
    )

-- a whole prolog; it has at least as many bytes as its fixed lines
prolog_parts : (f : Frame)
    → prolog f
    ≡ ((((first_text ++ (box_line f.wide f.high ++ 10 ∷ [])) ++ procedures)
    ++ (page_line f.left f.bottom f.scale ++ 10 ∷ []))
    ++ glyph_lines glyphs_in_order)
    ++ last_text
unfolding prolog heading
prolog_parts f =
    parts first_text (box_line f.wide f.high) procedures (page_line f.left f.bottom f.scale)
    (glyph_lines glyphs_in_order) last_text
  where
    parts : (a b c p g l : List ℕ)
        → ((((a ++ b) ++ 10 ∷ []) ++ c) ++ p) ++ (10 ∷ g) ++ l
        ≡ ((((a ++ (b ++ 10 ∷ [])) ++ c) ++ (p ++ 10 ∷ [])) ++ g) ++ l
    parts a b c p g l = simp append_assoc

pub prolog_taken : (f : Frame) → IsFrame f → Leads (prolog f) first_state (between (all_names f) [])
unfolding first_text last_text box_line box_start
prolog_taken f fr =
    let m = being no_names false in
    let box : Takes 0 (box_line f.wide f.high ++ 10 ∷ []) m m = takes_comment
    ((codes "%BoundingBox: 0 0 " ++ decimal f.wide) ++ 32 ∷ decimal f.high) m (two_in_line f.wide f.high) in
    let definition_of_page : Takes 3 (page_line f.left f.bottom f.scale ++ 10 ∷ []) (being with_fixed true)
    (being (with_pg f) true) =
    rw (pg_definition f)
    (takes_definition (codes "pg") (pg_text f ++ codes "setfont") (pg_body f) (being with_fixed true)
    (record { regular = refl; good = refl; other = refl }) (pg_lexed f fr) refl) in
    let glyphs = glyphs_taken glyphs_in_order (with_pg f) refl in
    let first = takes_comment (codes "!PS-Adobe-3.0") m refl in
    let last = takes_comment (codes "%EndProlog") (being (all_names f) true) refl in
    let all = both_taken
    (both_taken (both_taken (both_taken (both_taken first box) procedures_taken) definition_of_page) glyphs) last in
    rw (prolog_parts f)
    (record { count = ((((0 + 0) + 43) + 3) + 3 * length glyphs_in_order) + 0; few = few_tokens f; takes = all })
