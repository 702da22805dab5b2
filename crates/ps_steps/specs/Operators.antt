-- What a token does to the state, and why it may not be executed. A number, a string, a label and a procedure are
-- pushed; the font's line makes the font; a name calls the procedure that it is defined as, or else is one of the
-- operators. An operator halts if it has too few operands (Stack), else if one is of another kind (Kind), and then
-- for its own causes. A number with a point is an operand of `scale` alone.
use Rattle.std.specs.Prelude.{ℕ, zero, suc, ℤ, pos, ◌+ℤ◌, ◌*ℤ◌, int_le, int_div, int_rem, Bool, true, false, ◌&&◌, List}
use Rattle.std.specs.Prelude.{[], ◌∷◌, ◌++◌, codes, Option, Some, None}
use Rattle.std.specs.Str.{bytes_eq}
use Rattle.std.specs.Map.{update}
use Rattle.ps_steps.specs.declared.halt.Cause.{Cause}
use Rattle.ps_steps.specs.declared.paint.Seg.{Seg}
use Rattle.ps_steps.specs.declared.paint.Paint.{Paint}
use Rattle.ps_steps.specs.Tokens.{SimpleToken, whole_token, pointed_token, far_token, words_token, label_token}
use Rattle.ps_steps.specs.Tokens.{name_token, font_token, MachineToken, simple_token, procedure_token}
use Rattle.ps_steps.specs.Near.{is_near}
use Rattle.ps_steps.specs.Points.{current}
use Rattle.ps_steps.specs.State.{Operand, whole_value, pointed_value, words_value, label_value, body_value, font_value}
use Rattle.ps_steps.specs.State.{Graphics, Names, State}

-- a token changes the state, and may call for the tokens of a procedure; or the run halts there
pub data Outcome : Type 0 where
  went : (body : List SimpleToken) (m : State) → Outcome
  halted : (cause : Cause) → Outcome

abbrev pub done : State → Outcome
done m = went [] m

-- a value is pushed
abbrev pub push : Operand → State → Outcome
push v m = done (record m { stack = v ∷ m.stack })

abbrev pub all_near : List ℤ → Bool
all_near [] = true
all_near (z ∷ zs) = is_near z && all_near zs

-- Range if a number exceeds 2^60 in size
abbrev pub in_range : List ℤ → Outcome → Outcome
in_range zs o = elim (all_near zs) [ true ↦ o | false ↦ halted Cause.Range ]

-- a coordinate: the origin's plus the scale times it
abbrev pub across : Graphics → ℤ → ℤ
across g x = g.x +ℤ (g.scale *ℤ x)

abbrev pub above : Graphics → ℤ → ℤ
above g y = g.y +ℤ (g.scale *ℤ y)

-- two whole numbers, the second on top
abbrev pub with_two : List Operand → State → (ℤ → ℤ → State → Outcome) → Outcome
with_two (whole_value y ∷ whole_value x ∷ st) m f = f x y (record m { stack = st })
with_two (b ∷ a ∷ st) m f = halted Cause.Kind
with_two st m f = halted Cause.Stack

-- whether there are at least this many values
abbrev pub has : ℕ → List Operand → Bool
has zero st = true
has (suc n) [] = false
has (suc n) (v ∷ st) = has n st

-- this many whole numbers from the top, before those already taken
abbrev pub pick : List ℤ → ℕ → List Operand → State → (List ℤ → State → Outcome) → Outcome
pick zs zero st m f = f zs (record m { stack = st })
pick zs (suc n) (whole_value z ∷ st) m f = pick (z ∷ zs) n st m f
pick zs (suc n) _ m f = halted Cause.Kind

-- six whole numbers, the last on top
abbrev pub with_six : List Operand → State → (List ℤ → State → Outcome) → Outcome
with_six st m f = elim (has 6 st) [ true ↦ pick [] 6 st m f | false ↦ halted Cause.Stack ]

-- a piece at the end of the path
abbrev pub add_seg : Seg → State → Outcome
add_seg s m = done (record m { now = record m.now { path = m.now.path ++ s ∷ [] } })

-- a piece to a point, if that is in range
abbrev pub moveto : ℤ → ℤ → State → Outcome
moveto x y m = in_range (across m.now x ∷ above m.now y ∷ []) (add_seg (Seg.Move (across m.now x) (above m.now y)) m)

-- continues if there is a current point, which there is exactly when the path isn't empty
abbrev pub at_point : List Seg → Outcome → Outcome
at_point [] o = halted Cause.Point
at_point (g ∷ path) o = o

abbrev pub lineto : ℤ → ℤ → State → Outcome
lineto x y m =
    at_point m.now.path
    (in_range (across m.now x ∷ above m.now y ∷ []) (add_seg (Seg.Line (across m.now x) (above m.now y)) m))

abbrev pub curveto : List ℤ → State → Outcome
curveto (a ∷ b ∷ c ∷ d ∷ x ∷ y ∷ []) m = at_point m.now.path
    (in_range (across m.now a ∷ above m.now b ∷ across m.now c ∷ above m.now d ∷ across m.now x ∷ above m.now y ∷ [])
    (add_seg
    (Seg.Curve (across m.now a) (above m.now b) (across m.now c) (above m.now d) (across m.now x) (above m.now y)) m))
curveto _ m = halted Cause.Stack

-- without a current point, a Close does nothing
abbrev pub close_path : List Seg → State → Outcome
close_path [] m = done m
close_path (g ∷ path) m = add_seg Seg.Close m

-- paints and empties the path
abbrev pub painted : Paint → State → Outcome
painted p m = done (record m { paints = m.paints ++ p ∷ []; now = record m.now { path = [] } })

abbrev pub fill : State → Outcome
fill m = painted (Paint.Fill m.now.path) m

-- the line width is painted times the scale
abbrev pub stroke : State → Outcome
stroke m = let w = m.now.line *ℤ m.now.scale in in_range (w ∷ []) (painted (Paint.Stroke w m.now.path) m)

-- the path and the graphics state that were saved last are restored
abbrev pub grestore : List Graphics → State → Outcome
grestore [] m = halted Cause.Restore
grestore (g ∷ gs) m = done (record m { now = g; saved = gs })

-- the origin moves by the scale times two numbers
abbrev pub translate : ℤ → ℤ → State → Outcome
translate x y m =
    in_range (across m.now x ∷ above m.now y ∷ [])
    (done (record m { now = record m.now { x = across m.now x; y = above m.now y } }))

-- a factor in hundredths
abbrev pub factor : Operand → Option ℤ
factor (whole_value z) = Some (z *ℤ pos 100)
factor (pointed_value z) = Some z
factor _ = None

abbrev pub same : ℤ → ℤ → Bool
same a b = int_le a b && int_le b a

-- the new scale, times 100, has to be a whole multiple of a hundred, at least one hundred
abbrev pub scaled : ℤ → State → Outcome
scaled p m = elim (same (int_rem p (pos 100)) (pos 0) && int_le (pos 100) p) [
  | true ↦ in_range (int_div p (pos 100) ∷ []) (done (record m { now = record m.now { scale = int_div p (pos 100) } }))
  | false ↦ halted Cause.Scale
]

-- both factors, in hundredths, if they are numbers
abbrev pub with_factors : Option ℤ → Option ℤ → State → Outcome
with_factors (Some a) (Some b) m = elim (same a b) [ true ↦ scaled (m.now.scale *ℤ a) m | false ↦ halted Cause.Scale ]
with_factors _ _ m = halted Cause.Kind

-- the scale is multiplied by a factor, which is on the stack twice
abbrev pub scale : List Operand → State → Outcome
scale (b ∷ a ∷ st) m = with_factors (factor a) (factor b) (record m { stack = st })
scale _ m = halted Cause.Stack

abbrev pub setlinewidth : List Operand → State → Outcome
setlinewidth (whole_value z ∷ st) m = done (record m { stack = st; now = record m.now { line = z } })
setlinewidth (v ∷ st) m = halted Cause.Kind
setlinewidth [] m = halted Cause.Stack

-- the font that was made, at size 1
abbrev pub findfont : List Operand → State → Outcome
findfont (label_value name ∷ st) m = elim (m.made && bytes_eq name (codes "EngFont")) [
  | true ↦ done (record m { stack = font_value (pos 1) ∷ st })
  | false ↦ halted Cause.Name
]
findfont (v ∷ st) m = halted Cause.Kind
findfont [] m = halted Cause.Stack

abbrev pub scalefont : List Operand → State → Outcome
scalefont (whole_value z ∷ font_value s ∷ st) m =
    in_range ((s *ℤ z) ∷ []) (done (record m { stack = font_value (s *ℤ z) ∷ st }))
scalefont (b ∷ a ∷ st) m = halted Cause.Kind
scalefont _ m = halted Cause.Stack

abbrev pub setfont : List Operand → State → Outcome
setfont (font_value s ∷ st) m = done (record m { stack = st; now = record m.now { font = s } })
setfont (v ∷ st) m = halted Cause.Kind
setfont [] m = halted Cause.Stack

-- words are shown at the current point, in the font size times the scale, and the path stays the same
abbrev pub shown_at : List ℕ → Option (ℤ × ℤ) → State → Outcome
shown_at words None m = halted Cause.Point
shown_at words (Some p) m =
    let size = m.now.font *ℤ m.now.scale in
    in_range (size ∷ []) (done (record m { paints = m.paints ++ Paint.Show size p.0 p.1 words ∷ [] }))

abbrev pub show : List Operand → State → Outcome
show (words_value words ∷ st) m = shown_at words (current m.now.path) (record m { stack = st })
show (v ∷ st) m = halted Cause.Kind
show [] m = halted Cause.Stack

-- a later definition replaces an earlier one
abbrev pub defined : List ℕ → List SimpleToken → Names → Names
defined name body names = update bytes_eq names name (Some body)

abbrev pub define : List Operand → State → Outcome
define (body_value body ∷ label_value name ∷ st) m = done (record m { stack = st; names = defined name body m.names })
define (b ∷ a ∷ st) m = halted Cause.Kind
define _ m = halted Cause.Stack

-- a page ends, and the rest of the state stays the same
abbrev pub showpage : State → Outcome
showpage m = done (record m { paints = []; pages = m.pages ++ record { paints = m.paints } ∷ [] })

pub data Operator : Type 0 where
  def_op : Operator
  moveto_op : Operator
  lineto_op : Operator
  curveto_op : Operator
  closepath_op : Operator
  fill_op : Operator
  stroke_op : Operator
  gsave_op : Operator
  grestore_op : Operator
  translate_op : Operator
  scale_op : Operator
  setlinewidth_op : Operator
  findfont_op : Operator
  scalefont_op : Operator
  setfont_op : Operator
  show_op : Operator
  showpage_op : Operator

abbrev pub operator_name : Operator → List ℕ
operator_name def_op = codes "def"
operator_name moveto_op = codes "moveto"
operator_name lineto_op = codes "lineto"
operator_name curveto_op = codes "curveto"
operator_name closepath_op = codes "closepath"
operator_name fill_op = codes "fill"
operator_name stroke_op = codes "stroke"
operator_name gsave_op = codes "gsave"
operator_name grestore_op = codes "grestore"
operator_name translate_op = codes "translate"
operator_name scale_op = codes "scale"
operator_name setlinewidth_op = codes "setlinewidth"
operator_name findfont_op = codes "findfont"
operator_name scalefont_op = codes "scalefont"
operator_name setfont_op = codes "setfont"
operator_name show_op = codes "show"
operator_name showpage_op = codes "showpage"

abbrev pub operators : List Operator
operators =
    def_op ∷ moveto_op ∷ lineto_op ∷ curveto_op ∷ closepath_op ∷ fill_op ∷ stroke_op ∷ gsave_op ∷ grestore_op
    ∷ translate_op ∷ scale_op ∷ setlinewidth_op ∷ findfont_op ∷ scalefont_op ∷ setfont_op ∷ show_op ∷ showpage_op ∷ []

abbrev pub found_in : List Operator → List ℕ → Option Operator
found_in [] name = None
found_in (o ∷ os) name = elim (bytes_eq (operator_name o) name) [ true ↦ Some o | false ↦ found_in os name ]

-- the operator with this name, if any
abbrev pub operator_named : List ℕ → Option Operator
operator_named name = found_in operators name

-- what an operator does
abbrev pub operated : Operator → State → Outcome
operated def_op m = define m.stack m
operated moveto_op m = with_two m.stack m moveto
operated lineto_op m = with_two m.stack m lineto
operated curveto_op m = with_six m.stack m curveto
operated closepath_op m = close_path m.now.path m
operated fill_op m = fill m
operated stroke_op m = stroke m
operated gsave_op m = done (record m { saved = m.now ∷ m.saved })
operated grestore_op m = grestore m.saved m
operated translate_op m = with_two m.stack m translate
operated scale_op m = scale m.stack m
operated setlinewidth_op m = setlinewidth m.stack m
operated findfont_op m = findfont m.stack m
operated scalefont_op m = scalefont m.stack m
operated setfont_op m = setfont m.stack m
operated show_op m = show m.stack m
operated showpage_op m = showpage m

abbrev pub operated_if : Option Operator → State → Outcome
operated_if None m = halted Cause.Name
operated_if (Some o) m = operated o m

-- a name calls the procedure that it is defined as, or else is an operator
abbrev pub called : Option (List SimpleToken) → List ℕ → State → Outcome
called (Some body) name m = went body m
called None name m = operated_if (operator_named name) m

abbrev pub executed : MachineToken → State → Outcome
executed (simple_token (whole_token z)) m = push (whole_value z) m
executed (simple_token (pointed_token z)) m = push (pointed_value z) m
executed (simple_token far_token) m = halted Cause.Range
executed (simple_token (words_token words)) m = push (words_value words) m
executed (simple_token (label_token name)) m = push (label_value name) m
executed (simple_token (name_token name)) m = called (m.names name) name m
executed (simple_token font_token) m = done (record m { made = true })
executed (procedure_token body) m = push (body_value body) m
