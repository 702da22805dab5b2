-- A line that may come leads on; if none of those in question may come, the step says so.
use Rattle.std.proofs.Common.{◌≡◌, ℕ, ℤ, ◌+◌, ◌<◌, ◌≤◌, ◌^◌, false, List, [], ◌∷◌, ◌++◌, length, Option, Some, None}
use Rattle.std.proofs.Common.{is_some, IsSome, refl, sym, ◌∙◌, ap, arith, codes, decimal, MatchOption, Result, Ok, Err}
use Rattle.std.proofs.Common.{IfOk}
use Rattle.std.proofs.lemmas.Fmt.{decimal_injective}
use mathlib.Core.List.{append_assoc}
use Rattle.mus_units.specs.declared.glyph.Size.{Size}
use Rattle.mus_units.specs.declared.text.Memory.{Memory}
use Rattle.glyph_paths.specs.Names.{glyphs_in_order}
use Rattle.ps_text.specs.Document.{rules_line, staff_line, join_line, system_line, title_line, tune_line, heading_line}
use Rattle.ps_text.specs.Document.{count_line}
use Rattle.ps_text.specs.Fields.{in_parentheses}
use Rattle.ps_text.specs.Line.{mark_line}
use Rattle.ps_text.specs.Prolog.{box_line, box_start, procedures, page_line, glyph_lines, last_text}
use Rattle.ps_text.specs.Range.{IsNumber, IsPageMark, IsTitle, IsFrame}
use Rattle.ps_text.specs.declared.marks.PageMark.{PageMark}
use Rattle.ps_text.specs.declared.sheet.Frame.{Frame}
use Rattle.ps_text.specs.declared.sheet.Staff.{Staff}
use Rattle.ps_text.specs.declared.sheet.Sheet.{Sheet}
use Rattle.ps_text.specs.declared.sheet.Item.{Item}
use Rattle.ps_text.specs.declared.prolog.TheConstants.{BOX}
use Rattle.ps_read.specs.Lines.{Line, line_text, after_line, IsFirstLine}
use Rattle.ps_read.specs.ReaderStates.{frame_from_numbers, with_item, with_page, staff_with_mark, system_with_staff}
use Rattle.ps_read.specs.ReaderStates.{with_join, IsUnderTop, MayCome, after_prolog, state_after}
use Rattle.ps_read.specs.Steps.{NoneOf, IsNextOf, IsStepOf, Any, IsItemLine, IsSystemLine, IsJoinLine, IsNoMark}
use Rattle.ps_read.specs.Titles.{title_of, joined_of, rules_of, IsMarkRead}
use Rattle.ps_read.specs.declared.lines.Title.{Title}
use Rattle.ps_read.specs.declared.state.Joined.{Joined}
use Rattle.ps_read.specs.declared.state.OpenPage.{OpenPage}
use Rattle.ps_read.specs.declared.state.OpenSystem.{OpenSystem}
use Rattle.ps_read.specs.declared.state.ReaderState.{ReaderState}
use Rattle.ps_read.proofs.Heads.{mark_start, join_start}
use Rattle.ps_read.specs.Lines as line
use Rattle.eng_lines.proofs.Words.{head_of, one_field, after_prefix}
use Rattle.eng_reader.proofs.Ways.{no_line}

-- two numbers after a prefix, or one, are determined by the text
pair_alone : (p : List ℕ) (a b c d : ℕ)
    → a < 2 ^ 32 → b < 2 ^ 32 → c < 2 ^ 32 → d < 2 ^ 32
    → p ++ decimal a ++ 32 ∷ decimal b ≡ p ++ decimal c ++ 32 ∷ decimal d
    → (a ≡ c) × (b ≡ d)
pair_alone p a b c d la lb lc ld e =
    let r = after_prefix p _ (decimal a ++ 32 ∷ decimal b) (decimal c ++ 32 ∷ decimal d)
    (append_assoc p (decimal a) (32 ∷ decimal b)) (e ∙ append_assoc p (decimal c) (32 ∷ decimal d)) in
    let f = one_field a c _ (decimal b) (decimal d) (omega (arith, la)) (omega (arith, lc)) refl r in
    (f.0, decimal_injective b d (omega (arith, lb)) (omega (arith, ld)) f.1)

one_alone : (p : List ℕ) (a b : ℕ) → a < 2 ^ 32 → b < 2 ^ 32 → p ++ decimal a ≡ p ++ decimal b → a ≡ b
one_alone p a b la lb e =
    decimal_injective a b (omega (arith, la)) (omega (arith, lb)) (after_prefix p _ (decimal a) (decimal b) refl e)

-- the lines of the prolog
pub on_titled : (raw : List ℕ) (w h : ℕ) (rest : List ℕ)
    → raw ≡ BOX.now ++ decimal w ++ 32 ∷ decimal h → w < 2 ^ 32 → h < 2 ^ 32 → rest ≡ procedures
    → IsNextOf Any ReaderState.Titled raw (ReaderState.Boxed w h rest)
unfolding box_line box_start
on_titled raw w h rest e lw lh is = record { line = line.Box w h; asked = tt; spelled = e; may = (lw, lh); only = only }
  where
    only : (m : Line) → Any m → raw ≡ line_text m → MayCome ReaderState.Titled m
        → state_after ReaderState.Titled m ≡ ReaderState.Boxed w h rest
    only (line.Box a b) u q k =
        let same = pair_alone BOX.now a b w h k.0 k.1 lw lh (sym q ∙ e) in grind (arith, same, is)
    only m u q k = absurd k

pub none_titled : (raw : List ℕ)
    → ((a b : ℕ) → a < 2 ^ 32 → b < 2 ^ 32 → raw ≡ BOX.now ++ decimal a ++ 32 ∷ decimal b → ⊥)
    → NoneOf Any ReaderState.Titled raw
unfolding box_line box_start
none_titled raw f (line.Box a b) u q k = f a b k.0 k.1 q
none_titled raw f m u q k = absurd k

pub on_boxed : (w h : ℕ) (rest raw more : List ℕ)
    → IsFirstLine raw rest → more ≡ after_line raw rest
    → IsNextOf Any (ReaderState.Boxed w h rest) raw (ReaderState.Boxed w h more)
on_boxed w h rest raw more e is =
    record { line = line.Fixed raw; asked = tt; spelled = refl; may = e; only = λ m u q k. grind (arith, no_line) }

pub on_framed : (f : Frame) (rest raw : List ℕ) (q : ReaderState)
    → IsFirstLine raw rest → q ≡ after_prolog f (after_line raw rest) → IsNextOf Any (ReaderState.Framed f rest) raw q
on_framed f rest raw p e is =
    record { line = line.Fixed raw; asked = tt; spelled = refl; may = e; only = λ m u q k. grind arith }

pub on_page_start : (w h l b s : ℕ) (raw rest : List ℕ) → raw ≡ page_line l b s → IsFrame (frame_from_numbers w h l b s)
    → ((x y z : ℕ) → x < 2 ^ 32 → y < 2 ^ 32 → z ≤ 150 → raw ≡ page_line x y z
    → ◌≡◌ {A = Option (ℕ × ℕ × ℕ)} (Some (l, b, s)) (Some (x, y, z)))
    → rest ≡ glyph_lines glyphs_in_order ++ last_text
    → IsNextOf Any (ReaderState.Boxed w h []) raw (ReaderState.Framed (frame_from_numbers w h l b s) rest)
on_page_start w h l b s raw rest e f one is =
    record { line = line.PageStart l b s; asked = tt; spelled = e; may = (refl, f); only = only }
  where
    only : (m : Line) → Any m → raw ≡ line_text m → MayCome (ReaderState.Boxed w h []) m
        → state_after (ReaderState.Boxed w h []) m ≡ ReaderState.Framed (frame_from_numbers w h l b s) rest
    only (line.PageStart x y z) u q k =
        let g = k.1 in let same = one x y z g.left g.bottom g.greatest_scale q in grind (arith, same, is)
    only m u q k = grind (arith, no_line)

-- the lines between pages
pub on_trailer : (s : Sheet) (raw : List ℕ)
    → raw ≡ codes "%%Trailer" → IsNextOf Any (ReaderState.Between s) raw (ReaderState.Trailer s)
unfolding heading_line
on_trailer s raw e =
    record { line = line.Fixed raw; asked = tt; spelled = refl; may = e; only = λ m u q k. grind arith }

pub on_heading : (s : Sheet) (raw : List ℕ)
    → raw ≡ heading_line (length s.pages + 1) → length s.pages + 1 < 2 ^ 32
    → IsNextOf Any (ReaderState.Between s) raw (ReaderState.Headed s)
unfolding heading_line
on_heading s raw e few = record {
  line = line.Heading (length s.pages + 1);
  asked = tt;
  spelled = e;
  may = (refl, few);
  only = λ m u q k. grind arith;
}

pub on_headed : (s : Sheet) (raw : List ℕ) (is : List Item)
    → raw ≡ codes "pg" → is ≡ []
    → IsNextOf Any (ReaderState.Headed s) raw (ReaderState.Items (record { sheet = s; items = is }))
on_headed s raw is e none =
    record { line = line.Fixed raw; asked = tt; spelled = refl; may = e; only = λ m u q k. grind arith }

pub on_closed : (p : OpenPage) (raw : List ℕ) (t : Sheet)
    → raw ≡ codes "showpage" → t ≡ with_page p → IsNextOf Any (ReaderState.Closed p) raw (ReaderState.Between t)
on_closed p raw t e is =
    record { line = line.Fixed raw; asked = tt; spelled = refl; may = e; only = λ m u q k. grind arith }

pub on_count : (s : Sheet) (raw : List ℕ)
    → raw ≡ count_line (length s.pages) → IsNextOf Any (ReaderState.Trailer s) raw (ReaderState.Counted s)
on_count s raw e = record { line = line.Fixed raw; asked = tt; spelled = refl; may = e; only = λ m u q k. grind arith }

-- the lines of items
pub on_system : (p : OpenPage) (raw : List ℕ) (a b : ℕ) (ss : List Staff)
    → raw ≡ codes "% system " ++ decimal a ++ 32 ∷ decimal b → a < 2 ^ 32 → b < 2 ^ 32 → a < b → ss ≡ []
    → IsNextOf IsSystemLine (ReaderState.Items p) raw
    (ReaderState.System (record { page = p; a = a; b = b; join = None; staves = ss }))
unfolding system_line
on_system p raw a b ss e la lb l none = record {
  line = line.System a b;
  asked = tt;
  spelled = e;
  may = (l, lb);
  only = λ m u q k. grind (arith, pair_alone (codes "% system "));
}

pub none_system : (p : OpenPage) (raw : List ℕ)
    → ((a b : ℕ) → a < b → b < 2 ^ 32 → raw ≡ codes "% system " ++ decimal a ++ 32 ∷ decimal b → ⊥)
    → NoneOf IsSystemLine (ReaderState.Items p) raw
unfolding system_line
none_system p raw f (line.System a b) u q k = f a b k.0 k.1 q
none_system p raw f m u q k = absurd u

pub not_rising : (raw : List ℕ) (a b c d : ℕ)
    → raw ≡ codes "% system " ++ decimal a ++ 32 ∷ decimal b → a < 2 ^ 32 → b < 2 ^ 32 → b ≤ a → c < d → d < 2 ^ 32
    → raw ≡ codes "% system " ++ decimal c ++ 32 ∷ decimal d
    → ⊥
not_rising raw a b c d e la lb ge l ld q =
    let f = pair_alone (codes "% system ") c d a b (omega (arith, l, ld)) ld la lb (sym q ∙ e) in grind (arith, f)

pub on_grestore : (p : OpenPage) (raw : List ℕ)
    → raw ≡ codes "grestore" → IsNextOf IsItemLine (ReaderState.Items p) raw (ReaderState.Closed p)
unfolding tune_line system_line
on_grestore p raw e =
    record { line = line.Fixed raw; asked = tt; spelled = refl; may = e; only = λ m u q k. grind arith }

pub on_tune : (p : OpenPage) (raw : List ℕ) (n : ℕ) (r : OpenPage)
    → raw ≡ codes "% tune " ++ decimal n → n < 2 ^ 32 → 1 ≤ n → r ≡ with_item p (Item.Tune n)
    → IsNextOf IsItemLine (ReaderState.Items p) raw (ReaderState.Items r)
unfolding tune_line system_line
on_tune p raw n r e l some is = record {
  line = line.Tune n;
  asked = tt;
  spelled = e;
  may = record { low = some; high = l };
  only = λ m u q k. grind (arith, one_alone (codes "% tune "));
}

pub none_tune_zero : (p : OpenPage) (raw : List ℕ)
    → raw ≡ codes "% tune " ++ decimal 0 → NoneOf IsItemLine (ReaderState.Items p) raw
unfolding tune_line system_line
none_tune_zero p raw e (line.Tune j) u q k =
    let l = k.low in let f = one_alone (codes "% tune ") j 0 k.high (omega arith) (sym q ∙ e) in omega (arith, l, f)
none_tune_zero p raw e m u q k = grind (arith, e, q)

-- a line that is no tune and doesn't end the page may be a system
pub from_system : (p : OpenPage) (raw : List ℕ) (o : Option ReaderState)
    → (raw ≡ codes "grestore" → ⊥) → ((a : ℕ) → a < 2 ^ 32 → raw ≡ codes "% tune " ++ decimal a → ⊥)
    → IsStepOf IsSystemLine (ReaderState.Items p) raw o → IsStepOf IsItemLine (ReaderState.Items p) raw o
unfolding tune_line
from_system p raw None g t h = λ m u q k. grind (arith, g, t, h)
from_system p raw (Some r) g t h = record {
  line = h.line;
  asked = grind (arith, h.asked);
  spelled = h.spelled;
  may = h.may;
  only = λ m u q k. grind (arith, g, t, h.only);
}

pub on_title : (p : OpenPage) (raw : List ℕ) (t : Title) (r : OpenPage)
    → raw ≡ title_line t.x t.y t.size t.text → IsTitle t.x t.y t.text
    → ((x y : ℤ) (size : Size) (words : List ℕ)
    → IsTitle x y words → raw ≡ title_line x y size words → t ≡ title_of x y size words)
    → r ≡ with_item p (Item.Title t.x t.y t.size t.text) → IsNextOf Any (ReaderState.Items p) raw (ReaderState.Items r)
unfolding tune_line system_line title_line in_parentheses
on_title p raw t r e g one is =
    record { line = line.Title t.x t.y t.size t.text; asked = tt; spelled = e; may = g; only = only }
  where
    only : (m : Line) → Any m → raw ≡ line_text m → MayCome (ReaderState.Items p) m
        → state_after (ReaderState.Items p) m ≡ ReaderState.Items r
    only (line.Title x y size words) u q k = let same = one x y size words k q in grind (arith, same, is)
    only m u q k = grind (arith, e, q, k)

-- the lines of systems
pub on_join : (o : OpenSystem) (raw : List ℕ) (j : Joined) (r : OpenSystem)
    → is_some o.join ≡ false → raw ≡ join_line j.top j.foot → IsNumber j.top → IsNumber j.foot
    → ((top foot : ℤ) → IsNumber top → IsNumber foot → raw ≡ join_line top foot → j ≡ joined_of top foot)
    → r ≡ with_join o j.top j.foot
    → IsNextOf IsJoinLine (ReaderState.System o) raw (ReaderState.System r)
on_join o raw j r none e top foot one is = record {
  line = line.Join j.top j.foot;
  asked = tt;
  spelled = e;
  may = (grind (arith, none), top, foot);
  only = λ m u q k. grind (arith, one, is);
}

pub on_first_staff : (o : OpenSystem) (raw : List ℕ)
    → raw ≡ staff_line 0 → IsNextOf Any (ReaderState.System o) raw (ReaderState.Staff o)
unfolding staff_line
on_first_staff o raw e = record { line = line.StaffHead 0; asked = tt; spelled = e; may = refl; only = only }
  where
    only : (m : Line) → Any m → raw ≡ line_text m → MayCome (ReaderState.System o) m
        → state_after (ReaderState.System o) m ≡ ReaderState.Staff o
    only (line.Join x y) u q k = absurd ((join_start x y).0 (ap head_of (sym q ∙ e)))
    only m u q k = grind arith

pub on_rules : (o : OpenSystem) (raw : List ℕ) (w : ℕ) (y : ℤ)
    → raw ≡ rules_line w y → 1 ≤ w → w ≤ 2 ^ 31 → IsNumber y → IsUnderTop o.join o.staves y
    → ((v : ℕ) (z : ℤ) → 1 ≤ v → v ≤ 2 ^ 31 → IsNumber z → raw ≡ rules_line v z → rules_of w y ≡ rules_of v z)
    → IsNextOf Any (ReaderState.Staff o) raw (ReaderState.Marks o (record { y = y; width = w; marks = [] }))
on_rules o raw w y e some wide number under one = record {
  line = line.Rules w y;
  asked = tt;
  spelled = e;
  may = (some, wide, number, under);
  only = λ m u q k. grind (arith, one);
}

pub on_next_staff : (o : OpenSystem) (s : Staff) (raw : List ℕ) (r : OpenSystem)
    → raw ≡ staff_line (length o.staves + 1) → IsSome o.join → r ≡ system_with_staff o s
    → IsNextOf IsNoMark (ReaderState.Marks o s) raw (ReaderState.Staff r)
unfolding staff_line tune_line system_line
on_next_staff o s raw r e some is = record {
  line = line.StaffHead (length o.staves + 1);
  asked = tt;
  spelled = e;
  may = (some, refl);
  only = λ m u q k. grind arith;
}

pub none_next_staff : (o : OpenSystem) (s : Staff) (raw : List ℕ)
    → raw ≡ staff_line (length o.staves + 1) → (IsSome o.join → ⊥) → NoneOf IsNoMark (ReaderState.Marks o s) raw
unfolding staff_line tune_line system_line
none_next_staff o s raw e none m u q k = grind (arith, e, q, none)

pub on_mark : (o : OpenSystem) (s : Staff) (raw : List ℕ) (m : PageMark) (r : Staff)
    → raw ≡ mark_line s.y m → IsPageMark s.y m
    → ((k : PageMark) → IsPageMark s.y k → raw ≡ mark_line s.y k → k ≡ m)
    → r ≡ staff_with_mark s m
    → IsNextOf Any (ReaderState.Marks o s) raw (ReaderState.Marks o r)
unfolding staff_line tune_line system_line
on_mark o s raw m r e g one is =
    record { line = line.Mark s.y m; asked = tt; spelled = e; may = (refl, g); only = only }
  where
    only : (l : Line) → Any l → raw ≡ line_text l → MayCome (ReaderState.Marks o s) l
        → state_after (ReaderState.Marks o s) l ≡ ReaderState.Marks o r
    only (line.Mark y k) u q h = let same = one k h.1 (q ∙ ap (λ y. mark_line y k) h.0) in grind (arith, same, is)
    only l u q h = let start = mark_start s.y m in let same = ap head_of (sym e ∙ q) in grind (arith, start, same, h)

-- what is known of the mark of a line, with the sides of the equation of its text swapped
pub mark_read : (y : ℤ) (raw : List ℕ) (r : Result (Option PageMark) Memory)
    → IfOk r (λ o.
    MatchOption o ((m : PageMark) → IsPageMark y m → mark_line y m ≡ raw → ⊥)
    (λ m. IsPageMark y m × (mark_line y m ≡ raw)))
    → IfOk r (λ o. (m : PageMark) → IsPageMark y m → mark_line y m ≡ raw → o ≡ Some m) → IfOk r (IsMarkRead y raw)
mark_read y raw (Ok None) h k = λ m g e. h m g (sym e)
mark_read y raw (Ok (Some m)) h k = (h.0, sym h.1, λ n g e. let same = k n g (sym e) in grind (arith, same))
mark_read y raw (Err e) h k = tt
