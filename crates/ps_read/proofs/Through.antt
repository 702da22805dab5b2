-- The lines of a document are good, each after those before it.
use Rattle.std.proofs.Common.{◌≡◌, ◌≢◌, ℕ, ℤ, pos, suc, ◌+◌, ◌<◌, ◌≤◌, ◌^◌, ◌+ℤ◌, ◌⊎◌, inl, inr, Bool, true, false}
use Rattle.std.proofs.Common.{◌==◌, List, [], ◌∷◌, ◌++◌, length, drop, Some, refl, sym, ◌∙◌, ap, subst, arith, codes}
use Rattle.std.proofs.Common.{All, length-append, true≢false, eq-eqb, eqb-true}
use Rattle.std.proofs.lemmas.List.Elements.{All-head, All-tail}
use Rattle.std.specs.Prelude.{⊤}
use mathlib.Core.List.{append_assoc, append-nil}
use Rattle.{glyph_paths.specs.Names.{glyphs_in_order}}
use Rattle.mus_units.specs.Distances.{top_line}
use Rattle.ps_text.specs.Document.{numbered, mark_text, marks_text, staff_line, staff_text, last_base, join_text}
use Rattle.ps_text.specs.Document.{system_text, tune_text, title_text, item_text, items_text, heading_text, closing}
use Rattle.ps_text.specs.Document.{document_page, count_line, trailer, document, SpellsSheet}
use Rattle.ps_text.specs.Prolog.{heading, procedures, glyph_lines, last_text, prolog}
use Rattle.ps_text.specs.Range.{IsNumber, IsPageMark, IsStaff, IsSystemItem, IsItem, InOrder, IsPage, IsFrame}
use Rattle.ps_text.specs.declared.marks.PageMark.{PageMark}
use Rattle.ps_text.specs.declared.sheet.Frame.{Frame}
use Rattle.ps_text.specs.declared.sheet.Staff.{Staff}
use Rattle.ps_text.specs.declared.sheet.Item.{Item}
use Rattle.ps_text.specs.declared.sheet.Page.{Page}
use Rattle.ps_text.specs.declared.sheet.Sheet.{Sheet}
use Rattle.eng_lines.specs.Lines.{Lacks}
use Rattle.eng_reader.specs.{Grammar.{lines_then, Leads}, Answers.{IsGoodThroughout}}
use Rattle.eng_reader.proofs.Ways.{lines_both, lines_on, leads_both}
use Rattle.ps_read.specs.Lines.{Line, line_text, IsFirstLine}
use Rattle.ps_read.specs.ReaderStates.{with_item, open_system, system_ended, IsUnderTop, MayEnd, MayCome, after_prolog}
use Rattle.ps_read.specs.ReaderStates.{state_after, documents}
use Rattle.ps_read.specs.Steps.{IsItemLine}
use Rattle.ps_read.specs.declared.state.Joined.{Joined}
use Rattle.ps_read.specs.declared.state.OpenPage.{OpenPage}
use Rattle.ps_read.specs.declared.state.OpenSystem.{OpenSystem}
use Rattle.ps_read.specs.declared.state.ReaderState.{ReaderState}
use Rattle.ps_read.proofs.Telling.{first_reported}
use Rattle.ps_read.specs.Lines as line

-- good lines lead from one state to another, and this is their text
record Way (p q : ReaderState) (t : List ℕ) : Type 0 where
  lines : List Line
  text : t ≡ lines_then line_text lines []
  leads : Leads documents p lines q

way_both : {p q r : ReaderState} {s t : List ℕ} → Way p q s → Way q r t → Way p r (s ++ t)
way_both {p} {q} {r} {s} {t} a b = record {
  lines = a.lines ++ b.lines;
  text =
      ap (λ s. s ++ t) a.text
      ∙ (ap (λ t. lines_then line_text a.lines [] ++ t) b.text
      ∙ (lines_on line_text a.lines (lines_then line_text b.lines []) ∙ sym (lines_both line_text a.lines b.lines [])));
  leads = leads_both documents p a.lines q b.lines r a.leads b.leads;
}

way_none : (p : ReaderState) → Way p p []
way_none p = record { lines = []; text = refl; leads = refl }

way_line : (p : ReaderState) (l : Line) → MayCome p l → Way p (state_after p l) (line_text l ++ 10 ∷ [])
way_line p l m = record { lines = l ∷ []; text = refl; leads = (m, refl) }

way_as : {p q r : ReaderState} {s t : List ℕ} → Way p q s → q ≡ r → s ≡ t → Way p r t
way_as {p} w e f =
    record { lines = w.lines; text = sym f ∙ w.text; leads = subst (Leads documents p w.lines) e w.leads }

-- the fixed lines of the prolog
abbrev lines_of : List (List ℕ) → List ℕ
lines_of [] = []
lines_of (t ∷ ts) = t ++ 10 ∷ lines_of ts

abbrev AllLack : List (List ℕ) → Type 0
AllLack [] = ⊤
AllLack (t ∷ ts) = Lacks 10 t × AllLack ts

abbrev ends_line : List ℕ → Bool
ends_line [] = true
ends_line (x ∷ []) = x == 10
ends_line (x ∷ y ∷ xs) = ends_line (y ∷ xs)

abbrev IsLined : List ℕ → Type 0
IsLined t = (ts : List (List ℕ)) × (t ≡ lines_of ts) × AllLack ts

begun_line : (x : ℕ) (xs : List ℕ)
    → x ≢ 10 → (ts : List (List ℕ)) → xs ≡ lines_of ts → AllLack ts → (length xs ≡ 0 → ⊥) → IsLined (x ∷ xs)
begun_line x xs ne [] e h some = absurd (some (ap length e))
begun_line x xs ne (t ∷ ts) e h some = ((x ∷ t) ∷ ts, ap (λ xs. x ∷ xs) e, ((ne, h.0), h.1))

lined : (t : List ℕ) → ends_line t ≡ true → IsLined t
lined [] e = ([], refl, tt)
lined (x ∷ []) e = ([] ∷ [], ap (λ x. x ∷ []) (eqb-true x 10 e), (tt, tt))
lined (x ∷ y ∷ xs) e = at (x == 10) refl (lined (y ∷ xs) e)
  where
    at : (b : Bool) → (x == 10) ≡ b → IsLined (y ∷ xs) → IsLined (x ∷ y ∷ xs)
    at true is h = ([] ∷ h.0, ap (λ x. x ∷ y ∷ xs) (eqb-true x 10 is) ∙ ap (λ t. 10 ∷ t) h.1, (tt, h.2))
    at false is h = begun_line x (y ∷ xs) (λ q. true≢false (sym (eq-eqb x 10 q) ∙ is)) h.0 h.1 h.2 (λ n. omega arith)

ends_after : (s : List ℕ) (y : ℕ) (t : List ℕ) → ends_line (y ∷ t) ≡ true → ends_line (s ++ (y ∷ t)) ≡ true
ends_after [] y t e = e
ends_after (x ∷ []) y t e = e
ends_after (x ∷ z ∷ s) y t e = ends_after (z ∷ s) y t e

drop_line : (t r : List ℕ) → drop (length t + 1) (t ++ 10 ∷ r) ≡ r
drop_line [] r = refl
drop_line (x ∷ t) r =
    let e : suc (length t) + 1 ≡ suc (length t + 1) = omega arith in
    ap (λ n. drop n (x ∷ (t ++ 10 ∷ r))) e ∙ drop_line t r

first_line : (t r : List ℕ) → Lacks 10 t → IsFirstLine t (t ++ 10 ∷ r)
first_line t r h = record { whole = h; first = ap (λ r. t ++ 10 ∷ r) (sym (drop_line t r)) }

-- in a state that holds what is left of a fixed text, the lines of that text come
fixed_lines : (at : List ℕ → ReaderState)
    → ((t r : List ℕ) → Lacks 10 t → Way (at (t ++ 10 ∷ r)) (at r) (t ++ 10 ∷ []))
    → (ts : List (List ℕ)) → AllLack ts
    → Way (at (lines_of ts)) (at []) (lines_of ts)
fixed_lines at one [] l = way_none (at [])
fixed_lines at one (t ∷ ts) l =
    way_as (way_both (one t (lines_of ts) l.0) (fixed_lines at one ts l.1)) refl
    (append_assoc t (10 ∷ []) (lines_of ts))

fixed_way : (at : List ℕ → ReaderState)
    → ((t r : List ℕ) → Lacks 10 t → Way (at (t ++ 10 ∷ r)) (at r) (t ++ 10 ∷ []))
    → (t : List ℕ) → ends_line t ≡ true
    → Way (at t) (at []) t
fixed_way at one t e =
    let l = lined t e in
    let P : List ℕ → Type 0 = λ t. Way (at t) (at []) t in
    subst P (sym l.1) (fixed_lines at one l.0 l.2)

in_box : (w h : ℕ) (t r : List ℕ)
    → Lacks 10 t → Way (ReaderState.Boxed w h (t ++ 10 ∷ r)) (ReaderState.Boxed w h r) (t ++ 10 ∷ [])
in_box w h t r l =
    way_as (way_line (ReaderState.Boxed w h (t ++ 10 ∷ r)) (line.Fixed t) (first_line t r l))
    (ap (ReaderState.Boxed w h) (drop_line t r)) refl

in_frame : (f : Frame) (t r : List ℕ)
    → Lacks 10 t → Way (after_prolog f (t ++ 10 ∷ r)) (after_prolog f r) (t ++ 10 ∷ [])
in_frame f [] r l = way_line (ReaderState.Framed f (10 ∷ r)) (line.Fixed []) (first_line [] r l)
in_frame f (x ∷ t) r l =
    way_as (way_line (ReaderState.Framed f (x ∷ t ++ 10 ∷ r)) (line.Fixed (x ∷ t)) (first_line (x ∷ t) r l))
    (ap (after_prolog f) (drop_line (x ∷ t) r)) refl

procedures_lined : ends_line procedures ≡ true
unfolding procedures
procedures_lined = refl

last_lined : (s : List ℕ) → ends_line (s ++ last_text) ≡ true
unfolding last_text
last_lined s = ends_after s _ _ refl

last_left : (f : Frame) (s : List ℕ) → ReaderState.Framed f (s ++ last_text) ≡ after_prolog f (s ++ last_text)
unfolding last_text
last_left f [] = refl
last_left f (x ∷ s) = refl

prolog_way : (f : Frame)
    → IsFrame f → Way ReaderState.Begun (ReaderState.Between (record { frame = f; pages = [] })) (prolog f)
unfolding prolog heading
prolog_way f h =
    let w = f.wide in let k = f.high in let r = glyph_lines glyphs_in_order in
    way_as (way_both
    (way_as (way_line ReaderState.Begun (line.Fixed (codes "%!PS-Adobe-3.0")) refl) refl first_reported)
    (way_both (way_line ReaderState.Titled (line.Box w k) (h.wide, h.high))
    (way_both (fixed_way (ReaderState.Boxed w k) (in_box w k) procedures procedures_lined)
    (way_both
    (way_as (way_line (ReaderState.Boxed w k []) (line.PageStart f.left f.bottom f.scale) (refl, h)) (last_left f r)
    refl)
    (fixed_way (after_prolog f) (in_frame f) (r ++ last_text) (last_lined r)))))) refl (simp append_assoc)

-- a staff
abbrev staff_of : ℤ → ℕ → List PageMark → Staff
staff_of y w ms = record { y = y; width = w; marks = ms }

marks_way : (o : OpenSystem) (y : ℤ) (w : ℕ) (done ms : List PageMark)
    → All (IsPageMark y) ms
    → Way (ReaderState.Marks o (staff_of y w done)) (ReaderState.Marks o (staff_of y w (done ++ ms))) (marks_text y ms)
unfolding marks_text mark_text
marks_way o y w done [] h =
    way_as (way_none (ReaderState.Marks o (staff_of y w done)))
    (ap (λ ms. ReaderState.Marks o (staff_of y w ms)) (sym (append-nil done))) refl
marks_way o y w done (m ∷ ms) h =
    way_as (way_both
    (way_line (ReaderState.Marks o (staff_of y w done)) (line.Mark y m) (refl, All-head (IsPageMark y) m ms h))
    (marks_way o y w (done ++ m ∷ []) ms (All-tail (IsPageMark y) m ms h)))
    (ap (λ ms. ReaderState.Marks o (staff_of y w ms)) (append_assoc done (m ∷ []) ms)) refl

-- from the state in which the number of a staff may come to the end of its marks
staff_way : (p : ReaderState) (o : OpenSystem) (s : Staff) (k : ℕ)
    → Way p (ReaderState.Staff o) (staff_line k ++ 10 ∷ []) → IsStaff s → IsUnderTop o.join o.staves s.y
    → Way p (ReaderState.Marks o s) (staff_text k s)
unfolding staff_text
staff_way p o s k way h u =
    way_as (way_both way
    (way_both (way_line (ReaderState.Staff o) (line.Rules s.width s.y) (h.some, h.wide, h.base, u))
    (marks_way o s.y s.width [] s.marks h.drawn)))
    refl (simp append_assoc)

-- a system that ends the page so far
abbrev EndsAs : OpenSystem → Staff → OpenPage → Type 0
EndsAs o s p = MayEnd o.join o.staves s.y × (system_ended o s ≡ p)

abbrev joined_system : OpenPage → ℕ → ℕ → Joined → List Staff → OpenSystem
joined_system p a b j ss = record { page = p; a = a; b = b; join = Some j; staves = ss }

under_later : (j : Joined) (done : List Staff) (s : Staff) (y : ℤ) → IsUnderTop (Some j) (done ++ s ∷ []) y
under_later j [] s y = tt
under_later j (t ∷ done) s y = tt

staves_way : (p : OpenPage) (a b : ℕ) (j : Joined) (done : List Staff) (s : Staff) (us : List Staff)
    → All IsStaff us → last_base s us ≡ j.foot → 1 ≤ length done + length us
    → (o : OpenSystem)
    × (t : Staff)
    × Way (ReaderState.Marks (joined_system p a b j done) s) (ReaderState.Marks o t)
    (numbered staff_text (length done + 1) us)
    × EndsAs o t (with_item p (Item.System a b ((done ++ s ∷ []) ++ us)))
staves_way p a b j done s [] h foot some =
    let o = joined_system p a b j done in (
      o,
      s,
      way_none (ReaderState.Marks o s),
      ((omega arith, foot), ap (λ ss. with_item p (Item.System a b ss)) (sym (append-nil (done ++ s ∷ [])))),
    )
staves_way p a b j done s (u ∷ us) h foot some =
    let n = length-append done (s ∷ []) in
    let more = staves_way p a b j (done ++ s ∷ []) u us (All-tail IsStaff u us h) foot (omega (arith, n)) in
    let e : length (done ++ s ∷ []) + 1 ≡ length done + 1 + 1 = omega (arith, n) in
    let here = ReaderState.Marks (joined_system p a b j done) s in (
      more.0,
      more.1,
      way_both
          (staff_way here (joined_system p a b j (done ++ s ∷ [])) u (length done + 1)
          (way_line here (line.StaffHead (length done + 1)) (refl, refl)) (All-head IsStaff u us h)
          (under_later j done s u.y))
          (way_as more.2 refl (ap (λ k. numbered staff_text k us) e)),
      (more.3.0, more.3.1 ∙ ap (λ ss. with_item p (Item.System a b ss)) (append_assoc (done ++ s ∷ []) (u ∷ []) us)),
    )

foot_number : (s : Staff) (us : List Staff) → All IsStaff (s ∷ us) → IsNumber (last_base s us)
foot_number s [] h = (All-head IsStaff s [] h).base
foot_number s (u ∷ us) h = foot_number u us (All-tail IsStaff s (u ∷ us) h)

system_way : (p : OpenPage) (a b : ℕ) (ss : List Staff)
    → IsSystemItem a b ss
    → (o : OpenSystem)
    × (t : Staff)
    × Way (ReaderState.System (open_system p a b)) (ReaderState.Marks o t) (join_text ss ++ numbered staff_text 0 ss)
    × EndsAs o t (with_item p (Item.System a b ss))
system_way p a b [] h = let some = h.some in absurd (omega (arith, some))
system_way p a b (s ∷ []) h =
    let o = open_system p a b in (
      o,
      s,
      way_as (staff_way (ReaderState.System o) o s 0 (way_line (ReaderState.System o) (line.StaffHead 0) refl)
          (All-head IsStaff s [] h.good) tt)
          refl (sym (append-nil (staff_text 0 s))),
      (tt, refl),
    )
system_way p a b (s ∷ u ∷ us) h =
    let top = s.y +ℤ pos top_line in
    let foot = last_base u us in
    let j : Joined = record { top = top; foot = foot } in
    let o = joined_system p a b j [] in
    let more = staves_way p a b j [] s (u ∷ us) (All-tail IsStaff s (u ∷ us) h.good) refl (omega arith) in (
      more.0,
      more.1,
      way_both
          (way_line (ReaderState.System (open_system p a b)) (line.Join top foot)
          (refl, h.joined, foot_number s (u ∷ us) h.good))
          (way_both
          (staff_way (ReaderState.System o) o s 0 (way_line (ReaderState.System o) (line.StaffHead 0) refl)
          (All-head IsStaff s (u ∷ us) h.good) refl)
          more.2),
      more.3,
    )

-- lines other than titles may come in this state as on the page
abbrev IsLike : OpenPage → ReaderState → Type 0
IsLike p q =
    (l : Line) → IsItemLine l → MayCome (ReaderState.Items p) l
    → MayCome q l × (state_after q l ≡ state_after (ReaderState.Items p) l)

like_itself : (p : OpenPage) → IsLike p (ReaderState.Items p)
like_itself p l i m = (m, refl)

like_ended : (o : OpenSystem) (s : Staff)
    → MayEnd o.join o.staves s.y → IsLike (system_ended o s) (ReaderState.Marks o s)
like_ended o s e l i m = grind arith

abbrev NoTitleFirst : List Item → Type 0
NoTitleFirst (Item.Title x y size words ∷ is) = ⊥
NoTitleFirst is = ⊤

abbrev with_items : OpenPage → List Item → OpenPage
with_items p is = record { sheet = p.sheet; items = p.items ++ is }

like_line : (p : OpenPage) (q : ReaderState) (l : Line)
    → IsLike p q → IsItemLine l → MayCome (ReaderState.Items p) l
    → Way q (state_after (ReaderState.Items p) l) (line_text l ++ 10 ∷ [])
like_line p q l like i m = let k = like l i m in way_as (way_line q l k.0) k.1 refl

later : (a b : ℕ) (ss : List Staff) (is : List Item) → InOrder (Item.System a b ss ∷ is) → NoTitleFirst is
later a b ss [] h = tt
later a b ss (i ∷ is) h = grind arith

rest_order : (i : Item) (is : List Item) → InOrder (i ∷ is) → InOrder is
rest_order i [] h = tt
rest_order i (j ∷ is) h = h.1

item_first : {q r : ReaderState} (p : OpenPage) (i : Item) (is : List Item)
    → Way q r (item_text i)
    → Way r (ReaderState.Closed (with_items (with_item p i) is)) (items_text is ++ codes "grestore\n")
    → Way q (ReaderState.Closed (with_items p (i ∷ is))) (items_text (i ∷ is) ++ codes "grestore\n")
unfolding items_text
item_first p i is a b =
    way_as (way_both a b)
    (ap (λ is. ReaderState.Closed (record { sheet = p.sheet; items = is })) (append_assoc p.items (i ∷ []) is))
    (sym (append_assoc (item_text i) (items_text is) (codes "grestore\n")))

items_way : (p : OpenPage) (q : ReaderState) (is : List Item)
    → IsLike p q → (q ≡ ReaderState.Items p) ⊎ NoTitleFirst is → All IsItem is → InOrder is
    → Way q (ReaderState.Closed (with_items p is)) (items_text is ++ codes "grestore\n")
unfolding items_text tune_text title_text system_text
items_way p q [] like first h o =
    way_as (like_line p q (line.Fixed (codes "grestore")) like tt refl)
    (ap (λ is. ReaderState.Closed (record { sheet = p.sheet; items = is })) (sym (append-nil p.items))) refl
items_way p q (Item.Tune k ∷ is) like first h o =
    let i = Item.Tune k in let r = with_item p i in
    item_first p i is (like_line p q (line.Tune k) like tt (All-head IsItem i is h))
    (items_way r (ReaderState.Items r) is (like_itself r) (inl refl) (All-tail IsItem i is h) (rest_order i is o))
items_way p q (Item.Title x y size words ∷ is) like (inr none) h o = absurd none
items_way p q (Item.Title x y size words ∷ is) like (inl here) h o =
    let i = Item.Title x y size words in let r = with_item p i in
    item_first p i is
    (subst (λ q. Way q (ReaderState.Items r) (item_text i)) (sym here)
    (way_line (ReaderState.Items p) (line.Title x y size words) (All-head IsItem i is h)))
    (items_way r (ReaderState.Items r) is (like_itself r) (inl refl) (All-tail IsItem i is h) (rest_order i is o))
items_way p q (Item.System a b ss ∷ is) like first h o =
    let i = Item.System a b ss in
    let r = with_item p i in
    let g = All-head IsItem i is h in
    let w = system_way p a b ss g in
    item_first p i is
    (way_as (way_both (like_line p q (line.System a b) like tt (g.rising, g.last)) w.2) refl (simp append_assoc))
    (items_way r (ReaderState.Marks w.0 w.1) is
    (subst (λ p. IsLike p (ReaderState.Marks w.0 w.1)) w.3.1 (like_ended w.0 w.1 w.3.0)) (inr (later a b ss is o))
    (All-tail IsItem i is h) (rest_order i is o))

-- pages
page_way : (s : Sheet) (p : Page)
    → IsPage p → length s.pages + 1 < 2 ^ 32
    → Way (ReaderState.Between s) (ReaderState.Between (record { frame = s.frame; pages = s.pages ++ p ∷ [] }))
    (document_page (length s.pages + 1) p)
unfolding document_page heading_text closing
page_way s p h few =
    let g : OpenPage = record { sheet = s; items = [] } in
    way_as (way_both (way_line (ReaderState.Between s) (line.Heading (length s.pages + 1)) (refl, few))
    (way_both (way_line (ReaderState.Headed s) (line.Fixed (codes "pg")) refl)
    (way_both (items_way g (ReaderState.Items g) p.items (like_itself g) (inl refl) h.items h.order)
    (way_line (ReaderState.Closed (with_items g p.items)) (line.Fixed (codes "showpage")) refl)))) refl
    (simp append_assoc)

pages_way : (f : Frame) (done ps : List Page) → All IsPage ps → length done + length ps < 2 ^ 32
    → Way (ReaderState.Between (record { frame = f; pages = done }))
    (ReaderState.Between (record { frame = f; pages = done ++ ps })) (numbered document_page (length done + 1) ps)
pages_way f done [] h few =
    way_as (way_none (ReaderState.Between (record { frame = f; pages = done })))
    (ap (λ ps. ReaderState.Between (record { frame = f; pages = ps })) (sym (append-nil done))) refl
pages_way f done (p ∷ ps) h few =
    let n = length-append done (p ∷ []) in
    let e : length (done ++ p ∷ []) + 1 ≡ length done + 1 + 1 = omega (arith, n) in
    way_as (way_both (page_way (record { frame = f; pages = done }) p (All-head IsPage p ps h) (omega arith))
    (way_as (pages_way f (done ++ p ∷ []) ps (All-tail IsPage p ps h) (omega (arith, n))) refl
    (ap (λ k. numbered document_page k ps) e)))
    (ap (λ ps. ReaderState.Between (record { frame = f; pages = ps })) (append_assoc done (p ∷ []) ps)) refl

end_way : (s : Sheet) → Way (ReaderState.Between s) (ReaderState.Ended s) (trailer (length s.pages))
unfolding trailer
end_way s =
    way_as (way_both (way_line (ReaderState.Between s) (line.Fixed (codes "%%Trailer")) refl)
    (way_both (way_line (ReaderState.Trailer s) (line.Fixed (count_line (length s.pages))) refl)
    (way_line (ReaderState.Counted s) (line.Fixed (codes "%%EOF")) refl))) refl (simp append_assoc)

-- the lines of a document are good
pub document_way : (s : Sheet) (text : List ℕ) → SpellsSheet s text → IsGoodThroughout documents text s
unfolding document
document_way s text h =
    let few = h.good.few in let pages = pages_way s.frame [] s.pages h.good.pages (omega (arith, few)) in
    let way = way_both (way_both (prolog_way s.frame h.good.frame) pages) (end_way s) in
    (way.lines, sym h.spelled ∙ way.text, way.leads)
