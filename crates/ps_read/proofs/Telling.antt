-- What the lines so far have said, and that a line that may come adds its text to it.
use Rattle.std.proofs.Common.{◌≡◌, ℕ, ℤ, pos, ◌+◌, ◌<◌, ◌^◌, ◌+ℤ◌, List, [], ◌∷◌, ◌++◌, ◌⊎◌, inl, inr, length, Option}
use Rattle.std.proofs.Common.{Some, None, IsSome, refl, sym, ◌∙◌, ap, subst, arith, codes, All, lit<, length-append}
use Rattle.std.proofs.Common.{true≢false}
use Rattle.std.proofs.lemmas.Grind.{flat_map-append}
use Rattle.std.proofs.lemmas.List.Elements.{All-push, All-nil}
use Rattle.std.specs.Prelude.{⊤}
use mathlib.Core.List.{append_assoc, append-nil}
use Rattle.{glyph_paths.specs.Names.{glyphs_in_order}}
use Rattle.mus_units.specs.Distances.{top_line}
use Rattle.ps_text.specs.Document.{numbered, mark_text, marks_text, rules_line, staff_line, staff_text, last_base}
use Rattle.ps_text.specs.Document.{join_line, join_text, system_line, system_text, title_text, tune_text, item_text}
use Rattle.ps_text.specs.Document.{items_text, heading_line, heading_text, closing, document_page, count_line, trailer}
use Rattle.ps_text.specs.Document.{document, SpellsSheet}
use Rattle.ps_text.specs.Line.{mark_line}
use Rattle.ps_text.specs.Prolog.{first_text, box_line, heading, procedures, page_line, glyph_lines, last_text, prolog}
use Rattle.ps_text.specs.Range.{IsNumber, IsPageMark, IsStaff, IsJoined, IsItem, IsAfter, InOrder, IsPage, IsFrame}
use Rattle.ps_text.specs.Range.{IsSheet}
use Rattle.ps_text.specs.declared.marks.PageMark.{PageMark}
use Rattle.ps_text.specs.declared.sheet.Frame.{Frame}
use Rattle.ps_text.specs.declared.sheet.Staff.{Staff}
use Rattle.ps_text.specs.declared.sheet.Item.{Item}
use Rattle.ps_text.specs.declared.sheet.Page.{Page}
use Rattle.ps_text.specs.declared.sheet.Sheet.{Sheet}
use Rattle.eng_reader.specs.{Grammar.{lines_then, Leads}, Answers.{IsGoodThroughout}}
use Rattle.ps_read.specs.Steps.{IsItemLine}
use Rattle.ps_read.specs.Lines.{Line, line_text, after_line}
use Rattle.ps_read.specs.ReaderStates.{frame_from_numbers, with_item, staff_with_mark, system_with_staff, system_ended}
use Rattle.ps_read.specs.ReaderStates.{IsUnderTop, MayEnd, MayCome, after_prolog, state_after, documents}
use Rattle.ps_read.specs.declared.state.Joined.{Joined}
use Rattle.ps_read.specs.declared.state.OpenPage.{OpenPage}
use Rattle.ps_read.specs.declared.state.OpenSystem.{OpenSystem}
use Rattle.ps_read.specs.declared.state.ReaderState.{ReaderState}
use Rattle.ps_read.specs.Lines as line

-- the text of whole pages, of a page whose items are being read, and of a system whose staves are being read
abbrev pub prefix : Sheet → List ℕ
prefix s = prolog s.frame ++ numbered document_page 1 s.pages

abbrev page_prefix : OpenPage → List ℕ
page_prefix p = prefix p.sheet ++ (heading_text (length p.sheet.pages + 1) ++ items_text p.items)

abbrev joining : Option Joined → List ℕ
joining None = []
joining (Some j) = join_line j.top j.foot ++ 10 ∷ []

abbrev system_prefix : OpenSystem → List ℕ
system_prefix o =
    page_prefix o.page ++ (system_line o.a o.b ++ (10 ∷ (joining o.join ++ numbered staff_text 0 o.staves)))

-- any item may follow these
abbrev IsOpenTo : List Item → Type 0
IsOpenTo [] = ⊤
IsOpenTo (i ∷ []) = (j : Item) → IsAfter i j
IsOpenTo (i ∷ j ∷ is) = IsOpenTo (j ∷ is)

record IsOpenPage (p : OpenPage) : Type 0 where
  sheet : IsSheet p.sheet
  few : length p.sheet.pages + 1 < 2 ^ 32
  items : All IsItem p.items
  order : InOrder p.items

-- staves are joined by a line whose top is at the top line of the first, or there is none yet
abbrev IsJoinedBy : Option Joined → List Staff → Type 0
IsJoinedBy None ss = ss ≡ []
IsJoinedBy (Some j) [] = IsNumber j.top
IsJoinedBy (Some j) (s ∷ ss) = ((s.y +ℤ pos top_line) ≡ j.top) × IsNumber j.top

record IsOpenSystem (o : OpenSystem) : Type 0 where
  page : IsOpenPage o.page
  rising : o.a < o.b
  last : o.b < 2 ^ 32
  joined : IsJoinedBy o.join o.staves
  good : All IsStaff o.staves

-- a staff whose marks are being read
record IsOpenStaff (o : OpenSystem) (s : Staff) : Type 0 where
  system : IsOpenSystem o
  staff : IsStaff s
  under : IsUnderTop o.join o.staves s.y

-- the text spells the state
abbrev Tells : ReaderState → List ℕ → Type 0
Tells ReaderState.Begun t = t ≡ []
Tells ReaderState.Titled t = t ≡ first_text
Tells (ReaderState.Boxed w h rest) t = t ++ rest ≡ (first_text ++ (box_line w h ++ 10 ∷ [])) ++ procedures
Tells (ReaderState.Framed f rest) t = (t ++ rest ≡ prolog f) × IsFrame f
Tells (ReaderState.Between s) t = (t ≡ prefix s) × IsSheet s
Tells (ReaderState.Headed s) t =
    (t ≡ prefix s ++ (heading_line (length s.pages + 1) ++ 10 ∷ [])) × IsSheet s × (length s.pages + 1 < 2 ^ 32)
Tells (ReaderState.Items p) t = (t ≡ page_prefix p) × IsOpenPage p × IsOpenTo p.items
Tells (ReaderState.System o) t = (t ≡ system_prefix o) × IsOpenSystem o × (o.staves ≡ [])
Tells (ReaderState.Staff o) t = (t ≡ system_prefix o ++ (staff_line (length o.staves) ++ 10 ∷ [])) × IsOpenSystem o
Tells (ReaderState.Marks o s) t = (t ≡ system_prefix (system_with_staff o s)) × IsOpenStaff o s
Tells (ReaderState.Closed p) t = (t ≡ page_prefix p ++ codes "grestore\n") × IsOpenPage p
Tells (ReaderState.Trailer s) t = (t ≡ prefix s ++ codes "%%Trailer\n") × IsSheet s
Tells (ReaderState.Counted s) t =
    (t ≡ prefix s ++ (codes "%%Trailer\n" ++ (count_line (length s.pages) ++ 10 ∷ []))) × IsSheet s
Tells (ReaderState.Ended s) t = SpellsSheet s t

-- one more at the end
numbered_push : {A : Type 0} (f : ℕ → A → List ℕ) (k m : ℕ) (xs : List A) (x : A)
    → m ≡ k + length xs → numbered f k (xs ++ x ∷ []) ≡ numbered f k xs ++ f m x
numbered_push f k m [] x e = let here : k ≡ m = omega (arith, e) in append-nil (f k x) ∙ ap (λ k. f k x) here
numbered_push f k m (y ∷ xs) x e =
    ap (λ t. f k y ++ t) (numbered_push f (k + 1) m xs x (omega (arith, e)))
    ∙ sym (append_assoc (f k y) (numbered f (k + 1) xs) (f m x))

marks_push : (k : ℕ) (s : Staff) (m : PageMark) → staff_text k (staff_with_mark s m) ≡ staff_text k s ++ mark_text s.y m
unfolding staff_text marks_text
marks_push k s m = simp (flat_map-append (mark_text s.y) s.marks, append-nil, append_assoc)

page_more : (p : OpenPage) (i : Item) → page_prefix (with_item p i) ≡ page_prefix p ++ item_text i
unfolding items_text
page_more p i = simp (flat_map-append item_text p.items, append-nil, append_assoc)

system_more : (o : OpenSystem) (s : Staff)
    → system_prefix (system_with_staff o s) ≡ system_prefix o ++ staff_text (length o.staves) s
system_more o s = rw (numbered_push staff_text 0 (length o.staves) o.staves s (omega arith)) (simp append_assoc)

last_base_push : (t : Staff) (ss : List Staff) (s : Staff) → last_base t (ss ++ s ∷ []) ≡ s.y
last_base_push t [] s = refl
last_base_push t (u ∷ ss) s = last_base_push u ss s

-- the line that joins the staves is the right one
joins : (j : Option Joined) (ss : List Staff) (s : Staff)
    → IsJoinedBy j ss → MayEnd j ss s.y → join_text (ss ++ s ∷ []) ≡ joining j
joins None ss s h m = ap (λ ss. join_text (ss ++ s ∷ [])) h
joins (Some j) [] s h m = let l = m.0 in absurd (omega arith)
joins (Some j) (t ∷ []) s h m = ap (λ a. join_line a s.y ++ 10 ∷ []) h.0 ∙ ap (λ b. join_line j.top b ++ 10 ∷ []) m.1
joins (Some j) (t ∷ u ∷ ss) s h m =
    ap (λ a. join_line a (last_base u (ss ++ s ∷ [])) ++ 10 ∷ []) h.0
    ∙ ap (λ b. join_line j.top b ++ 10 ∷ []) (last_base_push u ss s ∙ m.1)

ended_text : (o : OpenSystem) (s : Staff)
    → IsJoinedBy o.join o.staves → MayEnd o.join o.staves s.y
    → page_prefix (system_ended o s) ≡ system_prefix (system_with_staff o s)
unfolding system_text
ended_text o s h m =
    let ss = o.staves ++ s ∷ [] in
    let l = system_line o.a o.b in
    let n = numbered staff_text 0 ss in
    page_more o.page (Item.System o.a o.b ss) ∙ ap (λ v. page_prefix o.page ++ v)
    (ap (λ j. (l ++ 10 ∷ j) ++ n) (joins o.join o.staves s h m) ∙ append_assoc l (10 ∷ joining o.join) n)

joined_more : (j : Option Joined) (ss : List Staff) (s : Staff)
    → IsJoinedBy j ss → MayEnd j ss s.y → IsJoined (ss ++ s ∷ [])
joined_more None ss s h m = subst (λ ss. IsJoined (ss ++ s ∷ [])) (sym h) tt
joined_more (Some j) [] s h m = tt
joined_more (Some j) (t ∷ []) s h m = subst IsNumber (sym h.0) h.1
joined_more (Some j) (t ∷ u ∷ ss) s h m = subst IsNumber (sym h.0) h.1

-- the order of items
order_push : (is : List Item) (j : Item)
    → InOrder is → IsOpenTo is ⊎ ((i : Item) → IsAfter i j) → InOrder (is ++ j ∷ [])
order_push [] j h f = tt
order_push (i ∷ []) j h f = (elim f [ inl free ↦ free j | inr all ↦ all i ], tt)
order_push (i ∷ k ∷ is) j h f = (h.0, order_push (k ∷ is) j h.1 f)

open_push : (is : List Item) (j : Item) → ((k : Item) → IsAfter j k) → IsOpenTo (is ++ j ∷ [])
open_push [] j f = f
open_push (i ∷ []) j f = f
open_push (i ∷ k ∷ is) j f = open_push (k ∷ is) j f

open_more : (p : OpenPage) (i : Item)
    → IsOpenPage p → IsItem i → InOrder (p.items ++ i ∷ []) → IsOpenPage (with_item p i)
open_more p i h g o = record { sheet = h.sheet; few = h.few; items = All-push IsItem p.items i h.items g; order = o }

ended_good : (o : OpenSystem) (s : Staff) → IsOpenStaff o s → MayEnd o.join o.staves s.y → IsOpenPage (system_ended o s)
ended_good o s h m =
    let n = length-append o.staves (s ∷ []) in let y = h.system in let i = Item.System o.a o.b (o.staves ++ s ∷ []) in
    open_more o.page i y.page
    (record {
      rising = y.rising;
      last = y.last;
      some = omega (arith, n);
      joined = joined_more o.join o.staves s y.joined m;
      good = All-push IsStaff o.staves s y.good h.staff;
    })
    (order_push o.page.items i y.page.order (inr (λ i. grind arith)))

-- a line added after a text
line_taken : (t l rest more x : List ℕ) → rest ≡ l ++ 10 ∷ more → t ++ rest ≡ x → (t ++ (l ++ 10 ∷ [])) ++ more ≡ x
line_taken t l rest more x e h = rw (← h, e) (simp append_assoc)

prolog_ends : (f : Frame) (rest t : List ℕ) → t ++ rest ≡ prolog f → IsFrame f → Tells (after_prolog f rest) t
prolog_ends f [] t e h = (
  sym (append-nil t) ∙ (e ∙ sym (append-nil (prolog f))),
  record { frame = h; few = lit< tt; pages = All-nil IsPage },
)
prolog_ends f (b ∷ rest) t e h = (e, h)

pub first_reported : codes "%!PS-Adobe-3.0" ++ 10 ∷ [] ≡ first_text
unfolding first_text
first_reported = refl

scale_reported : (w h l b s : ℕ) (t : List ℕ)
    → t ≡ (first_text ++ (box_line w h ++ 10 ∷ [])) ++ procedures
    → (t ++ (page_line l b s ++ 10 ∷ [])) ++ (glyph_lines glyphs_in_order ++ last_text)
    ≡ prolog (frame_from_numbers w h l b s)
unfolding prolog heading
scale_reported w h l b s t e = rw e (simp append_assoc)

rules_reported : (o : OpenSystem) (w : ℕ) (y : ℤ) (t : List ℕ)
    → t ≡ system_prefix o ++ (staff_line (length o.staves) ++ 10 ∷ [])
    → t ++ (rules_line w y ++ 10 ∷ []) ≡ system_prefix (system_with_staff o (record { y = y; width = w; marks = [] }))
unfolding staff_text marks_text
rules_reported o w y t h =
    let s : Staff = record { y = y; width = w; marks = [] } in
    let e : t ++ (rules_line w y ++ 10 ∷ []) ≡ system_prefix o ++ staff_text (length o.staves) s =
    rw h (simp append_assoc) in
    e ∙ sym (system_more o s)

mark_reported : (o : OpenSystem) (s : Staff) (m : PageMark) (t : List ℕ)
    → t ≡ system_prefix (system_with_staff o s)
    → t ++ (mark_line s.y m ++ 10 ∷ []) ≡ system_prefix (system_with_staff o (staff_with_mark s m))
unfolding mark_text
mark_reported o s m t h =
    ap (λ t. t ++ (mark_line s.y m ++ 10 ∷ [])) (h ∙ system_more o s)
    ∙ (append_assoc (system_prefix o) (staff_text (length o.staves) s) (mark_line s.y m ++ 10 ∷ [])
    ∙ (ap (λ v. system_prefix o ++ v) (sym (marks_push (length o.staves) s m))
    ∙ sym (system_more o (staff_with_mark s m))))

joined_staff : (j : Option Joined) (ss : List Staff) (s : Staff)
    → IsJoinedBy j ss → IsSome j → IsUnderTop j ss s.y → IsJoinedBy j (ss ++ s ∷ [])
joined_staff None ss s h some u = absurd (true≢false (sym some))
joined_staff (Some j) [] s h some u = (u, h)
joined_staff (Some j) (t ∷ ss) s h some u = h

staff_good : (o : OpenSystem) (s : Staff) → IsOpenStaff o s → IsSome o.join → IsOpenSystem (system_with_staff o s)
staff_good o s h some = record {
  page = h.system.page;
  rising = h.system.rising;
  last = h.system.last;
  joined = joined_staff o.join o.staves s h.system.joined some h.under;
  good = All-push IsStaff o.staves s h.system.good h.staff;
}

-- a line that may come after a system as well as after a title
item_tells : (p : OpenPage) (l : Line) (t : List ℕ)
    → IsItemLine l → MayCome (ReaderState.Items p) l → t ≡ page_prefix p → IsOpenPage p
    → Tells (state_after (ReaderState.Items p) l) (t ++ (line_text l ++ 10 ∷ []))
unfolding tune_text
item_tells p (line.Tune k) t i m e h = (
  rw e (sym (page_more p (Item.Tune k))),
  open_more p (Item.Tune k) h m (order_push p.items (Item.Tune k) h.order (inr (λ i. grind arith))),
  open_push p.items (Item.Tune k) (λ i. tt),
)
item_tells p (line.System a b) t i m e h =
    (rw e refl, record { page = h; rising = m.0; last = m.1; joined = refl; good = All-nil IsStaff }, refl)
item_tells p (line.Fixed text) t i m e h = (rw (e, m) refl, h)
item_tells p l t i m e h = absurd i

step_tells : (p : ReaderState) (l : Line) (t : List ℕ)
    → MayCome p l → Tells p t → Tells (state_after p l) (t ++ (line_text l ++ 10 ∷ []))
unfolding title_text heading_text items_text document_page closing document trailer
step_tells ReaderState.Begun (line.Fixed text) t m h = rw (h, m) first_reported
step_tells ReaderState.Titled (line.Box w k) t m h = rw h refl
step_tells (ReaderState.Boxed w k rest) (line.Fixed text) t m h =
    line_taken t text rest (after_line text rest) _ m.first h
step_tells (ReaderState.Boxed w k rest) (line.PageStart l b s) t m h =
    (scale_reported w k l b s t (sym (append-nil t) ∙ (ap (λ r. t ++ r) (sym m.0) ∙ h)), m.1)
step_tells (ReaderState.Framed f rest) (line.Fixed text) t m h =
    prolog_ends f (after_line text rest) (t ++ (text ++ 10 ∷ []))
    (line_taken t text rest (after_line text rest) (prolog f) m.first h.0) h.1
step_tells (ReaderState.Between s) (line.Heading k) t m h =
    (rw (h.0, m.0) refl, h.1, let e = m.0 in let l = m.1 in omega (arith, e, l))
step_tells (ReaderState.Between s) (line.Fixed text) t m h = (rw (h.0, m) refl, h.1)
step_tells (ReaderState.Headed s) (line.Fixed text) t m h = (
  rw (h.0, m) (simp (append_assoc, append-nil)),
  record { sheet = h.1; few = h.2; items = All-nil IsItem; order = tt },
  tt,
)
step_tells (ReaderState.Items p) (line.Tune k) t m h = item_tells p (line.Tune k) t tt m h.0 h.1
step_tells (ReaderState.Items p) (line.System a b) t m h = item_tells p (line.System a b) t tt m h.0 h.1
step_tells (ReaderState.Items p) (line.Fixed text) t m h = item_tells p (line.Fixed text) t tt m h.0 h.1
step_tells (ReaderState.Items p) (line.Title x y size words) t m h =
    let i = Item.Title x y size words in (
      rw h.0 (sym (page_more p i)),
      open_more p i h.1 m (order_push p.items i h.1.order (inl h.2)),
      open_push p.items i (λ i. tt),
    )
step_tells (ReaderState.System o) (line.Join top foot) t m h = (
  rw (h.0, m.0, h.2) (simp (append_assoc, append-nil)),
  record {
    page = h.1.page;
    rising = h.1.rising;
    last = h.1.last;
    joined = subst (λ ss. IsJoinedBy (Some (record { top = top; foot = foot })) ss) (sym h.2) m.1;
    good = h.1.good;
  },
  h.2,
)
step_tells (ReaderState.System o) (line.StaffHead k) t m h = (rw (h.0, m, h.2) refl, h.1)
step_tells (ReaderState.Staff o) (line.Rules w y) t m h = (
  rules_reported o w y t h.0,
  record {
    system = h.1;
    staff = record { base = m.2; some = m.0; wide = m.1; drawn = All-nil (IsPageMark y) };
    under = m.3;
  },
)
step_tells (ReaderState.Marks o s) (line.Mark y k) t m h = (
  rw m.0 (mark_reported o s k t h.0),
  record {
    system = h.1.system;
    staff = record {
      base = h.1.staff.base;
      some = h.1.staff.some;
      wide = h.1.staff.wide;
      drawn = All-push (IsPageMark s.y) s.marks k h.1.staff.drawn m.1;
    };
    under = h.1.under;
  },
)
step_tells (ReaderState.Marks o s) (line.StaffHead k) t m h =
    (rw (h.0, m.1, length-append o.staves (s ∷ [])) refl, staff_good o s h.1 m.0)
step_tells (ReaderState.Marks o s) (line.Tune k) t m h =
    item_tells (system_ended o s) (line.Tune k) t tt m.1 (h.0 ∙ sym (ended_text o s h.1.system.joined m.0))
    (ended_good o s h.1 m.0)
step_tells (ReaderState.Marks o s) (line.System a b) t m h =
    item_tells (system_ended o s) (line.System a b) t tt (m.1, m.2) (h.0 ∙ sym (ended_text o s h.1.system.joined m.0))
    (ended_good o s h.1 m.0)
step_tells (ReaderState.Marks o s) (line.Fixed text) t m h =
    item_tells (system_ended o s) (line.Fixed text) t tt m.1 (h.0 ∙ sym (ended_text o s h.1.system.joined m.0))
    (ended_good o s h.1 m.0)
step_tells (ReaderState.Closed p) (line.Fixed text) t m h =
    let g : Page = record { items = p.items } in let n = length-append p.sheet.pages (g ∷ []) in let few = h.1.few in (
      rw (h.0, m, numbered_push document_page 1 (length p.sheet.pages + 1) p.sheet.pages g (omega arith))
          (simp append_assoc),
      record {
        frame = h.1.sheet.frame;
        few = omega (arith, n, few);
        pages = All-push IsPage p.sheet.pages g h.1.sheet.pages (record { items = h.1.items; order = h.1.order });
      },
    )
step_tells (ReaderState.Trailer s) (line.Fixed text) t m h =
    (rw (h.0, m) (append_assoc (prefix s) (codes "%%Trailer\n") (count_line (length s.pages) ++ 10 ∷ [])), h.1)
step_tells (ReaderState.Counted s) (line.Fixed text) t m h =
    record { good = h.1; spelled = rw (h.0, m) (simp append_assoc) }
step_tells p l t m h = absurd m

-- the lines that lead to a state spell it
leads_tell : (p q : ReaderState) (ls : List Line) (t : List ℕ)
    → Leads documents p ls q → Tells p t → Tells q (t ++ lines_then line_text ls [])
leads_tell p q [] t h k = subst (λ p. Tells p (t ++ [])) h (subst (λ t. Tells p t) (sym (append-nil t)) k)
leads_tell p q (l ∷ ls) t h k =
    subst (λ t. Tells q t)
    (append_assoc t (line_text l ++ 10 ∷ []) (lines_then line_text ls [])
    ∙ ap (λ v. t ++ v) (append_assoc (line_text l) (10 ∷ []) (lines_then line_text ls [])))
    (leads_tell (state_after p l) q ls (t ++ (line_text l ++ 10 ∷ [])) h.1 (step_tells p l t h.0 k))

-- good lines up to the end spell a document
pub lines_spell : (s : Sheet) (text : List ℕ) → IsGoodThroughout documents text s → SpellsSheet s text
lines_spell s text h =
    let reported = leads_tell ReaderState.Begun (ReaderState.Ended s) h.0 [] h.2 refl in
    record { good = reported.good; spelled = reported.spelled ∙ sym h.1 }
